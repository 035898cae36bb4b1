-- C_DATA of a customer by itself: the last column of its row.
use Rattle.std.specs.Prelude.{ℕ, nat_lt, if◌then◌else◌, List, [], ◌∷◌, ◌++◌, drop, length}
use Rattle.hy_rows.specs.Catalogue.{columns_of}
use Rattle.hy_rows.specs.Columns.{Column, values_in}
use Rattle.hy_rows.specs.Rows.{text_of}
use Rattle.hy_rows.specs.declared.catalogue.Table.TheVariants as tables
use Rattle.hy_rows.specs.declared.customer.Customer.{Customer}
use Rattle.hy_writers.specs.declared.information.CustomerInformation.{CustomerInformation}

abbrev pub information_columns : List Column
information_columns = drop 12 (columns_of tables.Customer)

abbrev pub information_of : Customer → CustomerInformation
information_of row = record { text = row.information }

abbrev pub with_information : Customer → CustomerInformation → Customer
with_information row part = record row { information = part.text }

abbrev pub information_in : List ℕ → CustomerInformation
information_in bytes = record { text = text_of (values_in information_columns bytes) 0 }

-- what makes a field hold a text, whatever stood there: the text, and a zero behind it where it doesn't fill the field
abbrev pub ended : ℕ → List ℕ → List ℕ
ended width text = text ++ (if nat_lt (length text) width then 0 ∷ [] else [])

abbrev pub information_bytes : CustomerInformation → List ℕ
information_bytes part = ended 500 part.text
