-- What a text says as rows of a table, and the text of rows.
use Rattle.std.specs.Prelude.{ℕ, ◌+◌, ◌-◌, Bool, true, false, ◌&&◌, ◌||◌, ◌==◌, if◌then◌else◌, List, [], ◌∷◌, length, map, take, Option, Some, None, bytes_eq}
use Rattle.std.specs.List.{concat}
use Rattle.csv.specs.Reading.{default_config, records, strip_bom}
use Rattle.csv.specs.Writing.{default_writer, row_text}
use Rattle.hy_rows.specs.Catalogue.{columns_of, names_of}
use Rattle.hy_rows.specs.declared.catalogue.Table.{Table}
use Rattle.hy_rows.specs.declared.catalogue.Table.TheVariants as tables
use Rattle.hy_rows.specs.declared.value.Value.{Value}
use Rattle.hy_csv.specs.Fields.{fields_of, row_lacking}

-- the rows that stand before the first record that is none, and the number of that record: 0 for the header
pub record Reading (Row : Type 0) : Type 0 where
  pub rows : List Row
  pub unread : Option ℕ

-- whether a record has these fields
abbrev pub has_fields : List (List ℕ) → List (List ℕ) → Bool
has_fields [] [] = true
has_fields [] (name ∷ names) = false
has_fields (field ∷ fields) [] = false
has_fields (field ∷ fields) (name ∷ names) = bytes_eq field name && has_fields fields names

-- how many columns the files of a table had at first: those of CUSTOMER had no C_DATA
abbrev pub columns_at_first : Table → ℕ
columns_at_first tables.Customer = 12
columns_at_first table = length (columns_of table)

-- whether a record is a header of a table: the names of all columns, or of those that its files had at first
abbrev pub is_header : Table → List (List ℕ) → Bool
is_header table header =
    has_fields header (names_of table) || has_fields header (take (columns_at_first table) (names_of table))

-- the row that a record under a header says: an empty field stands for each column that the header lacks
abbrev pub row_under : {Row : Type 0} → Table → (List Value → Row) → List (List ℕ) → List (List ℕ) → Option Row
row_under table row_with header fields = row_lacking table row_with (length (columns_of table) - length header) fields

-- the row that a record is, and then more rows
abbrev pub rows_next : {Row : Type 0} → Option Row → List Row → List Row
rows_next None later = []
rows_next (Some row) later = row ∷ later

-- the rows that the records are, up to the first that is none
abbrev pub rows_of : {Row : Type 0} → (List (List ℕ) → Option Row) → List (List (List ℕ)) → List Row
rows_of row_of [] = []
rows_of row_of (fields ∷ later) = rows_next (row_of fields) (rows_of row_of later)

-- rows before the end of so many records, or before the next record
abbrev pub rows_before : {Row : Type 0} → ℕ → List Row → Reading Row
rows_before count rows = record {
  rows = rows;
  unread = if length rows == count then None else Some (length rows + 1);
}

-- the records of a text: a header, and a row each
abbrev pub reading_of : {Row : Type 0} → (List (List ℕ) → Bool) → (List (List ℕ) → List (List ℕ) → Option Row)
    → List (List (List ℕ)) → Reading Row
reading_of is_header row_under [] = record { rows = []; unread = Some 0 }
reading_of is_header row_under (header ∷ later) =
    if is_header header then rows_before (length later) (rows_of (row_under header) later)
    else record { rows = []; unread = Some 0 }

-- what a text says, a byte order mark at its start passed over
abbrev pub reading : {Row : Type 0} → (List (List ℕ) → Bool) → (List (List ℕ) → List (List ℕ) → Option Row) → List ℕ
    → Reading Row
reading is_header row_under text = reading_of is_header row_under (records default_config (strip_bom text))

-- the text of rows: the names of the columns, and a record for each row
abbrev pub text_of_rows : {Row : Type 0} → List (List ℕ) → (Row → List (List ℕ)) → List Row → List ℕ
text_of_rows names fields_of rows = concat (map (row_text default_writer) (names ∷ map fields_of rows))

-- the same of a table's rows: what a text says, and the text of rows
abbrev pub table_reading : {Row : Type 0} → Table → (List Value → Row) → List ℕ → Reading Row
table_reading table row_with text = reading (is_header table) (row_under table row_with) text

abbrev pub table_text : {Row : Type 0} → Table → (Row → List Value) → List Row → List ℕ
table_text table values_of rows = text_of_rows (names_of table) (λ row. fields_of (values_of row)) rows
