-- The text of an answer.
use Rattle.std.specs.Prelude.{ℕ, List, ◌++◌, codes, decimal, length, map}
use Rattle.std.specs.Fmt.{signed_decimal}
use Rattle.std.specs.List.{flat_map}
use Rattle.csv.specs.Writing.{default_writer, row_text}
use Rattle.hy_rows.specs.declared.value.Value.{Value}
use Rattle.hy_rows.specs.declared.value.Value.TheVariants.{Text, Whole}
use Rattle.hy_query.specs.Rows.{Row}

-- a value as the field of a record: a whole number in decimal digits, a text by its bytes
abbrev pub field_of : Value → List ℕ
field_of (Whole number) = signed_decimal number
field_of (Text text) = text

-- a row as a record
abbrev pub record_text : Row → List ℕ
record_text row = row_text default_writer (map field_of row)

-- a record for each row, and then how many rows there are
abbrev pub answer_text : List Row → List ℕ
answer_text rows = flat_map record_text rows ++ (decimal (length rows) ++ codes " rows\n")
