-- What a field says as a value of its column, the field that a value is written as, and which values fields can say.
use Rattle.std.specs.Prelude.{◌==◌, ⊤, ℕ, ℤ, pos, negsuc, ◌^◌, ◌*◌, ◌<◌, Bool, ◌&&◌, nat_lt, nat_le, if◌then◌else◌, List, [], ◌∷◌, ◌++◌, length, map, replicate, Option, Some, None, option_and_then, option_map, bytes_eq, FitsSigned}
use Rattle.std.specs.Fmt.{signed_decimal}
use Rattle.std.specs.Int.{w64}
use Rattle.std.specs.Str.Parse.{signed_digits_value}
use Rattle.csv.specs.Records.{field_at}
use Rattle.hy_decimal.specs.Numbers.{number_of}
use Rattle.hy_rows.specs.Catalogue.{columns_of}
use Rattle.hy_rows.specs.Columns.{Column, Domain, OneOf, Signed, Text, Unsigned, is_printable}
use Rattle.hy_rows.specs.Ranges.{IsLoadedText}
use Rattle.hy_rows.specs.Records.{Fields, values_said}
use Rattle.hy_rows.specs.declared.catalogue.Table.{Table}
use Rattle.hy_rows.specs.declared.value.Value.{Value}
use Rattle.hy_rows.specs.declared.value.Value.TheVariants as values

-- whether a signed number has 64 bits: `negsuc number` is one below the negated number
abbrev pub is_signed : ℤ → Bool
is_signed (pos number) = nat_lt number (2 ^ 63)
is_signed (negsuc number) = nat_lt number (2 ^ 63)

-- the signed number of 64 bits that is written as this field, if one is
unfoldable pub signed_of : List ℕ → Option ℤ
signed_of field =
    let number = signed_digits_value 10 field in
    if is_signed number && bytes_eq field (signed_decimal number) then Some number else None

-- the field itself, where it is printable ASCII within the width
unfoldable pub text_of : ℕ → List ℕ → Option (List ℕ)
text_of width field = if nat_le (length field) width && is_printable field then Some field else None

-- what the field at a place says
abbrev pub at_place : {Value : Type 0} → (List ℕ → Option Value) → List (List ℕ) → ℕ → Option Value
at_place of_field fields place = option_and_then of_field (field_at fields place)

abbrev pub number_at : ℕ → List (List ℕ) → ℕ → Option ℕ
number_at bits fields place = at_place (number_of bits) fields place

abbrev pub signed_at : List (List ℕ) → ℕ → Option ℤ
signed_at fields place = at_place signed_of fields place

abbrev pub text_at : ℕ → List (List ℕ) → ℕ → Option (List ℕ)
text_at width fields place = at_place (text_of width) fields place

-- what the fields of a record say
abbrev pub said_by : List (List ℕ) → Fields
said_by fields = record {
  number = λ bits place. number_at bits fields place;
  signed = λ place. signed_at fields place;
  text = λ width place. text_at width fields place;
}

-- the row that the fields of a record say: one for each column, and each a value of its column
abbrev pub row_of : {Row : Type 0} → Table → (List Value → Row) → List (List ℕ) → Option Row
row_of table row_with fields =
    if length fields == length (columns_of table)
    then option_map row_with (values_said (said_by fields) (columns_of table) 0) else None

-- the same of a record that lacks so many fields at its end, which are empty
abbrev pub row_lacking : {Row : Type 0} → Table → (List Value → Row) → ℕ → List (List ℕ) → Option Row
row_lacking table row_with lacking fields = row_of table row_with (fields ++ replicate lacking [])

-- the field that a value is written as
abbrev pub field_of : Value → List ℕ
field_of (values.Whole number) = signed_decimal number
field_of (values.Text text) = text

-- the fields of a row's record
abbrev pub fields_of : List Value → List (List ℕ)
fields_of row = map field_of row

-- a value that a field can say: a number of its column's bytes, or a printable text of its width
abbrev pub FitsField : Domain → Value → Type 0
FitsField (Unsigned width low high) (values.Whole (pos number)) = number < 2 ^ (8 * width)
FitsField (Signed low high) (values.Whole number) = FitsSigned w64 number
FitsField (Text width) (values.Text text) = IsLoadedText width text
FitsField (OneOf width words) (values.Text text) = IsLoadedText width text
FitsField domain value = ⊥

abbrev pub AllFitFields : List Column → List Value → Type 0
AllFitFields [] [] = ⊤
AllFitFields (column ∷ columns) (value ∷ row) = FitsField column.domain value × AllFitFields columns row
AllFitFields columns row = ⊥
