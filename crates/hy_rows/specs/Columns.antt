-- Columns: which values a column has, how they lie in the bytes of a row, and which of them a loaded row may have.
use Rattle.std.specs.Prelude.{ℕ, ℤ, pos, ◌+◌, ◌^◌, ◌<◌, Bool, true, false, ◌&&◌, nat_le, int_le, ⊤, List, [], ◌∷◌, ◌++◌, length, map, take, bytes_eq, FitsSigned}
use Rattle.std.specs.Int.{w64, cast_signed, cast_unsigned}
use Rattle.std.specs.List.{list_all, list_any}
use Rattle.hy_page.specs.Bytes.{number_of, bytes_of, bytes_at}
use Rattle.hy_rows.specs.Ranges.{is_between}
use Rattle.hy_rows.specs.Texts.{IsText, padded, text_of}
use Rattle.hy_rows.specs.declared.column.ColumnDefinition.{ColumnDefinition as WrittenColumn}
use Rattle.hy_rows.specs.declared.column.Domain.{Domain as WrittenDomain}
use Rattle.hy_rows.specs.declared.column.Domain.TheVariants as written
use Rattle.hy_rows.specs.declared.value.Value.{Value}
use Rattle.hy_rows.specs.declared.value.Value.TheVariants as values

-- which values a column has, and how they lie in a row
pub data Domain : Type 0 where
  -- whole numbers without sign, in so many bytes: the least and the greatest that a loaded row may have
  Unsigned : ℕ → ℕ → ℕ → Domain
  -- whole numbers in eight bytes of two's complement: the least and the greatest
  Signed : ℤ → ℤ → Domain
  -- texts in a field of so many bytes: printable ones
  Text : ℕ → Domain
  -- texts in a field of so many bytes: one of these
  OneOf : ℕ → List (List ℕ) → Domain

-- a column: its name, as TPC-C writes it, and which values it has
pub record Column : Type 0 where
  pub name : List ℕ
  pub domain : Domain

-- a column as the code writes it
abbrev pub domain_of : WrittenDomain → Domain
domain_of (written.Unsigned width low high) = Unsigned width low high
domain_of (written.Signed low high) = Signed low high
domain_of (written.Text width) = Text width
domain_of (written.OneOf width words) = OneOf width (map (λ word. word.now) words.now)

abbrev pub defined : WrittenColumn → Column
defined column = record { name = column.name.now; domain = domain_of column.domain }

-- ---- the values that a loaded row may have

abbrev pub is_printable : List ℕ → Bool
is_printable text = list_all (λ byte. is_between 32 126 byte) text

abbrev pub allows : Domain → Value → Bool
allows (Unsigned width low high) (values.Whole (pos number)) = is_between low high number
allows (Signed low high) (values.Whole number) = int_le low number && int_le number high
allows (Text width) (values.Text text) = nat_le (length text) width && is_printable text
allows (OneOf width words) (values.Text text) = list_any (λ word. bytes_eq word text) words
allows domain value = false

-- whether each value of a row may be in its column
abbrev pub are_allowed : List Column → List Value → Bool
are_allowed [] [] = true
are_allowed (column ∷ columns) (value ∷ row) = allows column.domain value && are_allowed columns row
are_allowed columns row = false

-- ---- the bytes of a row

-- how many bytes a value takes
abbrev pub width_of : Domain → ℕ
width_of (Unsigned width low high) = width
width_of (Signed low high) = 8
width_of (Text width) = width
width_of (OneOf width words) = width

-- how many bytes a row takes
abbrev pub row_width : List Column → ℕ
row_width [] = 0
row_width (column ∷ columns) = width_of column.domain + row_width columns

-- where the column at a place begins: behind those before it
abbrev pub offset_of : List Column → ℕ → ℕ
offset_of columns place = row_width (take place columns)

-- the number, the signed number and the text that stand at an offset
abbrev pub number_at : List ℕ → ℕ → ℕ → ℕ
number_at bytes offset width = number_of (bytes_at bytes offset width)

abbrev pub signed_at : List ℕ → ℕ → ℤ
signed_at bytes offset = cast_signed w64 (number_at bytes offset 8)

abbrev pub text_at : List ℕ → ℕ → ℕ → List ℕ
text_at bytes offset width = text_of (bytes_at bytes offset width)

-- the value of a column that begins at an offset
abbrev pub value_at : Domain → List ℕ → ℕ → Value
value_at (Unsigned width low high) bytes offset = values.Whole (pos (number_at bytes offset width))
value_at (Signed low high) bytes offset = values.Whole (signed_at bytes offset)
value_at (Text width) bytes offset = values.Text (text_at bytes offset width)
value_at (OneOf width words) bytes offset = values.Text (text_at bytes offset width)

-- the values of columns that lie one behind another from an offset on
abbrev pub values_from : List Column → ℕ → List ℕ → List Value
values_from [] offset bytes = []
values_from (column ∷ columns) offset bytes =
    value_at column.domain bytes offset ∷ values_from columns (offset + width_of column.domain) bytes

-- the values that the bytes of a row say
abbrev pub values_in : List Column → List ℕ → List Value
values_in columns bytes = values_from columns 0 bytes

-- a signed number in eight bytes
abbrev pub signed_bytes : ℤ → List ℕ
signed_bytes number = bytes_of 8 (cast_unsigned w64 number)

-- the bytes of a value
abbrev pub value_bytes : Domain → Value → List ℕ
value_bytes (Unsigned width low high) (values.Whole (pos number)) = bytes_of width number
value_bytes (Signed low high) (values.Whole number) = signed_bytes number
value_bytes (Text width) (values.Text text) = padded width text
value_bytes (OneOf width words) (values.Text text) = padded width text
value_bytes domain value = []

-- the bytes of a row
abbrev pub row_bytes : List Column → List Value → List ℕ
row_bytes (column ∷ columns) (value ∷ row) = value_bytes column.domain value ++ row_bytes columns row
row_bytes columns row = []

-- a value fits the bytes of its column
abbrev pub Fits : Domain → Value → Type 0
Fits (Unsigned width low high) (values.Whole (pos number)) = number < 256 ^ width
Fits (Signed low high) (values.Whole number) = FitsSigned w64 number
Fits (Text width) (values.Text text) = IsText width text
Fits (OneOf width words) (values.Text text) = IsText width text
Fits domain value = ⊥

abbrev pub AllFit : List Column → List Value → Type 0
AllFit [] [] = ⊤
AllFit (column ∷ columns) (value ∷ row) = Fits column.domain value × AllFit columns row
AllFit columns row = ⊥
