-- Where the columns of a table lie in the bytes of its rows.
use Rattle.std.specs.Prelude.{◌≡◌, ℕ, ◌+◌, ◌==◌, Bool, true, List, [], ◌∷◌, Option, Some, option_map, slice_get}
use Rattle.std.specs.List.{list_any}
use Rattle.hy_rows.specs.Catalogue.{columns_of, definition_of}
use Rattle.hy_rows.specs.Columns.{Column, Domain, OneOf, Signed, Text, Unsigned, domain_of, offset_of, row_width, value_at, width_of}
use Rattle.hy_rows.specs.declared.catalogue.Table.{Table}
use Rattle.hy_rows.specs.declared.value.Value.{Value}
use Rattle.hy_columns.specs.declared.fields.Field.{Field}
use Rattle.hy_columns.specs.declared.fields.Segment.{Segment}

-- the value of a field in the bytes of a row
abbrev pub value_in : Field → List ℕ → Value
value_in field bytes = value_at (domain_of field.domain) bytes field.offset

-- where the bytes of a field end
abbrev pub end_of : Field → ℕ
end_of field = field.offset + width_of (domain_of field.domain)

-- numbers without sign are read in 1, 2, 4 or 8 bytes
abbrev pub is_width : ℕ → Bool
is_width width = list_any (λ known. width == known) (1 ∷ 2 ∷ 4 ∷ 8 ∷ [])

abbrev pub is_read : Domain → Bool
is_read (Unsigned width low high) = is_width width
is_read (Signed low high) = true
is_read (Text width) = true
is_read (OneOf width words) = true

-- a field is the one of the column at a place
pub record IsField (columns : List Column) (place : ℕ) (field : Field) : Type 0 where
  pub domain : option_map (λ column. column.domain) (slice_get columns place) ≡ Some (domain_of field.domain)
  pub offset : field.offset ≡ offset_of columns place

-- the segment of a table on pages, with the width of its rows
abbrev pub segment_of : Table → Option Segment
segment_of table =
    option_map (λ number. record { number = number; row_bytes = row_width (columns_of table) })
    (definition_of table).segment
