-- Columns of rows in slots that are spanned.
use Rattle.std.specs.Prelude.{◌≡◌, ℕ, ◌+◌, ◌^◌, ◌<◌, ◌≤◌, true, All, List, length}
use Rattle.hy_rows.specs.Columns.{number_at, text_at}
use Rattle.hy_rows.specs.Spelling.{HasSlots, is_spanned}
use Rattle.hy_columns.specs.declared.spanned.SpannedColumn.{SpannedColumn}

-- a segment has its slots over the ends of pages, of n bytes each
pub record AreSpanned (n row_bytes : ℕ) (pages : List (List ℕ)) : Type 0 where
  pub slots : HasSlots n row_bytes pages
  pub spanned : is_spanned row_bytes ≡ true
  pub sized : All (λ page. length page ≡ n) pages
  pub few : length pages < 2 ^ 32

-- a column lies within the row
abbrev pub IsWithin : SpannedColumn → Type 0
IsWithin column = column.offset + column.width ≤ column.segment.row_bytes

-- what the bits of a column say in the bytes of a row
abbrev pub bits_in : {Read : Type 0} → (ℕ → Read) → SpannedColumn → List ℕ → Read
bits_in value_of column row = value_of (number_at row column.offset column.width)

-- its text
abbrev pub text_in : SpannedColumn → List ℕ → List ℕ
text_in column row = text_at row column.offset column.width
