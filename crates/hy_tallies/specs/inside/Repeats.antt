-- Lines that have the key of the line before them.
use Rattle.std.specs.Prelude.{◌≡◌, ◌-◌, ◌<◌, ℕ, Bool, true, false, List, length, slice_index_or}
use Rattle.hy_query.specs.Rows.{Row}
use Rattle.hy_rows.specs.Rows.{value_at}
use Rattle.hy_tallies.specs.Lines.{row_at}

-- whether a line is one of some
abbrev pub IsNoted : List Bool → ℕ → Type 0
IsNoted lines line = slice_index_or lines line false ≡ true

-- of some lines, those are left that have the value of the line before
pub record HasRepeated (values : Row) (old new : List Bool) : Type 0 where
  pub long : length new ≡ length old
  pub left : (line : ℕ) → IsNoted new line → IsNoted old line × (value_at values line ≡ value_at values (line - 1))

-- and those that have its key
abbrev pub AreRepeats : List Row → List Bool → List Bool → Type 0
AreRepeats columns old new =
    (line : ℕ) → IsNoted new line → IsNoted old line × (row_at columns line ≡ row_at columns (line - 1))

-- each of them has the key of a line before it
abbrev pub Repeat : List Row → List Bool → Type 0
Repeat columns lines =
    (line : ℕ) → IsNoted lines line → (0 < line) × (row_at columns line ≡ row_at columns (line - 1))
