-- A row found at its place, and what a change of it makes of its table.
use Rattle.std.specs.Prelude.{◌≡◌, ℕ, ◌<◌, Bool, List, Some, find, length, slice_get, slice_set}
use Rattle.hy_rows.specs.Finding.{with_changed}

-- the first row that passes a test stands at a place, and is the only one: a change of it is a row put there
pub record IsFoundAt {Row : Type 0} (test : Row → Bool) (rows : List Row) (place : ℕ) (row : Row) : Type 0 where
  pub here : slice_get rows place ≡ Some row
  pub within : place < length rows
  pub found : find test rows ≡ Some row
  pub changed : (change : Row → Row) → with_changed test change rows ≡ slice_set rows place (change row)
