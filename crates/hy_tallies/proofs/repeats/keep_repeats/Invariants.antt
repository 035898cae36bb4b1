use Rattle.std.proofs.Common.{◌≡◌, ◌-◌, ℕ, drop, length, map}
use Rattle.hy_tallies.specs.Lines.{column_in, row_at}
use Rattle.hy_tallies.specs.inside.Repeats.{IsNoted}
use Rattle.hy_tallies.proofs.repeats.keep_repeats.Given as goal

-- the columns that are left lead to the whole
abbrev pub invariant-loop-column : goal.invariant-loop-column
invariant-loop-column l = record {
  long : length l.repeats ≡ length l.fn.repeats;
  left : (line : ℕ) → IsNoted l.repeats line
      → row_at (map column_in (drop l.column-index l.columns)) line
      ≡ row_at (map column_in (drop l.column-index l.columns)) (line - 1)
      → IsNoted l.fn.repeats line
      × (row_at (map column_in l.columns) line ≡ row_at (map column_in l.columns) (line - 1));
}
