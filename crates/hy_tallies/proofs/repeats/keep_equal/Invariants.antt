use Rattle.std.proofs.Common.{◌≡◌, ◌-◌, ◌<◌, ℕ, length}
use Rattle.hy_rows.specs.Rows.{value_at}
use Rattle.hy_tallies.specs.inside.Repeats.{IsNoted}
use Rattle.hy_tallies.proofs.repeats.keep_equal.Given as goal

-- the lines so far, and those that are left
abbrev pub invariant-loop-line : goal.invariant-loop-line
invariant-loop-line g l = record {
  long : length l.repeats ≡ length l.fn.repeats;
  kept : (line : ℕ) → IsNoted l.repeats line → IsNoted l.fn.repeats line;
  left : (line : ℕ) → 0 < line → line < l.line → IsNoted l.repeats line
      → value_at (g.V.ByPlace.values l.values) line ≡ value_at (g.V.ByPlace.values l.values) (line - 1);
}
