use Rattle.std.proofs.Common.{◌≡◌, ◌≤◌}
use Rattle.std.specs.Prelude.{vec_capacity, length}
use Rattle.hy_storm.proofs.commands.order.Given as goal

abbrev pub invariant-loop-line : goal.invariant-loop-line
invariant-loop-line l = (length l.lines.items ≡ l.line) × (5 ≤ vec_capacity l.lines)
