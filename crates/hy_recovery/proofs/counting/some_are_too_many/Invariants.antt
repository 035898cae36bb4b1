-- Those of the warehouses before aren't too many.
use Rattle.std.proofs.Common.{◌<◌, ◌≤◌, ℕ, length}
use Rattle.hy_recovery.specs.Recovering.{joined}
use Rattle.hy_recovery.proofs.counting.some_are_too_many.Given as goal

abbrev pub invariant-loop-place : goal.invariant-loop-place
invariant-loop-place l = (k : ℕ) → k < l.place → length (joined l.batches k) ≤ l.most
