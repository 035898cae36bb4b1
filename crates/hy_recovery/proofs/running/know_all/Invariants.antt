-- What holds of the partitions so far.
use Rattle.std.proofs.Common.{◌<◌, ℕ, slice_get}
use Rattle.std.specs.Prelude.{IfSome}
use Rattle.hy_forks.specs.of_partition.Headline.{Headline}
use Rattle.hy_recovery.proofs.running.know_all.Given as goal

abbrev pub invariant-loop-place : goal.invariant-loop-place
invariant-loop-place g l = (k : ℕ) → k < l.place → IfSome (slice_get l.parts k) (Headline g.row.N)
