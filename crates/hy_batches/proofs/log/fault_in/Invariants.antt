use Rattle.std.proofs.Common.{length}
use Rattle.hy_batches.specs.inside.Nexts.{AreBefore}
use Rattle.hy_batches.proofs.log.fault_in.Given as goal

-- the batches that were passed
abbrev pub invariant-batches : goal.invariant-batches
invariant-batches l = AreBefore l.bytes l.edition l.rest

abbrev pub decreases-batches : goal.decreases-batches
decreases-batches l = length l.rest
