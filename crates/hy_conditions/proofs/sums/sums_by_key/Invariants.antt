use Rattle.hy_conditions.proofs.RunLaws.{HasRun}
use Rattle.hy_conditions.proofs.sums.sums_by_key.Given as goal

-- the map and the run have the sums over the entries so far
abbrev pub invariant-loop-entry : goal.invariant-loop-entry
invariant-loop-entry g l = HasRun g.K.PartialEq.eq l.sums l.run l.entries l.entry-index
