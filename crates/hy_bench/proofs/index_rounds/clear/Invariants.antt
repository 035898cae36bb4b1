use Rattle.hy_bench.specs.Indexes.{IsIndexed}
use Rattle.hy_bench.proofs.index_rounds.clear.Given as goal

abbrev pub invariant-loop-round : goal.invariant-loop-round
invariant-loop-round l = IsIndexed l.indexed.space l.indexed.undo
