use Rattle.hy_space.specs.Space.{SameForChildren}
use Rattle.hy_bench.proofs.space_rounds.write_each.Given as goal

abbrev pub invariant-loop-round : goal.invariant-loop-round
invariant-loop-round l = SameForChildren l.fn.space l.space
