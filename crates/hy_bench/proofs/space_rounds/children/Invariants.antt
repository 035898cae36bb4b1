use Rattle.std.specs.Prelude.{IsSome}
use Rattle.hy_space.specs.Space.{child_table}
use Rattle.hy_bench.proofs.space_rounds.children.Given as goal

abbrev pub invariant-loop : goal.invariant-loop
invariant-loop l = IsSome (child_table l.space l.first)
