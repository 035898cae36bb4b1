use Rattle.std.proofs.Common.{◌≡◌}
use Rattle.hy_partition.specs.Partition.{terms_of}
use Rattle.hy_bench.proofs.fork_rounds.fork_again.Given as goal

abbrev pub invariant-loop : goal.invariant-loop
invariant-loop g l = terms_of l.partition ≡ terms_of l.fn.partition
