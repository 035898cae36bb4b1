use Rattle.std.proofs.Common.{◌≡◌, ◌≤◌}
use Rattle.std.specs.Prelude.{vec_capacity, length}
use Rattle.hy_passes.proofs.kit.blank_desks.Given as goal

abbrev pub invariant-loop : goal.invariant-loop
invariant-loop l = (length l.desks.items ≡ l.counter) × (l.partitions ≤ vec_capacity l.desks)
