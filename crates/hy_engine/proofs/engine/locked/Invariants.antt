use Rattle.std.proofs.Common.{◌≡◌, ◌+◌, ◌≤◌}
use Rattle.std.specs.Prelude.{vec_capacity, length}
use Rattle.std.specs.Vec.Iter.{into_iter_len}
use Rattle.hy_engine.proofs.engine.locked.Given as goal

abbrev pub invariant-loop-value : goal.invariant-loop-value
invariant-loop-value g l =
    (length l.locks.items + into_iter_len l.value-iterator ≡ length l.fn.values.items)
    × (length l.fn.values.items ≤ vec_capacity l.locks)
