use Rattle.std.proofs.Common.{◌≡◌, ◌+◌, ◌≤◌}
use Rattle.std.specs.Prelude.{vec_capacity, length}
use Rattle.std.specs.Vec.Iter.{into_iter_len}
use Rattle.hy_engine.proofs.engine.unlocked.Given as goal

abbrev pub invariant-loop-lock : goal.invariant-loop-lock
invariant-loop-lock g l =
    (length l.values.items + into_iter_len l.lock-iterator ≡ length l.fn.locks.items)
    × (length l.fn.locks.items ≤ vec_capacity l.values)
