use Rattle.std.proofs.Common.{◌≡◌, ◌+◌, ◌≤◌, [], length, vec_capacity}
use Rattle.hy_crossing.specs.Lists.{Pairwise}
use Rattle.hy_crossing.specs.Pairs.{Before}
use Rattle.hy_forks.specs.inside.Places.{ForksExactlyHere}
use Rattle.hy_forks.proofs.partitions.Partitions.fork_all.Given as goal

-- the partitions before the place were forked, and their snapshots stand in order
abbrev pub invariant-loop-place : goal.invariant-loop-place
invariant-loop-place g l =
    Pairwise (Before (l.place + 1) (ForksExactlyHere g.row.N g.K.World.passes l.fn.journal.list.log []
    l.snapshots.items)) 1 l.fn.self (g.P.Parts.states l.parts)
    × (length l.snapshots.items ≡ l.place)
    × (length l.fn.self ≤ vec_capacity l.snapshots)
    × (l.journal.list.log ≡ l.fn.journal.list.log)
    × (l.place-end ≡ length l.fn.self)
