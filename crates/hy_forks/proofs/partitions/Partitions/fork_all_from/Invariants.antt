use Rattle.std.proofs.Common.{◌≡◌, ◌+◌, ◌≤◌, length, vec_capacity}
use Rattle.hy_crossing.specs.Lists.{Pairwise}
use Rattle.hy_crossing.specs.Pairs.{Before}
use Rattle.hy_forks.specs.inside.Places.{ForksFromExactlyHere}
use Rattle.hy_forks.proofs.partitions.Partitions.fork_all_from.Given as goal

-- the partitions before the place have a snapshot more each, and these stand in order
abbrev pub invariant-loop-place : goal.invariant-loop-place
invariant-loop-place g l =
    Pairwise (Before (l.place + 1) (ForksFromExactlyHere g.K.World.passes l.fn.all l.snapshots.items)) 1
    l.fn.self (g.P.Parts.states l.parts)
    × (length l.snapshots.items ≡ l.place)
    × (length l.fn.self ≤ vec_capacity l.snapshots)
    × (l.place-end ≡ length l.fn.self)
