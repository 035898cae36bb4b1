use Rattle.std.proofs.Common.{◌≡◌, ◌+◌, length}
use mathlib.Core.List.{IsPrefix}
use Rattle.hy_crossing.specs.Lists.{Pairwise}
use Rattle.hy_crossing.specs.Pairs.{Before}
use Rattle.hy_forks.specs.inside.Places.{ClosesExactlyHere, From}
use Rattle.hy_forks.proofs.closing.close_each.Given as goal

-- the snapshots behind those that are left were closed
abbrev pub invariant-loop : goal.invariant-loop
invariant-loop g l =
    (l.counter + length l.snapshots.items ≡ l.end) × IsPrefix l.snapshots.items l.fn.snapshots.items
    × Pairwise (From (length l.snapshots.items + 1) (Before (length l.fn.snapshots.items + 1)
    (ClosesExactlyHere l.fn.snapshots.items))) 1 (g.P.Parts.states l.fn.parts) (g.P.Parts.states l.parts)
