use Rattle.hy_partition.specs.Unsettled.{part_of}
use Rattle.hy_crossing.proofs.StillLaws.{AreUndoneBefore}
use Rattle.hy_crossing.proofs.WalkLaws.{start_of}
use Rattle.hy_crossing.proofs.undoing.undo_parts.Given as goal

-- the parts before the place are undone, where the command names their warehouses, and counted no more
abbrev pub invariant-loop-place : goal.invariant-loop-place
invariant-loop-place g l =
    AreUndoneBefore l.command l.end (part_of l.fn.unsettled) (g.P.Parts.states l.fn.parts) (g.P.Parts.states l.parts)
    l.unsettled (start_of l.places l.place-index)
