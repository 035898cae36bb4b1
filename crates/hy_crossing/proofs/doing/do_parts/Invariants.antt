use Rattle.hy_crossing.proofs.StillLaws.{AreDoneBefore}
use Rattle.hy_crossing.proofs.WalkLaws.{start_of}
use Rattle.hy_crossing.proofs.doing.do_parts.Given as goal

-- the parts before the place are done and counted, and the reply is there once the place of the customer's warehouse was
-- passed
abbrev pub invariant-loop-place : goal.invariant-loop-place
invariant-loop-place g l =
    AreDoneBefore l.edition l.command (g.P.Parts.states l.fn.parts) (g.P.Parts.states l.parts) l.unsettled
    (start_of l.places l.place-index)
