use Rattle.std.proofs.Common.{◌≡◌}
use Rattle.hy_crossing.proofs.StillLaws.{AreKeptBefore}
use Rattle.hy_crossing.proofs.WalkLaws.{start_of}
use Rattle.hy_crossing.proofs.keeping.keep_parts.Given as goal

-- the parts before the place are kept, told and counted no more, and the share is there once the home was passed
abbrev pub invariant-loop-place : goal.invariant-loop-place
invariant-loop-place g l =
    (l.list.log ≡ l.fn.list.log)
    × AreKeptBefore l.edition l.command l.crossing l.fn.list.log l.fn.unsettled (g.P.Parts.states l.fn.parts)
    (g.P.Parts.states l.parts) l.unsettled l.list.behind (start_of l.places l.place-index)
