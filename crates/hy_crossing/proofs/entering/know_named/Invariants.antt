use Rattle.std.proofs.Common.{◌≡◌}
use Rattle.hy_crossing.proofs.StillLaws.{AreKnownBefore}
use Rattle.hy_crossing.proofs.WalkLaws.{start_of}
use Rattle.hy_crossing.proofs.entering.know_named.Given as goal

-- the partitions before the place are known, and all stay
abbrev pub invariant-loop-place : goal.invariant-loop-place
invariant-loop-place g l =
    (g.P.Parts.states l.parts ≡ g.P.Parts.states l.fn.parts)
    × AreKnownBefore l.command g.K.World.passes.partitions (g.P.Parts.states l.fn.parts) (start_of l.places l.place-index)
