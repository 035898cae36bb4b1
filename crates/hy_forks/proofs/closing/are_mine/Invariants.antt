use Rattle.std.proofs.Common.{◌≡◌, drop, length}
use Rattle.hy_forks.specs.Forks.{are_from}
use Rattle.hy_forks.proofs.closing.are_mine.Given as goal

-- all depends on the snapshots from the place on
abbrev pub invariant-loop-place : goal.invariant-loop-place
invariant-loop-place g l =
    (g.P.Parts.states l.parts ≡ g.P.Parts.states l.fn.parts)
    × (are_from g.K.World.passes (drop l.place l.all) (drop l.place (g.P.Parts.states l.fn.parts))
    ≡ are_from g.K.World.passes l.all (g.P.Parts.states l.fn.parts))
    × (l.place-end ≡ length (g.P.Parts.states l.fn.parts))
