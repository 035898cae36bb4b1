use Rattle.std.proofs.Common.{◌≡◌, ◌+◌, drop}
use Rattle.hy_crossing.specs.Crossings.{some_is_full}
use Rattle.hy_crossing.proofs.WalkLaws.{start_of}
use Rattle.hy_crossing.proofs.before.is_some_full.Given as goal

-- no partition before the place is full, and all stay
abbrev pub invariant-loop-place : goal.invariant-loop-place
invariant-loop-place g l =
    (g.P.Parts.states l.parts ≡ g.P.Parts.states l.fn.parts)
    × (some_is_full l.command (start_of l.places l.place-index + 1)
    (drop (start_of l.places l.place-index) (g.P.Parts.states l.fn.parts))
    ≡ some_is_full l.command 1 (g.P.Parts.states l.fn.parts))
