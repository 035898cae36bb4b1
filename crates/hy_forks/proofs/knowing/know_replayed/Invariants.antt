use Rattle.std.proofs.Common.{◌≡◌, ◌<◌, ℕ, length}
use Rattle.std.specs.Prelude.{IfSome, slice_get}
use Rattle.hy_worlds.specs.Origins.{replayed_of}
use Rattle.hy_forks.proofs.knowing.know_replayed.Given as goal

-- the partitions before the place are known, and all stay
abbrev pub invariant-loop-place : goal.invariant-loop-place
invariant-loop-place g l =
    (g.P.Parts.states l.parts ≡ g.P.Parts.states l.fn.parts)
    × ((other : ℕ) → other < l.place
    → IfSome (slice_get (g.P.Parts.states l.fn.parts) other) (λ p. p.replayed ≡ replayed_of g.K.World.passes p.warehouse))
    × (l.place-end ≡ length (g.P.Parts.states l.fn.parts))
