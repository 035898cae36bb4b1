use Rattle.std.proofs.Common.{◌≡◌, ◌<◌, ℕ, length}
use Rattle.std.specs.Prelude.{IfSome, slice_get}
use Rattle.hy_frames.specs.FrameTable.{free_of}
use Rattle.hy_undo.specs.Touched.{touched}
use Rattle.hy_forks.proofs.forks.is_some_lacking.Given as goal

-- the partitions before the place have enough frames, and all stay
abbrev pub invariant-loop-place : goal.invariant-loop-place
invariant-loop-place g l =
    (g.P.Parts.states l.parts ≡ g.P.Parts.states l.fn.parts)
    × ((other : ℕ) → other < l.place → IfSome (slice_get (g.P.Parts.states l.fn.parts) other)
    (λ p. free_of p.space.frames < touched p.undo → ⊥))
    × (l.place-end ≡ length (g.P.Parts.states l.fn.parts))
