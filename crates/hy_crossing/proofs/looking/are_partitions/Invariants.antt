use Rattle.std.proofs.Common.{◌≡◌, ◌<◌, ℕ, suc, length}
use Rattle.std.specs.Prelude.{IfSome, slice_get}
use Rattle.hy_crossing.specs.Crossings.{IsWhole}
use Rattle.hy_crossing.proofs.looking.are_partitions.Given as goal

-- the partitions before the place are whole ones of the load, and all stay
abbrev pub invariant-loop-place : goal.invariant-loop-place
invariant-loop-place g l =
    (g.P.Parts.states l.parts ≡ g.P.Parts.states l.fn.parts)
    × ((other : ℕ) → other < l.place
    → IfSome (slice_get (g.P.Parts.states l.fn.parts) other) (IsWhole g.K.Loaded.load (suc other)))
    × (l.count ≡ length (g.P.Parts.states l.fn.parts))
