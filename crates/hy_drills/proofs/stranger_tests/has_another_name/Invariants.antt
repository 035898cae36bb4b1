-- No part before has the name.
use Rattle.std.proofs.Common.{◌≡◌, ◌<◌, ℕ, length}
use Rattle.std.specs.Prelude.{IfSome, slice_get, ◌≢◌}
use Rattle.hy_drills.proofs.stranger_tests.has_another_name.Given as goal

abbrev pub invariant-loop-place : goal.invariant-loop-place
invariant-loop-place g l =
    (l.place-end ≡ length l.all)
    × ((k : ℕ) → k < l.place → IfSome (slice_get l.all k) (λ snapshot. snapshot.name ≢ g.K.World.passes.name))
