-- Nothing is left of the lists so far.
use Rattle.std.proofs.Common.{◌≡◌, ◌<◌, ℕ, []}
use Rattle.hy_sound.specs.Merges.{left_of}
use Rattle.hy_sound.proofs.looking.is_at_end.Given as goal

abbrev pub invariant-loop-place : goal.invariant-loop-place
invariant-loop-place l = (k : ℕ) → k < l.place → left_of l.merge k ≡ []
