use Rattle.std.proofs.Common.{◌<◌, ℕ}
use Rattle.hy_script.specs.Databases.{IsNameAt}
use Rattle.hy_script.proofs.named.place_of_name.Given as goal

abbrev pub invariant-loop-place : goal.invariant-loop-place
invariant-loop-place g l = (before : ℕ) → before < l.place → ¬ IsNameAt l.snapshots l.name before
