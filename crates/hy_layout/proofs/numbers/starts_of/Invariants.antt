use Rattle.std.proofs.Common.{◌≡◌, ℕ, ◌<◌, get_or, length}
use Rattle.hy_layout.specs.inside.Places.{IsEndOf}
use Rattle.hy_layout.proofs.numbers.starts_of.Given as goal

abbrev pub invariant-loop-district : goal.invariant-loop-district
invariant-loop-district l = record {
  count : length l.starts.items ≡ l.district;
  ends : (k : ℕ) → k < l.district → IsEndOf l.rows k (get_or l.starts.items k 0);
}
