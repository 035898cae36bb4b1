use Rattle.std.proofs.Common.{◌≡◌, ℕ, ◌-◌, ◌<◌, ◌≤◌, true}
use Rattle.hy_nodes.specs.Places.{is_below_at}
use Rattle.hy_nodes.proofs.node.bound_by_steps.Given as goal

-- the items before this place stand before the key
abbrev pub invariant-loop-place : goal.invariant-loop-place
invariant-loop-place l = record {
  within : l.place ≤ l.count;
  before : (k : ℕ) → k < l.place → is_below_at l.key_bytes l.page l.sought k ≡ true;
}

abbrev pub decreases-loop-place : goal.decreases-loop-place
decreases-loop-place l = l.count - l.place
