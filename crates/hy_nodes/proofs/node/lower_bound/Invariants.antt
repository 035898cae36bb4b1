use Rattle.std.proofs.Common.{◌-◌, ◌≡◌, ℕ, ◌<◌, ◌≤◌, true, false}
use Rattle.hy_nodes.specs.Places.{is_below_at}
use Rattle.hy_nodes.proofs.node.lower_bound.Given as goal

-- the items before `low` stand before the key, and those from `high` on don't
abbrev pub invariant-loop-low : goal.invariant-loop-low
invariant-loop-low l = record {
  ordered : l.low ≤ l.high;
  within : l.high ≤ l.count;
  before : (k : ℕ) → k < l.low → is_below_at l.key_bytes l.page l.sought k ≡ true;
  behind : (k : ℕ) → l.high ≤ k → k < l.count → is_below_at l.key_bytes l.page l.sought k ≡ false;
}

abbrev pub decreases-loop-low : goal.decreases-loop-low
decreases-loop-low l = l.high - l.low
