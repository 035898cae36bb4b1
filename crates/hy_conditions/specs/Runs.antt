-- Sums by key, while entries of one key follow one another: what came of them stands beside the map.
use Rattle.std.specs.Prelude.{◌^◌, ◌-◌, ◌*◌, ℕ, ℤ, pos, neg_ℤ, ◌+ℤ◌, ◌≤ℤ◌, Bool, if◌then◌else◌}
use Rattle.indexmap.specs.IndexMap.{IndexMap}
use Rattle.hy_conditions.specs.declared.sums.Run.{Run}
use Rattle.hy_conditions.specs.Groups.{sum_at}

-- what a map of sums has for a key, and a run with it
abbrev pub sum_with : {Key Hasher : Type 0} → (Key → Key → Bool) → IndexMap Key ℤ Hasher → Run Key → Key → ℤ
sum_with same sums run key = sum_at same sums key +ℤ (if same run.key key then run.sum else pos 0)

-- a sum of at most so many amounts of 64 bits
pub record IsSumOf (count : ℕ) (sum : ℤ) : Type 0 where
  pub above : neg_ℤ (pos (2 ^ 63 * count)) ≤ℤ sum
  pub below : sum ≤ℤ pos ((2 ^ 63 - 1) * count)
