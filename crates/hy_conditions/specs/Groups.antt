-- Values by key: those that stand with a key among entries, and what a map says of them.
use Rattle.std.specs.Prelude.{◌^◌, ◌-◌, ◌*◌, ℤ, pos, neg_ℤ, ◌≤ℤ◌, Bool, List, map, filter, unwrap_or}
use Rattle.indexmap.specs.IndexMap.{IndexMap, get}
use Rattle.hy_schema.specs.Conditions.{column_sum}

-- the values that stand with a key, in their order
abbrev pub values_of : {Key Value : Type 0} → (Key → Key → Bool) → Key → List (Key × Value) → List Value
values_of same key entries = map (λ entry. entry.1) (filter (λ entry. same entry.0 key) entries)

-- what a map has for a key, and what it is to have where the key isn't there
abbrev pub group_at : {Key Group Hasher : Type 0} → (Key → Key → Bool) → Group → IndexMap Key Group Hasher → Key → Group
group_at same none groups key = unwrap_or (get same groups key) none

-- the sum of some amounts
abbrev pub total : List ℤ → ℤ
total amounts = column_sum (λ amount. amount) amounts

-- what a map of sums has for a key: 0 where the key isn't there
abbrev pub sum_at : {Key Hasher : Type 0} → (Key → Key → Bool) → IndexMap Key ℤ Hasher → Key → ℤ
sum_at same sums key = group_at same (pos 0) sums key

-- a sum of fewer than 2 ^ 63 amounts of 64 bits
pub record IsSmall (sum : ℤ) : Type 0 where
  pub above : neg_ℤ (pos (2 ^ 63 * (2 ^ 63 - 1))) ≤ℤ sum
  pub below : sum ≤ℤ pos ((2 ^ 63 - 1) * (2 ^ 63 - 1))
