-- The kept lists of all warehouses, beside the serial list.
use Rattle.std.specs.Prelude.{◌≡◌, ℕ, ◌<◌, ◌≤◌, true, ◌⊎◌, List, [], ◌∷◌, Option, Some}
use Rattle.std.specs.List.{filter_map, AllPairs}
use Rattle.hy_passes.specs.declared.entry.Entry.{Entry}
use Rattle.hy_passes.specs.SerialList.{kept_of, names}

-- a commit stands in a list
abbrev pub Stands : {C : Type 0} → C → List C → Type 0
Stands commit [] = ⊥
Stands commit (first ∷ others) = (commit ≡ first) ⊎ Stands commit others

abbrev pub IsWarehouse : ℕ → ℕ → Type 0
IsWarehouse partitions warehouse = (1 ≤ warehouse) × (warehouse ≤ partitions)

module _ {C : Type 0} (warehouses : C → List ℕ) where
  -- the kept lists of the warehouses are the projections of the serial list
  abbrev pub AreProjections : ℕ → (ℕ → List C) → List (Entry C) → Type 0
  AreProjections partitions lists log =
      (warehouse : ℕ) → IsWarehouse partitions warehouse → lists warehouse ≡ kept_of warehouses warehouse log

  module _ (number : C → Option ℕ) where
    -- the kept lists agree on the crossing commits: within a list their numbers rise; each stands in the lists of all
    -- warehouses that it names; and in no list stands another commit with its number, nor in one that it doesn't name
    pub record Agree (partitions : ℕ) (lists : ℕ → List C) : Type 0 where
      pub rising : (w : ℕ) → IsWarehouse partitions w → AllPairs (λ a b. a < b) (filter_map number (lists w))
      pub everywhere : (v w : ℕ) (commit : C) (n : ℕ) → IsWarehouse partitions v → IsWarehouse partitions w
          → Stands commit (lists v) → number commit ≡ Some n → names warehouses w commit ≡ true → Stands commit (lists w)
      pub nowhere_else : (v w : ℕ) (commit other : C) (n : ℕ) → IsWarehouse partitions v → IsWarehouse partitions w
          → Stands commit (lists v) → number commit ≡ Some n → Stands other (lists w) → number other ≡ Some n
          → (other ≡ commit) × (names warehouses w commit ≡ true)
