-- Maps that the checker computes, with keys of a district and the number of an order.
use Rattle.std.specs.Prelude.{◌≡◌, ℕ, Bool, true, None, Some, List, [], ◌∷◌}
use Rattle.std.proofs.Common.{refl}
use Rattle.std.specs.Ordering.{is_lt, nat_cmp, ordering_then}
use Rattle.hy_index.specs.declared.key.Entry.{Entry}
use Rattle.hy_index.specs.Index.{between, first_from, found, with_entry, without}
use Rattle.hy_trees.specs.Trees.{is_less_bytes}
use Rattle.hy_index.specs.KeyBytes.{high_bytes_of, high_number_of}

record ExampleKey : Type 0 where
  pub district : ℕ
  pub order : ℕ

-- by district, and within one by order
abbrev is_less : ExampleKey → ExampleKey → Bool
is_less one other = is_lt (ordering_then (nat_cmp one.district other.district) (nat_cmp one.order other.order))

abbrev at : ℕ → ℕ → ExampleKey
at district order = record { district = district; order = order }

abbrev entry : ℕ → ℕ → ℕ → Entry ExampleKey
entry district order slot = record { key = at district order; slot = slot }

abbrev three : List (Entry ExampleKey)
three = entry 1 5 70 ∷ entry 1 9 71 ∷ entry 2 3 72 ∷ []

-- a new key stands between the others
inserted : with_entry is_less (at 1 7) 80 three ≡ entry 1 5 70 ∷ entry 1 7 80 ∷ entry 1 9 71 ∷ entry 2 3 72 ∷ []
inserted = refl

-- a key that is there has another slot
replaced : with_entry is_less (at 1 9) 80 three ≡ entry 1 5 70 ∷ entry 1 9 80 ∷ entry 2 3 72 ∷ []
replaced = refl

removed : without is_less (at 1 9) three ≡ entry 1 5 70 ∷ entry 2 3 72 ∷ []
removed = refl

-- a key that isn't there
nothing_removed : without is_less (at 1 8) three ≡ three
nothing_removed = refl

found_there : found is_less (at 1 9) three ≡ Some 71
found_there = refl

found_absent : found is_less (at 1 8) three ≡ None
found_absent = refl

first_of_district : first_from is_less (at 2 0) three ≡ Some (entry 2 3 72)
first_of_district = refl

first_itself : first_from is_less (at 1 9) three ≡ Some (entry 1 9 71)
first_itself = refl

no_first : first_from is_less (at 2 4) three ≡ None
no_first = refl

-- the first key of a range is in it, and the last one isn't
between_keys : between is_less (at 1 5) (at 2 3) three ≡ entry 1 5 70 ∷ entry 1 9 71 ∷ []
between_keys = refl

empty_between : between is_less (at 2 3) (at 1 5) three ≡ []
empty_between = refl

bytes_of_order : high_bytes_of 4 258 ≡ 0 ∷ 0 ∷ 1 ∷ 2 ∷ []
bytes_of_order = refl

order_of_bytes : high_number_of (0 ∷ 0 ∷ 1 ∷ 2 ∷ []) ≡ 258
order_of_bytes = refl

bytes_in_order : is_less_bytes (high_bytes_of 2 255) (high_bytes_of 2 256) ≡ true
bytes_in_order = refl
