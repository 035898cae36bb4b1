-- Lines whose keys were looked up.
use Rattle.std.proofs.Common.{◌≡◌, ◌∙◌, ◌+◌, ◌<◌, ℕ, zero, suc, add-one, List, [], ◌∷◌, ◌++◌, length, get_or, replicate, refl, sym, subst, ap, arith, inl, inr}
use Rattle.std.proofs.lemmas.Bool.{cases_eq, false≢true}
use Rattle.std.proofs.lemmas.List.{get_or_append_left, get_or_push, length_push, map-append, replicate_more}
use Rattle.hy_query.specs.Rows.{Row}
use Rattle.hy_tallies.specs.Lines.{row_at}
use Rattle.hy_tallies.specs.Numbers.{upto}
use Rattle.hy_tallies.specs.declared.groups.Groups.{Groups}
use Rattle.hy_tallies.specs.inside.Groups.{AreGroups, HasNumbered, IsNumbered, keys_of}
use Rattle.hy_tallies.specs.inside.Keys.{Apart, code_from, numbered, place_of_key, rising, rows_in, seen, with_key}

-- ---- lines whose keys were looked up

pub numbered-none : (keys : List Row) (groups : Groups) → AreGroups groups → HasNumbered keys 0 groups groups []
numbered-none keys groups are = record { places = refl; keys = refl; groups = are }

pub numbered-more : (keys : List Row) (count : ℕ) (old before new : Groups) (numbers more : List ℕ) (number : ℕ)
    → HasNumbered keys count old before numbers → IsNumbered (row_at keys count) before new number
    → more ≡ numbers ++ number ∷ [] → HasNumbered keys (count + 1) old new more
numbered-more keys count old before new numbers more number has is more_is =
    subst (λ n. HasNumbered keys n old new more) (sym (add-one count))
    record {
      places =
          more_is
          ∙ (λ i. has.places i
          ++ (is.place ∙ ap (place_of_key (row_at keys count)) has.keys) i ∷ []);
      keys = is.keys ∙ ap (λ rows. with_key rows (row_at keys count)) has.keys;
      groups = is.groups;
    }

-- ---- lines without keys

-- all are one group
module _ (old new : Groups) (number : ℕ) (none : IsNumbered [] old new number) where
  empty-rows : (count : ℕ) → rows_in [] count ≡ replicate count []
  empty-rows zero = refl
  empty-rows (suc count) =
      map-append (row_at []) (upto count) (count ∷ []) ∙ ap (λ list. list ++ [] ∷ []) (empty-rows count)
      ∙ replicate_more count [] ∙ ap (λ n. replicate n []) (add-one count)

  -- of no keys no two differ
  one-at_most : (count : ℕ) → Apart (replicate {A = Row} count [])
      → (with_key (replicate count []) [] ≡ [] ∷ []) × (place_of_key [] (replicate count []) ≡ 0)
  one-at_most zero apart = (refl, refl)
  one-at_most (suc zero) apart = (refl, refl)
  one-at_most (suc (suc count)) apart = absurd (false≢true (sym apart.0.0))

  seen-one : (rows : List Row) → (with_key rows [] ≡ [] ∷ []) → (count : ℕ) → seen rows [] (suc count) ≡ [] ∷ []
  seen-one rows one zero = one
  seen-one rows one (suc count) = ap (λ some. with_key some []) (seen-one rows one count)

  numbered-zeros : (rows : List Row) → (with_key rows [] ≡ [] ∷ []) → (place_of_key [] rows ≡ 0) → (count : ℕ)
      → numbered rows [] count ≡ replicate count 0
  numbered-zeros rows one first zero = refl
  numbered-zeros rows one first (suc zero) = ap (λ n. n ∷ []) first
  numbered-zeros rows one first (suc (suc count)) =
      (λ i. numbered-zeros rows one first (suc count) i ++ place_of_key [] (seen-one rows one count i) ∷ [])
      ∙ replicate_more (suc count) 0 ∙ ap (λ n. replicate n 0) (add-one (suc count))

  pub numbered-together : (count : ℕ) → old.keys.items ≡ [] → AreGroups old
      → HasNumbered [] (suc count) old new (replicate (suc count) 0)
  numbered-together count no_keys are =
      let rows_are : keys_of old ≡ replicate old.count [] =
      ap (λ keys. rows_in keys old.count) no_keys ∙ empty-rows old.count in
      let one = one-at_most old.count (subst Apart rows_are are.apart) in
      let with : with_key (keys_of old) [] ≡ [] ∷ [] = ap (λ rows. with_key rows []) rows_are ∙ one.0 in
      let place : place_of_key [] (keys_of old) ≡ 0 = ap (place_of_key []) rows_are ∙ one.1 in
      record {
        places = sym (numbered-zeros (keys_of old) with place (suc count));
        keys = none.keys ∙ with ∙ sym (seen-one (keys_of old) with count);
        groups = none.groups;
      }

nothing-in : {X : Type 0} (xs : List X) → length xs ≡ 0 → xs ≡ []
nothing-in [] long = refl
nothing-in (x ∷ xs) long = absurd (omega arith)

pub together : (old new : Groups) (number count : ℕ) (columns : List Row) (numbers : List ℕ)
    → columns ≡ [] → length columns ≡ length old.keys.items → (count ≡ 0 → ⊥)
    → (0 ≡ code_from 0 (row_at columns 0) → IsNumbered (row_at columns 0) old new number)
    → numbers ≡ replicate count 0 → AreGroups old → HasNumbered columns count old new numbers
together old new number count columns numbers none wide some numbered zeros are =
    let no_keys : old.keys.items ≡ [] = nothing-in old.keys.items (sym wide ∙ ap length none) in
    let first : IsNumbered [] old new number =
    subst (λ all. IsNumbered (row_at all 0) old new number) none
    (numbered (ap (λ all. code_from 0 (row_at all 0)) (sym none))) in
    subst (λ all. HasNumbered all count old new numbers) (sym none)
    (subst (HasNumbered [] count old new) (sym zeros) (by count some first no_keys))
  where
    by : (count : ℕ) → (count ≡ 0 → ⊥) → IsNumbered [] old new number → old.keys.items ≡ []
        → HasNumbered [] count old new (replicate count 0)
    by zero some first no_keys = absurd (some refl)
    by (suc count) some first no_keys = numbered-together old new number first count no_keys are

-- ---- numbers by their places

pub numbered-length : (rows keys : List Row) (count : ℕ) → length (numbered rows keys count) ≡ count
numbered-length rows keys zero = refl
numbered-length rows keys (suc count) =
    length_push (numbered rows keys count) _ ∙ ap (λ n. n + 1) (numbered-length rows keys count) ∙ add-one count

pub numbered-at : (rows keys : List Row) (count k : ℕ) → k < count
    → get_or (numbered rows keys count) k 0 ≡ place_of_key (row_at keys k) (seen rows keys k)
numbered-at rows keys zero k within = absurd (omega arith)
numbered-at rows keys (suc count) k within = elim (cases_eq k count) [
  | inl is ↦
      get_or_push (numbered rows keys count) _ 0 k (numbered-length rows keys count ∙ sym is)
      ∙ ap (λ n. place_of_key (row_at keys n) (seen rows keys n)) (sym is)
  | inr other ↦
      get_or_append_left (numbered rows keys count) _ 0 k (omega (arith, numbered-length rows keys count))
      ∙ numbered-at rows keys count k (omega arith)
]

pub rising-length : (start count : ℕ) → length (rising start count) ≡ count
rising-length start zero = refl
rising-length start (suc count) =
    length_push (rising start count) _ ∙ ap (λ n. n + 1) (rising-length start count) ∙ add-one count

pub rising-at : (start count k : ℕ) → k < count → get_or (rising start count) k 0 ≡ start + k
rising-at start zero k within = absurd (omega arith)
rising-at start (suc count) k within = elim (cases_eq k count) [
  | inl is ↦
      get_or_push (rising start count) _ 0 k (rising-length start count ∙ sym is) ∙ ap (λ n. start + n) (sym is)
  | inr other ↦
      get_or_append_left (rising start count) _ 0 k (omega (arith, rising-length start count))
      ∙ rising-at start count k (omega arith)
]
