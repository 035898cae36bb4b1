-- The laws of numbers by key: one more of them, and a map that has them.
use Rattle.std.proofs.Common.{Result, Ok, Err, IfOk, filter, map, ◌≡◌, ℕ, ◌+◌, ◌<◌, ◌≤◌, min, max, fold, false, ◌==◌, Bool, cond, List, [], ◌∷◌, ◌++◌, length, take, get_or, Some, refl, sym, ap, ◌∙◌, arith, length-append}
use Rattle.std.specs.Cmp.{IsEquivalence}
use Rattle.std.proofs.lemmas.List.Sums.{fold-append}
use Rattle.std.proofs.lemmas.Bool.Decides.{nat_tests}
use Rattle.indexmap.specs.IndexMap.{IndexMap, get}
use Rattle.hy_conditions.specs.declared.numbers.Numbers.{Numbers}
use Rattle.hy_conditions.specs.Groups.{values_of}
use Rattle.hy_conditions.specs.Numbers.{numbers_of, no_numbers, with_number, numbers_at}
use Rattle.hy_conditions.proofs.GroupLaws.{group_at-by_key, group_at-one_more, values_of-map}

-- one more number behind others
pub numbers_of-push : (numbers : List ℕ) (number : ℕ)
    → numbers_of (numbers ++ number ∷ []) ≡ with_number (numbers_of numbers) number
numbers_of-push [] number = refl
numbers_of-push (first ∷ numbers) number = λ i. record {
  count = counted i;
  least = (fold-append min first numbers (number ∷ []) ∙ ap (λ b. cond b number (min (fold min first numbers) number))
      (sym some)) i;
  greatest = fold-append max 0 (first ∷ numbers) (number ∷ []) i;
}
  where
    some : (length (first ∷ numbers) == 0) ≡ false
    some = grind (arith, nat_tests)

    counted : length ((first ∷ numbers) ++ number ∷ []) ≡ length (first ∷ numbers) + 1
    counted = length-append (first ∷ numbers) (number ∷ [])

-- for each key a map has the numbers among the first entries, which are no more than these
pub record HasNumbers {Key Hasher : Type 0} (same : Key → Key → Bool) (groups : IndexMap Key Numbers Hasher)
    (entries : List (Key × ℕ)) (place : ℕ) : Type 0 where
  pub exact : (key : Key) → numbers_at same groups key ≡ numbers_of (values_of same key (take place entries))
  pub few : (key : Key) → (numbers_at same groups key).count ≤ place

-- one more entry
pub HasNumbers-one_more : {Key Hasher : Type 0} (same : Key → Key → Bool) → IsEquivalence same
    → (old new : IndexMap Key Numbers Hasher) (entries : List (Key × ℕ)) (place : ℕ) (entry : Key × ℕ)
    → place < length entries → entry ≡ get_or entries place entry
    → (numbers : Numbers) → numbers ≡ with_number (numbers_at same old entry.0) entry.1
    → ((key : Key) → get same new key ≡ cond (same entry.0 key) (Some numbers) (get same old key))
    → HasNumbers same old entries place → HasNumbers same new entries (place + 1)
HasNumbers-one_more same laws old new entries place entry within read numbers is updates has = record {
  exact = group_at-one_more same laws no_numbers numbers_of with_number numbers_of-push old new entries place entry
      within read numbers is updates has.exact;
  few = λ key. group_at-by_key same laws no_numbers numbers_of with_number numbers_of-push old new entries place
      entry within read numbers is updates
      (λ found. found.count ≤ place + 1) key (λ alike. omega (arith, has.few entry.0))
      (λ apart. omega (arith, has.few key));
}

-- a map of numbers that was made of rows by their entries
module _ {Row Key Hasher Error : Type 0} (same : Key → Key → Bool) (rows : List Row) where
  pub IfOk-numbers : (entry_of : Row → Key × ℕ) (entries : List (Key × ℕ)) → entries ≡ map entry_of rows
      → (result : Result (IndexMap Key Numbers Hasher) Error)
      → IfOk result (λ groups. (key : Key) → numbers_at same groups key ≡ numbers_of (values_of same key entries))
      → IfOk result (λ groups. (key : Key)
      → numbers_at same groups key ≡ numbers_of
      (map (λ row. (entry_of row).1) (filter (λ row. same (entry_of row).0 key) rows)))
  IfOk-numbers entry_of entries made (Ok groups) ok = λ key.
      ok key ∙ ap (λ entries. numbers_of (values_of same key entries)) made ∙ ap numbers_of
      (values_of-map same entry_of key rows)
  IfOk-numbers entry_of entries made (Err error) ok = tt
