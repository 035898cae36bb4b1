-- The laws of values by key: one more entry, and what a map has once it is in.
use Rattle.std.proofs.Common.{◌≡◌, fold, Result, Ok, Err, IfOk, ℕ, ℤ, pos, ◌+ℤ◌, ◌≤ℤ◌, neg_ℤ, ◌+◌, ◌-◌, ◌*◌, ◌^◌, ◌<◌, Bool, true, false, cond, List, [], ◌∷◌, ◌++◌, length, take, get_or, map, filter, Some, unwrap_or, refl, sym, ap, subst, ◌∙◌, arith, append-nil}
use Rattle.std.specs.Cmp.{IsEquivalence}
use Rattle.std.proofs.lemmas.Int.{ints}
use Rattle.std.proofs.lemmas.List.{map-append}
use Rattle.std.proofs.lemmas.List.Elements.{filter_more}
use Rattle.std.proofs.lemmas.List.Sums.{fold-append}
use Rattle.indexmap.specs.IndexMap.{IndexMap, get}
use Rattle.hy_schema.specs.Conditions.{column_sum}
use Rattle.hy_conditions.specs.Groups.{values_of, group_at, total, sum_at}

module _ {Key Value : Type 0} (same : Key → Key → Bool) where
  -- keys that are the same have the same values
  pub values_of-same : IsEquivalence same → (entries : List (Key × Value)) (key other : Key) → same key other ≡ true
      → values_of same key entries ≡ values_of same other entries
  values_of-same laws entries key other alike =
      ap {A = Key × Value → Bool} (λ test. map (λ entry. entry.1) (filter test entries))
      (λ i entry. (laws.symm entry.0 key ∙ laws.congr key other entry.0 alike ∙ laws.symm other entry.0) i)

  module _ (entries : List (Key × Value)) (place : ℕ) (entry : Key × Value) (within : place < length entries)
      (read : entry ≡ get_or entries place entry) (key : Key) where
    -- one more entry comes last among the values of its key
    values_of-one_more : values_of same key (take (place + 1) entries)
        ≡ values_of same key (take place entries) ++ map (λ entry. entry.1) (cond (same entry.0 key) (entry ∷ []) [])
    values_of-one_more =
        ap (map (λ entry. entry.1)) (filter_more
        (λ entry. same entry.0 key) entries place entry within ∙ ap {A = Key × Value}
        (λ last. filter (λ entry. same entry.0 key) (take place entries) ++ cond (same last.0 key) (last ∷ []) [])
        (sym read))
        ∙ map-append (λ entry. entry.1) (filter (λ entry. same entry.0 key) (take place entries))
        (cond (same entry.0 key) (entry ∷ []) [])

    pub values_of-more : same entry.0 key ≡ true
        → values_of same key (take (place + 1) entries) ≡ values_of same key (take place entries) ++ entry.1 ∷ []
    values_of-more alike = values_of-one_more ∙ ap
        (λ b. values_of same key (take place entries) ++ map (λ entry. entry.1) (cond b (entry ∷ []) [])) alike

    pub values_of-other : same entry.0 key ≡ false
        → values_of same key (take (place + 1) entries) ≡ values_of same key (take place entries)
    values_of-other apart = values_of-one_more ∙ ap
        (λ b. values_of same key (take place entries)
        ++ map (λ entry. entry.1) (cond b (entry ∷ []) [])) apart ∙ append-nil _

-- a map whose value at the key of one more entry takes that entry's value too
module _ {Key Value Group Hasher : Type 0} (same : Key → Key → Bool) (laws : IsEquivalence same) (none : Group)
    (of : List Value → Group) (more : Group → Value → Group)
    (of-push : (values : List Value) (value : Value) → of (values ++ value ∷ []) ≡ more (of values) value)
    (old new : IndexMap Key Group Hasher) (entries : List (Key × Value)) (place : ℕ) (entry : Key × Value)
    (within : place < length entries) (read : entry ≡ get_or entries place entry)
    (group : Group) (is : group ≡ more (group_at same none old entry.0) entry.1)
    (updates : (key : Key) → get same new key ≡ cond (same entry.0 key) (Some group) (get same old key)) where
  -- it has that group at the entry's key, and at each other key what it had
  pub group_at-by_key : (P : Group → Type 0) (key : Key)
      → (same entry.0 key ≡ true → P (more (group_at same none old entry.0) entry.1))
      → (same entry.0 key ≡ false → P (group_at same none old key)) → P (group_at same none new key)
  group_at-by_key P key alike_case apart_case = elim (same entry.0 key) as
      (λ b. same entry.0 key ≡ b → P (group_at same none new key)) [
        | true ↦ λ alike. subst P (sym
            (ap (λ found. unwrap_or found none)
            (updates key ∙ ap (λ b. cond b (Some group) (get same old key)) alike) ∙ is)) (alike_case alike)
        | false ↦ λ apart. subst P (sym
            (ap (λ found. unwrap_or found none) (updates key ∙ ap (λ b. cond b (Some group) (get same old key)) apart)))
            (apart_case apart)
      ] refl

  -- if it agreed with the entries before, it agrees with one more
  pub group_at-one_more : ((key : Key) → group_at same none old key ≡ of (values_of same key (take place entries)))
      → (key : Key) → group_at same none new key ≡ of (values_of same key (take (place + 1) entries))
  group_at-one_more agrees key = group_at-by_key
      (λ found. found ≡ of (values_of same key (take (place + 1) entries))) key
      (λ alike.
      ap (λ found. more found entry.1)
      (agrees entry.0 ∙ ap of (values_of-same same laws (take place entries) entry.0 key alike))
      ∙ sym (of-push (values_of same key (take place entries)) entry.1)
      ∙ ap of (sym (values_of-more same entries place entry within read key alike)))
      (λ apart. agrees key ∙ ap of (sym (values_of-other same entries place entry within read key apart)))

-- for each key a map has the sum of the values among the first entries, which is small
pub record HasSums {Key Hasher : Type 0} (same : Key → Key → Bool) (sums : IndexMap Key ℤ Hasher)
    (entries : List (Key × ℤ)) (place : ℕ) : Type 0 where
  pub exact : (key : Key) → sum_at same sums key ≡ total (values_of same key (take place entries))
  pub above : (key : Key) → neg_ℤ (pos (2 ^ 63 * place)) ≤ℤ sum_at same sums key
  pub below : (key : Key) → sum_at same sums key ≤ℤ pos ((2 ^ 63 - 1) * place)

-- one more entry: its key has its amount more, and every other key what it had
pub HasSums-one_more : {Key Hasher : Type 0} (same : Key → Key → Bool) → IsEquivalence same
    → (old new : IndexMap Key ℤ Hasher) (entries : List (Key × ℤ)) (place : ℕ) (entry : Key × ℤ)
    → place < length entries → entry ≡ get_or entries place entry
    → (sum : ℤ) → sum ≡ sum_at same old entry.0 +ℤ entry.1
    → ((key : Key) → get same new key ≡ cond (same entry.0 key) (Some sum) (get same old key))
    → neg_ℤ (pos (2 ^ 63)) ≤ℤ entry.1 → entry.1 ≤ℤ pos (2 ^ 63 - 1) → HasSums same old entries place
    → HasSums same new entries (place + 1)
HasSums-one_more same laws old new entries place entry within read sum is updates least greatest has = record {
  exact = group_at-one_more same laws (pos 0) total
      (λ sum amount. sum +ℤ amount) push old new entries place entry within read sum is updates has.exact;
  above = λ key. group_at-by_key same laws (pos 0) total
      (λ sum amount. sum +ℤ amount) push old new entries place entry within read sum is updates
      (λ found. neg_ℤ (pos (2 ^ 63 * (place + 1))) ≤ℤ found) key
      (λ alike. omega (arith, ints, has.above entry.0)) (λ apart. omega (arith, ints, has.above key));
  below = λ key. group_at-by_key same laws (pos 0) total
      (λ sum amount. sum +ℤ amount) push old new entries place entry within read sum is updates
      (λ found. found ≤ℤ pos ((2 ^ 63 - 1) * (place + 1))) key
      (λ alike. omega (arith, ints, has.below entry.0)) (λ apart. omega (arith, ints, has.below key));
}
  where
    push : (values : List ℤ) (value : ℤ) → total (values ++ value ∷ []) ≡ total values +ℤ value
    push values value = fold-append (λ sum amount. sum +ℤ amount) (pos 0) values (value ∷ [])

module _ {Row Key Value : Type 0} (same : Key → Key → Bool) (entry_of : Row → Key × Value) (key : Key) where
  -- the values of entries that were made of rows
  pub values_of-map : (rows : List Row)
      → values_of same key (map entry_of rows)
      ≡ map (λ row. (entry_of row).1) (filter (λ row. same (entry_of row).0 key) rows)
  values_of-map [] = refl
  values_of-map (row ∷ rows) =
      elim (same (entry_of row).0 key) as
      (λ b. map (λ entry. entry.1) (cond b (entry_of row ∷ filter (λ entry. same entry.0 key) (map entry_of rows))
      (filter (λ entry. same entry.0 key) (map entry_of rows)))
      ≡ map (λ row. (entry_of row).1)
      (cond b (row ∷ filter (λ row. same (entry_of row).0 key) rows)
      (filter (λ row. same (entry_of row).0 key) rows))) [
        | true ↦ ap (λ values. (entry_of row).1 ∷ values) (values_of-map rows)
        | false ↦ values_of-map rows
      ]

-- a total is the sum of a column
module _ {Row : Type 0} where
  total-from : (column : Row → ℤ) (start : ℤ) (rows : List Row)
      → fold (λ sum amount. sum +ℤ amount) start (map column rows) ≡ fold (λ sum row. sum +ℤ column row) start rows
  total-from column start [] = refl
  total-from column start (row ∷ rows) = total-from column (start +ℤ column row) rows

-- a map that was made of rows by their entries, where it has for each key what those rows come to
module _ {Row Key Hasher Error : Type 0} (same : Key → Key → Bool) (rows : List Row) where
  pub IfOk-sums : (entry_of : Row → Key × ℤ) (entries : List (Key × ℤ)) → entries ≡ map entry_of rows
      → (result : Result (IndexMap Key ℤ Hasher) Error)
      → IfOk result (λ sums. (key : Key) → sum_at same sums key ≡ total (values_of same key entries))
      → (wanted : Key → ℤ) → ((key : Key)
      → column_sum (λ row. (entry_of row).1) (filter (λ row. same (entry_of row).0 key) rows) ≡ wanted key)
      → IfOk result (λ sums. (key : Key) → sum_at same sums key ≡ wanted key)
  IfOk-sums entry_of entries made (Ok sums) ok wanted reaches = λ key.
      ok key ∙ ap (λ entries. total (values_of same key entries)) made ∙ ap total (values_of-map same entry_of key rows)
      ∙ total-from (λ row. (entry_of row).1) (pos 0) (filter (λ row. same (entry_of row).0 key) rows) ∙ reaches key
  IfOk-sums entry_of entries made (Err error) ok wanted reaches = tt
