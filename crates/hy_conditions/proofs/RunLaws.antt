-- The laws of sums by key while entries of one key follow one another.
use Rattle.std.proofs.Common.{◌≡◌, ℕ, ℤ, pos, ◌+ℤ◌, ◌≤ℤ◌, neg_ℤ, ◌+◌, ◌-◌, ◌^◌, ◌<◌, Bool, true, false, cond, List, [], ◌∷◌, length, take, get_or, Some, None, unwrap_or, refl, sym, ap, subst, ◌∙◌, arith}
use Rattle.std.specs.Cmp.{IsEquivalence}
use Rattle.std.proofs.lemmas.Int.{ints}
use Rattle.std.proofs.lemmas.List.Sums.{fold-append}
use Rattle.indexmap.specs.IndexMap.{IndexMap, get, get_by}
use Rattle.hy_conditions.specs.declared.sums.Run.{Run}
use Rattle.hy_conditions.specs.Groups.{values_of, total, sum_at}
use Rattle.hy_conditions.specs.Runs.{IsSumOf, sum_with}
use Rattle.hy_conditions.proofs.GroupLaws.{values_of-more, values_of-other}

-- a map and a run have for each key the sum of the values among the first entries, which is small
pub record HasRun {Key Hasher : Type 0} (same : Key → Key → Bool) (sums : IndexMap Key ℤ Hasher) (run : Run Key)
    (entries : List (Key × ℤ)) (place : ℕ) : Type 0 where
  pub exact : (key : Key) → sum_with same sums run key ≡ total (values_of same key (take place entries))
  pub few : (key : Key) → IsSumOf place (sum_with same sums run key)
  pub short : IsSumOf place run.sum

-- no entry
pub HasRun-none : {Key Hasher : Type 0} (same : Key → Key → Bool) (sums : IndexMap Key ℤ Hasher) (run : Run Key)
    (entries : List (Key × ℤ)) → ((key : Key) → get same sums key ≡ None) → run.sum ≡ pos 0
    → HasRun same sums run entries 0
HasRun-none {Key = Key} same sums run entries empty zero = record {
  exact = λ key. none key;
  few = λ key. subst (IsSumOf 0) (sym (none key)) (record { above = omega (arith, ints); below = omega (arith, ints) });
  short = subst (IsSumOf 0) (sym zero) (record { above = omega (arith, ints); below = omega (arith, ints) });
}
  where
    zeros : (b : Bool) → pos 0 +ℤ cond b (pos 0) (pos 0) ≡ pos 0
    zeros true = refl
    zeros false = refl

    none : (key : Key) → sum_with same sums run key ≡ pos 0
    none key =
        ap (λ found. unwrap_or found (pos 0) +ℤ cond (same run.key key) run.sum (pos 0)) (empty key)
        ∙ ap (λ sum. pos 0 +ℤ cond (same run.key key) sum (pos 0)) zero ∙ zeros (same run.key key)

module _ {Key Hasher : Type 0} (same : Key → Key → Bool) (laws : IsEquivalence same) (old : IndexMap Key ℤ Hasher)
    (run : Run Key) (earlier : ℤ) (had : Some earlier ≡ get same old run.key) where
  -- what stands with the key of a run that was there, with the run
  pub sum-there : sum_with same old run run.key ≡ earlier +ℤ run.sum
  sum-there =
      ap (λ b. sum_at same old run.key +ℤ cond b run.sum (pos 0)) (laws.refl run.key)
      ∙ ap (λ found. unwrap_or found (pos 0) +ℤ run.sum) (sym had)

module _ {Key Hasher : Type 0} (same : Key → Key → Bool) (laws : IsEquivalence same)
    (old between new : IndexMap Key ℤ Hasher) (run : Run Key) (earlier first sum : ℤ)
    (had : Some earlier ≡ get same old run.key) (is : sum ≡ earlier +ℤ run.sum)
    (once : (key : Key) → get same between key ≡ cond (same run.key key) (Some first) (get same old key))
    (twice : (key : Key) → get same new key ≡ cond (same run.key key) (Some sum) (get same between key)) where
  -- a run whose key was there
  pub sum-put : (key : Key) → sum_at same new key ≡ sum_with same old run key
  sum-put key = elim (same run.key key) as
      (λ b. same run.key key ≡ b → sum_at same new key ≡ sum_at same old key +ℤ cond b run.sum (pos 0)) [
        | true ↦ λ alike.
            ap (λ found. unwrap_or found (pos 0)) (twice key ∙ ap (λ b. cond b (Some sum) (get same between key)) alike)
            ∙ is
            ∙ ap (λ found. unwrap_or found (pos 0) +ℤ run.sum)
            (had ∙ ap {A = Key → Bool} (λ test. get_by test old) (λ i other. laws.congr run.key key other alike i))
        | false ↦ λ apart.
            ap (λ found. unwrap_or found (pos 0))
            (twice key ∙ ap (λ b. cond b (Some sum) (get same between key)) apart
            ∙ once key ∙ ap (λ b. cond b (Some first) (get same old key)) apart)
            ∙ omega (arith, ints)
      ] refl

module _ {Key Hasher : Type 0} (same : Key → Key → Bool) (laws : IsEquivalence same)
    (old new : IndexMap Key ℤ Hasher) (run made after : Run Key) (entries : List (Key × ℤ)) (place : ℕ)
    (entry : Key × ℤ) (within : place < length entries) (read : entry ≡ get_or entries place entry)
    (has : HasRun same old run entries place) (belongs : same made.key entry.0 ≡ true)
    (stays : (key : Key) → sum_with same new made key ≡ sum_with same old run key)
    (few : (count : ℕ) → IsSumOf count run.sum → IsSumOf count made.sum)
    (keeps : after.key ≡ made.key) (adds : after.sum ≡ made.sum +ℤ entry.1)
    (least : neg_ℤ (pos (2 ^ 63)) ≤ℤ entry.1) (greatest : entry.1 ≤ℤ pos (2 ^ 63 - 1)) where
  test : (key : Key) (b : Bool) → same entry.0 key ≡ b → same made.key key ≡ b
  test key b is = laws.congr made.key entry.0 key belongs ∙ is

  alike : (key : Key) → same entry.0 key ≡ true
      → sum_with same new after key ≡ sum_with same old run key +ℤ entry.1
  alike key is =
      ap (λ k. sum_at same new key +ℤ cond (same k key) after.sum (pos 0)) keeps
      ∙ ap (λ b. sum_at same new key +ℤ cond b after.sum (pos 0)) (test key true is)
      ∙ ap (λ sum. sum_at same new key +ℤ sum) adds
      ∙ moved (sum_at same new key) made.sum entry.1
      ∙ ap (λ sum. sum +ℤ entry.1) (ap (λ b. sum_at same new key +ℤ cond b made.sum (pos 0)) (sym (test key true is))
      ∙ stays key)
    where
      moved : (one two three : ℤ) → one +ℤ (two +ℤ three) ≡ (one +ℤ two) +ℤ three
      moved one two three = omega (arith, ints)

  apart : (key : Key) → same entry.0 key ≡ false → sum_with same new after key ≡ sum_with same old run key
  apart key is =
      ap (λ k. sum_at same new key +ℤ cond (same k key) after.sum (pos 0)) keeps
      ∙ ap (λ b. sum_at same new key +ℤ cond b after.sum (pos 0)) (test key false is)
      ∙ ap (λ b. sum_at same new key +ℤ cond b made.sum (pos 0)) (sym (test key false is)) ∙ stays key

  by_key : (P : ℤ → Type 0) (key : Key) → (same entry.0 key ≡ true → P (sum_with same old run key +ℤ entry.1))
      → (same entry.0 key ≡ false → P (sum_with same old run key)) → P (sum_with same new after key)
  by_key P key with_more without = elim (same entry.0 key) as
      (λ b. same entry.0 key ≡ b → P (sum_with same new after key)) [
        | true ↦ λ is. subst P (sym (alike key is)) (with_more is)
        | false ↦ λ is. subst P (sym (apart key is)) (without is)
      ] refl

  -- one more entry
  pub HasRun-more : HasRun same new after entries (place + 1)
  HasRun-more = record {
    exact = λ key. by_key (λ found. found ≡ total (values_of same key (take (place + 1) entries))) key
        (λ is. ap (λ sum. sum +ℤ entry.1) (has.exact key)
        ∙ sym (fold-append (λ sum amount. sum +ℤ amount) (pos 0) (values_of same key (take place entries))
        (entry.1 ∷ []))
        ∙ ap total (sym (values_of-more same entries place entry within read key is)))
        (λ is. has.exact key ∙ ap total (sym (values_of-other same entries place entry within read key is)));
    few = λ key. by_key (IsSumOf (place + 1)) key
        (λ is. record {
          above = omega (arith, ints, (has.few key).above, least);
          below = omega (arith, ints, (has.few key).below, greatest);
        })
        (λ is. record {
          above = omega (arith, ints, (has.few key).above);
          below = omega (arith, ints, (has.few key).below);
        });
    short = subst (IsSumOf (place + 1)) (sym adds) (record {
      above = omega (arith, ints, (few place has.short).above, least);
      below = omega (arith, ints, (few place has.short).below, greatest);
    });
  }
