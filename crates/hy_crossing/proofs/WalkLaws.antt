-- The places that pass a test, in rising order, and a walk over them that passes by the others.
use Rattle.std.proofs.Common.{◌≡◌, ◌≢◌, ℕ, zero, suc, ◌+◌, ◌-◌, ◌<◌, ◌≤◌, ◌==◌, Bool, true, false, cond, nat_lt, List, [], ◌∷◌, ◌++◌, length, filter, slice_index_or, refl, sym, ap, ◌∙◌, subst, arith}
use Rattle.std.specs.List.{range_with_len, take_while}
use Rattle.std.proofs.lemmas.Bool.{eqb-false, eqb-true, le-ltb, lt-ltb}
use Rattle.std.proofs.lemmas.List.Sums.{take_while-cons}

-- what holds at a place holds at one further on, where each place between leads to the next
pub over : (Holds : ℕ → Type 0) (from to : ℕ) → from ≤ to
    → ((place : ℕ) → from ≤ place → place < to → Holds place → Holds (place + 1)) → Holds from → Holds to
over Holds from to order leads first =
    let end : from + (to - from) ≡ to = omega (arith, order) in
    subst Holds end (by (to - from) (omega (arith, order)))
  where
    by : (more : ℕ) → from + more ≤ to → Holds (from + more)
    by zero within =
        let same : from ≡ from + 0 = omega arith in
        subst Holds same first
    by (suc more) within =
        let next : from + more + 1 ≡ from + suc more = omega arith in
        subst Holds next (leads (from + more) (omega arith) (omega (arith, within)) (by more (omega (arith, within))))

-- where a walk goes on that has visited so many places: at the first of all, or behind the last one visited
abbrev pub start_from : ℕ → List ℕ → ℕ → ℕ
start_from first places zero = first
start_from first places (suc index) = slice_index_or places index 0 + 1

abbrev pub start_of : List ℕ → ℕ → ℕ
start_of places index = start_from 0 places index

pub start-more : (places : List ℕ) (index : ℕ) → start_of places (index + 1) ≡ slice_index_or places index 0 + 1
start-more places index =
    let next : suc index ≡ index + 1 = omega arith in
    subst (λ n. start_of places n ≡ slice_index_or places index 0 + 1) next refl

-- a place passes the test, and none does from another one up to it
pub record IsNext (test : ℕ → Bool) (start place end : ℕ) : Type 0 where
  pub order : start ≤ place
  pub within : place < end
  pub passes : test place ≡ true
  pub apart : (other : ℕ) → start ≤ other → other < place → test other ≡ false

-- none passes it from a place up to an end
pub record AreNone (test : ℕ → Bool) (start end : ℕ) : Type 0 where
  pub order : start ≤ end
  pub apart : (other : ℕ) → start ≤ other → other < end → test other ≡ false

module _ (test : ℕ → Bool) where
  abbrev passing : ℕ → ℕ → List ℕ
  passing first count = filter test (range_with_len first count)

  more : (first index : ℕ) (places : List ℕ) → start_from first (first ∷ places) (suc index) ≡ start_from (first + 1) places index
  more first zero places = refl
  more first (suc index) places = refl

  -- one place less at the front, which doesn't pass
  further : (first index : ℕ) (places : List ℕ) (place end : ℕ) → test first ≡ false
      → IsNext test (start_from (first + 1) places index) place end → IsNext test (start_from first places index) place end
  further first zero places place end fails next = record {
    order = omega (arith, next.order);
    within = next.within;
    passes = next.passes;
    apart = λ other late early.
        elim (other == first) as (λ b. (other == first) ≡ b → test other ≡ false) [
          | true ↦ λ same. subst (λ n. test n ≡ false) (sym (eqb-true other first same)) fails
          | false ↦ λ not_same.
              let is_other : other ≢ first = eqb-false other first not_same in
              next.apart other (omega (arith, late, is_other)) early
        ] refl;
  }
  further first (suc index) places place end fails next = next

  further-none : (first index : ℕ) (places : List ℕ) (end : ℕ) → test first ≡ false
      → AreNone test (start_from (first + 1) places index) end → AreNone test (start_from first places index) end
  further-none first zero places end fails none = record {
    order = omega (arith, none.order);
    apart = λ other late early.
        elim (other == first) as (λ b. (other == first) ≡ b → test other ≡ false) [
          | true ↦ λ same. subst (λ n. test n ≡ false) (sym (eqb-true other first same)) fails
          | false ↦ λ not_same.
              let is_other : other ≢ first = eqb-false other first not_same in
              none.apart other (omega (arith, late, is_other)) early
        ] refl;
  }
  further-none first (suc index) places end fails none = none

  -- one place less at the front, which passes
  passed : (first end index : ℕ) (later : List ℕ) → first < end → test first ≡ true → index < length (first ∷ later)
      → ((index : ℕ) → index < length later
      → IsNext test (start_from (first + 1) later index) (slice_index_or later index 0) end)
      → IsNext test (start_from first (first ∷ later) index) (slice_index_or (first ∷ later) index 0) end
  passed first end zero later within passes near next = record {
    order = omega arith;
    within = within;
    passes = passes;
    apart = λ other late early. absurd (omega (arith, late, early));
  }
  passed first end (suc index) later within passes near next =
      subst (λ start. IsNext test start (slice_index_or later index 0) end) (sym (more first index later))
      (next index (omega (arith, near)))

  passed-none : (first end index : ℕ) (later : List ℕ) → index ≡ length (first ∷ later)
      → ((index : ℕ) → index ≡ length later → AreNone test (start_from (first + 1) later index) end)
      → AreNone test (start_from first (first ∷ later) index) end
  passed-none first end zero later last none = absurd (omega (arith, last))
  passed-none first end (suc index) later last none =
      subst (λ start. AreNone test start end) (sym (more first index later)) (none index (omega (arith, last)))

  next-from : (first count index : ℕ) → index < length (passing first count)
      → IsNext test (start_from first (passing first count) index) (slice_index_or (passing first count) index 0) (first + count)
  next-from first zero index within = absurd (omega (arith, within))
  next-from first (suc count) index within =
      subst (IsNext test (start_from first (passing first (suc count)) index)
      (slice_index_or (passing first (suc count)) index 0)) end
      (elim (test first) as (λ b. test first ≡ b → index < length (cond b (first ∷ later) later)
      → IsNext test (start_from first (cond b (first ∷ later) later) index)
      (slice_index_or (cond b (first ∷ later) later) index 0) (first + 1 + count)) [
        | true ↦ λ passes near.
            passed first (first + 1 + count) index later (omega arith) passes near (next-from (first + 1) count)
        | false ↦ λ fails near. further first index later _ _ fails (next-from (first + 1) count index near)
      ] refl within)
    where
      later : List ℕ
      later = passing (first + 1) count

      end : first + 1 + count ≡ first + suc count
      end = omega arith

  none-from : (first count index : ℕ) → index ≡ length (passing first count)
      → AreNone test (start_from first (passing first count) index) (first + count)
  none-from first zero index is = subst (λ n. AreNone test (start_from first [] n) (first + 0)) (sym is) record {
    order = omega arith;
    apart = λ other late early. absurd (omega (arith, late, early));
  }
  none-from first (suc count) index is =
      subst (AreNone test (start_from first (passing first (suc count)) index)) end
      (elim (test first) as (λ b. test first ≡ b → index ≡ length (cond b (first ∷ later) later)
      → AreNone test (start_from first (cond b (first ∷ later) later) index) (first + 1 + count)) [
        | true ↦ λ passes last. passed-none first (first + 1 + count) index later last (none-from (first + 1) count)
        | false ↦ λ fails last. further-none first index later _ fails (none-from (first + 1) count index last)
      ] refl is)
    where
      later : List ℕ
      later = passing (first + 1) count

      end : first + 1 + count ≡ first + suc count
      end = omega arith

  -- the next place of a walk, and what is left behind the last one
  pub next-place : (end : ℕ) (places : List ℕ) (index : ℕ) → places ≡ filter test (range_with_len 0 end)
      → index < length places → IsNext test (start_of places index) (slice_index_or places index 0) end
  next-place end places index is within =
      let all : 0 + end ≡ end = omega arith in
      subst (λ (rows : List ℕ). IsNext test (start_of rows index) (slice_index_or rows index 0) end) (sym is)
      (subst (IsNext test (start_of (passing 0 end) index) (slice_index_or (passing 0 end) index 0)) all
      (next-from 0 end index (subst (λ (rows : List ℕ). index < length rows) is within)))

  pub none-left : (end : ℕ) (places : List ℕ) (index : ℕ) → places ≡ filter test (range_with_len 0 end)
      → index ≡ length places → AreNone test (start_of places index) end
  none-left end places index is last =
      let all : 0 + end ≡ end = omega arith in
      subst (λ (rows : List ℕ). AreNone test (start_of rows index) end) (sym is)
      (subst (AreNone test (start_of (passing 0 end) index)) all (none-from 0 end index (last ∙ ap length is)))

  -- one number more is tested
  pub passing-more : (first count : ℕ) → filter test (range_with_len first (count + 1))
      ≡ filter test (range_with_len first count) ++ cond (test (first + count)) ((first + count) ∷ []) []
  passing-more first zero =
      let same : first ≡ first + 0 = omega arith in
      subst (λ n. filter test (first ∷ []) ≡ cond (test n) (n ∷ []) []) same refl
  passing-more first (suc count) =
      let next : first + 1 + count ≡ first + suc count = omega arith in
      let far : suc (count + 1) ≡ suc count + 1 = omega arith in
      subst (λ n. passing first n ≡ passing first (suc count)
      ++ cond (test (first + suc count)) ((first + suc count) ∷ []) []) far
      (subst (λ n. passing first (suc (count + 1)) ≡ passing first (suc count) ++ cond (test n) (n ∷ []) []) next
      (elim (test first) as (λ b. cond b (first ∷ passing (first + 1) (count + 1)) (passing (first + 1) (count + 1))
      ≡ cond b (first ∷ passing (first + 1) count) (passing (first + 1) count)
      ++ cond (test (first + 1 + count)) ((first + 1 + count) ∷ []) []) [
        | true ↦ ap (λ (rows : List ℕ). first ∷ rows) (passing-more (first + 1) count)
        | false ↦ passing-more (first + 1) count
      ]))

  pub passing-few : (first count : ℕ) → length (filter test (range_with_len first count)) ≤ count
  passing-few first zero = omega arith
  passing-few first (suc count) =
      elim (test first) as (λ b. length (cond b (first ∷ passing (first + 1) count) (passing (first + 1) count)) ≤ suc count) [
        | true ↦ omega (arith, passing-few (first + 1) count)
        | false ↦ omega (arith, passing-few (first + 1) count)
      ]

  -- those before an end
  none-early : (end first count : ℕ) → end ≤ first → take_while (λ place. nat_lt place end) (passing first count) ≡ []
  none-early end first zero late = refl
  none-early end first (suc count) late =
      elim (test first) as (λ b. take_while (λ place. nat_lt place end)
      (cond b (first ∷ passing (first + 1) count) (passing (first + 1) count)) ≡ []) [
        | true ↦
            take_while-cons (λ place. nat_lt place end) first (passing (first + 1) count)
            ∙ ap (λ b. cond b (first ∷ take_while (λ place. nat_lt place end) (passing (first + 1) count)) [])
            (le-ltb first end late)
        | false ↦ none-early end (first + 1) count (omega (arith, late))
      ]

  early : (end first kept count : ℕ) → first + kept ≡ end → kept ≤ count
      → take_while (λ place. nat_lt place end) (passing first count) ≡ passing first kept
  early end first zero count ends few = none-early end first count (omega (arith, ends))
  early end first (suc kept) zero ends few = absurd (omega (arith, few))
  early end first (suc kept) (suc count) ends few =
      let later = early end (first + 1) kept count (omega (arith, ends)) (omega (arith, few)) in
      elim (test first) as (λ b. take_while (λ place. nat_lt place end)
      (cond b (first ∷ passing (first + 1) count) (passing (first + 1) count))
      ≡ cond b (first ∷ passing (first + 1) kept) (passing (first + 1) kept)) [
        | true ↦
            take_while-cons (λ place. nat_lt place end) first (passing (first + 1) count)
            ∙ ap (λ b. cond b (first ∷ take_while (λ place. nat_lt place end) (passing (first + 1) count)) [])
            (lt-ltb first end (omega (arith, ends)))
            ∙ ap (λ (rows : List ℕ). first ∷ rows) later
        | false ↦ later
      ]

  pub passing-before : (end count : ℕ) → end ≤ count
      → take_while (λ place. nat_lt place end) (filter test (range_with_len 0 count)) ≡ filter test (range_with_len 0 end)
  passing-before end count few = early end 0 end count (omega arith) few
