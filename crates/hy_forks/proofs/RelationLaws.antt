-- Relations between the elements of two lists at all places.
use Rattle.std.proofs.Common.{◌≡◌, ℕ, zero, suc, ◌+◌, ◌<◌, ◌≤◌, List, [], ◌∷◌, length, slice_index_or, Some, inl, inr, refl, sym, ap, ◌∙◌, subst, arith, nat_lt, true, false}
use Rattle.std.specs.Prelude.{slice_get}
use Rattle.std.proofs.lemmas.Bool.{lt-ltb, ltb-true, true≢false}
use Rattle.hy_crossing.specs.Lists.{ChangesAt, Pairwise}
use Rattle.hy_crossing.specs.Pairs.{At, Before}
use Rattle.hy_crossing.proofs.PairLaws.{pairs-replaced, pairs-then}
use Rattle.hy_forks.specs.inside.Places.{From}

pub pairs-map : {Row : Type 0} (first second : ℕ → Row → Row → Type 0)
    → ((number : ℕ) (old new : Row) → first number old new → second number old new)
    → (number : ℕ) (olds news : List Row) → Pairwise first number olds news → Pairwise second number olds news
pairs-map first second leads number [] [] pairs = tt
pairs-map first second leads number (old ∷ olds) (new ∷ news) pairs =
    (leads number old new pairs.0, pairs-map first second leads (suc number) olds news pairs.1)
pairs-map first second leads number [] (new ∷ news) pairs = absurd pairs
pairs-map first second leads number (old ∷ olds) [] pairs = absurd pairs

pub pairs-length : {Row : Type 0} (relation : ℕ → Row → Row → Type 0) (number : ℕ) (olds news : List Row)
    → Pairwise relation number olds news → length news ≡ length olds
pairs-length relation number [] [] pairs = refl
pairs-length relation number (old ∷ olds) (new ∷ news) pairs =
    ap suc (pairs-length relation (suc number) olds news pairs.1)
pairs-length relation number [] (new ∷ news) pairs = absurd pairs
pairs-length relation number (old ∷ olds) [] pairs = absurd pairs

-- each element is related to itself
pub pairs-same : {Row : Type 0} (relation : ℕ → Row → Row → Type 0) (first : ℕ)
    → ((number : ℕ) (row : Row) → first ≤ number → relation number row row) → (number : ℕ) (rows : List Row)
    → first ≤ number → Pairwise relation number rows rows
pairs-same relation first still number [] late = tt
pairs-same relation first still number (row ∷ rows) late =
    (still number row late, pairs-same relation first still (suc number) rows (omega (arith, late)))

-- the elements at one place
pub record PairAt {Row : Type 0} (relation : ℕ → Row → Row → Type 0) (place number : ℕ) (olds news : List Row)
    : Type 0 where
  pub old : Row
  pub new : Row
  pub old_is : slice_get olds place ≡ Some old
  pub new_is : slice_get news place ≡ Some new
  pub relates : relation (number + place) old new

pub pairs-get : {Row : Type 0} (relation : ℕ → Row → Row → Type 0) (number : ℕ) (olds news : List Row)
    → Pairwise relation number olds news → (place : ℕ) → place < length olds → PairAt relation place number olds news
pairs-get relation number [] news pairs place within = absurd (omega (arith, within))
pairs-get relation number (old ∷ olds) [] pairs place within = absurd pairs
pairs-get relation number (old ∷ olds) (new ∷ news) pairs zero within =
    let here : number ≡ number + 0 = omega arith in
    record {
      old = old;
      new = new;
      old_is = refl;
      new_is = refl;
      relates = subst (λ n. relation n old new) here pairs.0;
    }
pairs-get relation number (old ∷ olds) (new ∷ news) pairs (suc place) within =
    let next : suc number + place ≡ number + suc place = omega arith in
    let later = pairs-get relation (suc number) olds news pairs.1 place (omega (arith, within)) in
    record {
      old = later.old;
      new = later.new;
      old_is = later.old_is;
      new_is = later.new_is;
      relates = subst (λ n. relation n later.old later.new) next later.relates;
    }

-- ---- relations before a number, from one on, and at one

module _ {Row : Type 0} (relation : ℕ → Row → Row → Type 0) where
  pub before-start : (rows : List Row) → Pairwise (Before 1 relation) 1 rows rows
  before-start rows = pairs-same (Before 1 relation) 1 (λ number row late. inr (late, refl)) 1 rows (omega arith)

  pub before-all : (last number : ℕ) (olds news : List Row) → Pairwise (Before last relation) number olds news
      → number + length olds ≤ last → Pairwise relation number olds news
  before-all last number [] [] pairs past = tt
  before-all last number (old ∷ olds) (new ∷ news) pairs past = (
    elim pairs.0 [
      | inl here ↦ here.1
      | inr late ↦ absurd (omega (arith, late.0, past))
    ],
    before-all last (suc number) olds news pairs.1 (omega (arith, past)),
  )
  before-all last number [] (new ∷ news) pairs past = absurd pairs
  before-all last number (old ∷ olds) [] pairs past = absurd pairs

  pub from-start : (first : ℕ) (rows : List Row)
      → ((number : ℕ) (row : Row) → first ≤ number → relation number row row)
      → Pairwise (From first relation) 1 rows rows
  from-start first rows still =
      pairs-same (From first relation) 0 (λ number row late. elim (nat_lt number first) as (λ b. nat_lt number first ≡ b
      → From first relation number row row) [
        | true ↦ λ less. inr (ltb-true number first less, refl)
        | false ↦ λ no.
            let late : first ≤ number =
            omega (arith, λ (less : number < first). true≢false (sym (lt-ltb number first less) ∙ no)) in
            inl (late, still number row late)
      ] refl) 1 rows (omega arith)

  pub from-all : (first number : ℕ) (olds news : List Row) → Pairwise (From first relation) number olds news
      → first ≤ number → Pairwise relation number olds news
  from-all first number [] [] pairs late = tt
  from-all first number (old ∷ olds) (new ∷ news) pairs late = (
    elim pairs.0 [
      | inl here ↦ here.1
      | inr early ↦ absurd (omega (arith, early.0, late))
    ],
    from-all first (suc number) olds news pairs.1 (omega (arith, late)),
  )
  from-all first number [] (new ∷ news) pairs late = absurd pairs
  from-all first number (old ∷ olds) [] pairs late = absurd pairs

-- an element that was replaced
pub changes-pairs : {Row : Type 0} (relation : Row → Row → Type 0) (place : ℕ) (olds news : List Row)
    → place < length olds → ChangesAt relation place olds news
    → Pairwise (At (place + 1) (λ number. relation)) 1 olds news
changes-pairs {Row = Row} relation place olds news within changes =
    subst (λ (rows : List Row). Pairwise (At (place + 1) (λ number. relation)) 1 olds rows) (sym changes.3)
    (pairs-replaced (λ number. relation) place olds changes.0 changes.1 within changes.2 changes.4)

get-at : {Row : Type 0} (rows : List Row) (place : ℕ) (row : Row) → place < length rows
    → row ≡ slice_index_or rows place row → slice_get rows place ≡ Some row
get-at [] place row within here = absurd (omega (arith, within))
get-at (first ∷ rows) zero row within here = ap Some (sym here)
get-at (first ∷ rows) (suc place) row within here = get-at rows place row (omega (arith, within)) here

pub changes-get : {Row : Type 0} (relation : Row → Row → Type 0) (place : ℕ) (olds news : List Row)
    → place < length olds → (changes : ChangesAt relation place olds news) → slice_get olds place ≡ Some changes.0
changes-get relation place olds news within changes = get-at olds place changes.0 within changes.2

-- a relation before a number leaves the element with that number, and so does one behind it
pub before-still : {Row : Type 0} (relation : ℕ → Row → Row → Type 0) (place : ℕ) (olds news : List Row)
    → Pairwise (Before (place + 1) relation) 1 olds news → place < length olds
    → slice_get news place ≡ slice_get olds place
before-still relation place olds news pairs within =
    let at = pairs-get (Before (place + 1) relation) 1 olds news pairs place within in
    elim at.relates [
      | inl early ↦ absurd (omega (arith, early.0))
      | inr late ↦ at.new_is ∙ ap Some late.1 ∙ sym at.old_is
    ]

pub from-still : {Row : Type 0} (relation : ℕ → Row → Row → Type 0) (place : ℕ) (olds news : List Row)
    → Pairwise (From (place + 1 + 1) relation) 1 olds news → place < length olds
    → slice_get news place ≡ slice_get olds place
from-still relation place olds news pairs within =
    let at = pairs-get (From (place + 1 + 1) relation) 1 olds news pairs place within in
    elim at.relates [
      | inl late ↦ absurd (omega (arith, late.0))
      | inr early ↦ at.new_is ∙ ap Some early.1 ∙ sym at.old_is
    ]

-- one element more
pub before-more : {Row : Type 0} (first second : ℕ → Row → Row → Type 0) (one : Row → Row → Type 0) (place : ℕ)
    → ((number : ℕ) (old new : Row) → first number old new → second number old new)
    → ((old new : Row) → one old new → second (place + 1) old new) → (olds middles news : List Row)
    → Pairwise (Before (place + 1) first) 1 olds middles → Pairwise (At (place + 1) (λ number. one)) 1 middles news
    → Pairwise (Before (place + 1 + 1) second) 1 olds news
before-more {Row = Row} first second one place grows here olds middles news before at =
    pairs-then (Before (place + 1) first) (At (place + 1) (λ number. one)) (Before (place + 1 + 1) second) joins 1 olds
    middles news before at
  where
    joins : (number : ℕ) (old middle new : Row) → Before (place + 1) first number old middle
        → At (place + 1) (λ number. one) number middle new → Before (place + 1 + 1) second number old new
    joins number old middle new (inl early) (inl is) = absurd (omega (arith, early.0, is.0))
    joins number old middle new (inl early) (inr other) =
        inl (
          omega (arith, early.0),
          subst (λ (row : Row). second number old row) (sym other.1)
              (grows number old middle early.1),
        )
    joins number old middle new (inr late) (inl is) =
        inl (
          omega (arith, is.0),
          subst (λ n. second n old new) (sym is.0)
              (here old new (subst (λ (row : Row). one row new) late.1 is.1)),
        )
    joins number old middle new (inr late) (inr other) = inr (omega (arith, late.0, other.0), other.1 ∙ late.1)

pub from-more : {Row : Type 0} (relation : ℕ → Row → Row → Type 0) (one : Row → Row → Type 0) (place : ℕ)
    → ((old new : Row) → one old new → relation (place + 1) old new) → (olds middles news : List Row)
    → Pairwise (From (place + 1 + 1) relation) 1 olds middles → Pairwise (At (place + 1) (λ number. one)) 1 middles news
    → Pairwise (From (place + 1) relation) 1 olds news
from-more {Row = Row} relation one place here olds middles news from at =
    pairs-then (From (place + 1 + 1) relation) (At (place + 1) (λ number. one)) (From (place + 1) relation) joins 1 olds
    middles news from at
  where
    joins : (number : ℕ) (old middle new : Row) → From (place + 1 + 1) relation number old middle
        → At (place + 1) (λ number. one) number middle new → From (place + 1) relation number old new
    joins number old middle new (inl late) (inl is) = absurd (omega (arith, late.0, is.0))
    joins number old middle new (inl late) (inr other) =
        inl (omega (arith, late.0), subst (λ (row : Row). relation number old row) (sym other.1) late.1)
    joins number old middle new (inr early) (inl is) =
        inl (
          omega (arith, is.0),
          subst (λ n. relation n old new) (sym is.0)
              (here old new (subst (λ (row : Row). one row new) early.1 is.1)),
        )
    joins number old middle new (inr early) (inr other) = inr (omega (arith, early.0, other.0), other.1 ∙ early.1)
