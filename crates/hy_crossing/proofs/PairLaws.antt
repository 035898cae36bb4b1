-- Relations between the partitions before and after, one behind the other.
use Rattle.std.proofs.Common.{◌≡◌, ℕ, zero, suc, ◌+◌, ◌<◌, ◌≤◌, List, [], ◌∷◌, length, drop, take, slice_index_or, slice_set, inl, inr, refl, sym, subst, arith}
use Rattle.std.specs.Prelude.{IfSome, slice_get}
use Rattle.hy_crossing.specs.Lists.{InTurn, IsDoneUpTo, Pairwise, Stepping}
use Rattle.hy_crossing.specs.Pairs.{At, Before}

-- two relations, one behind the other
pub pairs-then : {Row : Type 0} (first second both : ℕ → Row → Row → Type 0)
    → ((number : ℕ) (old middle new : Row) → first number old middle → second number middle new → both number old new)
    → (number : ℕ) (olds middles news : List Row) → Pairwise first number olds middles
    → Pairwise second number middles news → Pairwise both number olds news
pairs-then first second both joins number [] [] [] one other = tt
pairs-then first second both joins number (old ∷ olds) (middle ∷ middles) (new ∷ news) one other = (
  joins number old middle new one.0 other.0,
  pairs-then first second both joins (suc number) olds middles news one.1 other.1,
)
pairs-then first second both joins number [] [] (new ∷ news) one other = absurd other
pairs-then first second both joins number [] (middle ∷ middles) news one other = absurd one
pairs-then first second both joins number (old ∷ olds) [] news one other = absurd one
pairs-then first second both joins number (old ∷ olds) (middle ∷ middles) [] one other = absurd other

-- the same elements
pub pairs-same : {Row : Type 0} (relation : ℕ → Row → Row → Type 0) (first : ℕ)
    → ((number : ℕ) (row : Row) → first ≤ number → relation number row row) → (number : ℕ) (rows : List Row)
    → first ≤ number → Pairwise relation number rows rows
pairs-same relation first still number [] late = tt
pairs-same relation first still number (row ∷ rows) late =
    (still number row late, pairs-same relation first still (suc number) rows (omega (arith, late)))

-- a list that was gone through up to a place
pairs-turn : {Row : Type 0} (relation : ℕ → Row → Row → Type 0) (last place number before after : ℕ)
    (olds news : List Row) → number + place ≡ last → length news ≡ length olds
    → InTurn (Stepping relation) number before after (take place olds) (take place news)
    → drop place news ≡ drop place olds → Pairwise (Before last relation) number olds news
pairs-turn {Row = Row} relation last zero number before after olds news ends count turn rest =
    subst (λ (rows : List Row). Pairwise (Before last relation) number olds rows) (sym rest)
    (pairs-same (Before last relation) last (λ number row late. inr (late, refl)) number olds (omega (arith, ends)))
pairs-turn relation last (suc place) number before after [] [] ends count turn rest = tt
pairs-turn relation last (suc place) number before after (old ∷ olds) (new ∷ news) ends count turn rest = (
  inl (omega (arith, ends), turn.1.0),
  pairs-turn relation last place (suc number) turn.0 after olds news (omega (arith, ends)) (omega (arith, count))
      turn.2 rest,
)
pairs-turn relation last (suc place) number before after [] (new ∷ news) ends count turn rest =
    absurd (omega (arith, count))
pairs-turn relation last (suc place) number before after (old ∷ olds) [] ends count turn rest =
    absurd (omega (arith, count))

pub pairs-done : {Row : Type 0} (relation : ℕ → Row → Row → Type 0) (place : ℕ) (olds news : List Row)
    → IsDoneUpTo relation place olds news → Pairwise (Before (place + 1) relation) 1 olds news
pairs-done relation place olds news done =
    pairs-turn relation (place + 1) place 1 0 0 olds news (omega arith) done.count done.done done.rest

-- a list in which one element was replaced
pairs-set : {Row : Type 0} (relation : ℕ → Row → Row → Type 0) (only place number : ℕ) (rows : List Row) (old new : Row)
    → number + place ≡ only → place < length rows → old ≡ slice_index_or rows place old → relation only old new
    → Pairwise (At only relation) number rows (slice_set rows place new)
pairs-set relation only place number [] old new ends within here one = absurd (omega (arith, within))
pairs-set {Row = Row} relation only zero number (row ∷ rows) old new ends within here one =
    let is : only ≡ number = omega (arith, ends) in (
      inl (sym is, subst (λ (row : Row). relation number row new) here (subst (λ n. relation n old new) is one)),
      pairs-same (At only relation) (suc number) (λ n row late. inr ((λ same. omega (arith, same, late, is)), refl))
          (suc number) rows (omega arith),
    )
pairs-set relation only (suc place) number (row ∷ rows) old new ends within here one = (
  inr ((λ same. omega (arith, same, ends)), refl),
  pairs-set relation only place (suc number) rows old new (omega (arith, ends)) (omega (arith, within)) here one,
)

pub pairs-replaced : {Row : Type 0} (relation : ℕ → Row → Row → Type 0) (place : ℕ) (rows : List Row) (old new : Row)
    → place < length rows → old ≡ slice_index_or rows place old → relation (place + 1) old new
    → Pairwise (At (place + 1) relation) 1 rows (slice_set rows place new)
pairs-replaced relation place rows old new within here one =
    pairs-set relation (place + 1) place 1 rows old new (omega arith) within here one

-- what holds of each element before and after
pub pairs-hold : {Row : Type 0} (relation : ℕ → Row → Row → Type 0) (one other : ℕ → Row → Type 0)
    → ((number : ℕ) (old new : Row) → relation number old new → one number old → other number new)
    → (number : ℕ) (olds news : List Row) → Pairwise relation number olds news
    → ((place : ℕ) → IfSome (slice_get olds place) (one (number + place)))
    → (place : ℕ) → IfSome (slice_get news place) (other (number + place))
pairs-hold relation one other leads number [] [] pairs holds place = holds place
pairs-hold relation one other leads number (old ∷ olds) (new ∷ news) pairs holds zero =
    let same : number + 0 ≡ number = omega arith in
    subst (λ n. other n new) (sym same) (leads number old new pairs.0 (subst (λ n. one n old) same (holds zero)))
pairs-hold relation one other leads number (old ∷ olds) (new ∷ news) pairs holds (suc place) =
    let next : suc number + place ≡ number + suc place = omega arith in
    subst (λ n. IfSome (slice_get news place) (other n)) next
    (pairs-hold relation one other leads (suc number) olds news pairs.1
    (λ p. subst (λ n. IfSome (slice_get olds p) (one n)) (omega arith) (holds (suc p))) place)
pairs-hold relation one other leads number [] (new ∷ news) pairs holds place = absurd pairs
pairs-hold relation one other leads number (old ∷ olds) [] pairs holds place = absurd pairs
