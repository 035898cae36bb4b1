-- Elements of lists at their places.
use Rattle.std.proofs.Common.{◌≡◌, ◌≢◌, ℕ, zero, suc, ◌+◌, ◌<◌, ◌≤◌, ◌==◌, Bool, true, false, List, [], ◌∷◌, length, slice_get, Option, Some, None, refl, sym, ap, arith, subst}
use Rattle.std.specs.Prelude.{IfSome, IsSomeAnd, slice_index_or, slice_set}
use Rattle.std.proofs.lemmas.Bool.{eqb-false, eqb-true}
use Rattle.hy_forks.specs.of_crossing.Lists.{Pairwise}

pub get-past : {Row : Type 0} (rows : List Row) (place : ℕ) → length rows ≤ place → slice_get rows place ≡ None
get-past [] place past = refl
get-past (first ∷ rows) zero past = absurd (omega (arith, past))
get-past (first ∷ rows) (suc place) past = get-past rows place (omega (arith, past))

pub get-within : {Row : Type 0} (rows : List Row) (place : ℕ) (row : Row) → slice_get rows place ≡ Some row
    → place < length rows
get-within [] place row at = absurd (cc)
get-within (first ∷ rows) zero row at = omega arith
get-within (first ∷ rows) (suc place) row at = omega (arith, get-within rows place row at)

pub get-some : {Row : Type 0} (rows : List Row) (place : ℕ) → place < length rows
    → (row : Row) × (slice_get rows place ≡ Some row)
get-some [] place within = absurd (omega (arith, within))
get-some (first ∷ rows) zero within = (first, refl)
get-some (first ∷ rows) (suc place) within = get-some rows place (omega (arith, within))

pub get-there : {Row : Type 0} (rows : List Row) (place : ℕ) (row : Row) → place < length rows
    → row ≡ slice_index_or rows place row → slice_get rows place ≡ Some row
get-there [] place row within here = absurd (omega (arith, within))
get-there (first ∷ rows) zero row within here = ap Some (sym here)
get-there (first ∷ rows) (suc place) row within here = get-there rows place row (omega (arith, within)) here

pub some-is : {Row : Type 0} (one other : Row) → Some one ≡ Some other → one ≡ other
some-is one other same = cc

-- what holds of each element, of the one at a place
pub at-place : {Row : Type 0} (Holds : Row → Type 0) (rows : List Row) (place : ℕ) (row : Row)
    → slice_get rows place ≡ Some row → IfSome (slice_get rows place) Holds → Holds row
at-place {Row = Row} Holds rows place row at holds = subst (λ (found : Option Row). IfSome found Holds) at holds

pub each-from : {Row : Type 0} (Holds : Row → Type 0) (found : Option Row)
    → ((row : Row) → found ≡ Some row → Holds row) → IfSome found Holds
each-from Holds None leads = tt
each-from Holds (Some row) leads = leads row refl

-- another element at a place
pub length-set : {Row : Type 0} (rows : List Row) (place : ℕ) (row : Row)
    → length (slice_set rows place row) ≡ length rows
length-set [] place row = refl
length-set (first ∷ rows) zero row = refl
length-set (first ∷ rows) (suc place) row = ap suc (length-set rows place row)

pub get-set_here : {Row : Type 0} (rows : List Row) (place : ℕ) (row : Row) → place < length rows
    → slice_get (slice_set rows place row) place ≡ Some row
get-set_here [] place row within = absurd (omega (arith, within))
get-set_here (first ∷ rows) zero row within = refl
get-set_here (first ∷ rows) (suc place) row within = get-set_here rows place row (omega (arith, within))

pub get-set_other : {Row : Type 0} (rows : List Row) (place other : ℕ) (row : Row) → other ≢ place
    → slice_get (slice_set rows place row) other ≡ slice_get rows other
get-set_other [] place other row apart = refl
get-set_other (first ∷ rows) zero zero row apart = absurd (apart refl)
get-set_other (first ∷ rows) zero (suc other) row apart = refl
get-set_other (first ∷ rows) (suc place) zero row apart = refl
get-set_other (first ∷ rows) (suc place) (suc other) row apart =
    get-set_other rows place other row (λ same. apart (ap suc same))

pub each-set : {Row : Type 0} (One Other : ℕ → Row → Type 0) (rows : List Row) (place : ℕ) (row : Row)
    → place < length rows → ((k : ℕ) → IfSome (slice_get rows k) (One k)) → Other place row
    → ((k : ℕ) (row : Row) → k ≢ place → One k row → Other k row)
    → (k : ℕ) → IfSome (slice_get (slice_set rows place row) k) (Other k)
each-set {Row = Row} One Other rows place row within each here leads k = by (k == place) refl
  where
    by : (same : Bool) → (k == place) ≡ same → IfSome (slice_get (slice_set rows place row) k) (Other k)
    by true is =
        let at : k ≡ place = eqb-true k place is in
        subst (λ k. IfSome (slice_get (slice_set rows place row) k) (Other k)) (sym at)
        (subst (λ (found : Option Row). IfSome found (Other place)) (sym (get-set_here rows place row within)) here)
    by false is =
        let apart : k ≢ place = eqb-false k place is in
        subst (λ (found : Option Row). IfSome found (Other k)) (sym (get-set_other rows place k row apart))
        (each-from (Other k) (slice_get rows k)
        (λ row at. leads k row apart (at-place (One k) rows k row at (each k))))

-- ---- pairs

-- the element before, of the one at a place behind
pub pairs-at : {Row : Type 0} (relation : ℕ → Row → Row → Type 0) (number : ℕ) (olds news : List Row)
    → Pairwise relation number olds news → (place : ℕ) → IfSome (slice_get news place)
    (λ new. IsSomeAnd (slice_get olds place) (λ old. relation (number + place) old new))
pairs-at relation number [] [] pairs place = tt
pairs-at relation number (old ∷ olds) (new ∷ news) pairs zero =
    let same : number ≡ number + 0 = omega arith in
    subst (λ n. relation n old new) same pairs.0
pairs-at {Row = Row} relation number (old ∷ olds) (new ∷ news) pairs (suc place) =
    let next : suc number + place ≡ number + suc place = omega arith in
    subst (λ n. IfSome (slice_get news place) (λ new. IsSomeAnd (slice_get olds place) (λ old. relation n old new))) next
    (pairs-at relation (suc number) olds news pairs.1 place)
pairs-at relation number [] (new ∷ news) pairs place = absurd pairs
pairs-at relation number (old ∷ olds) [] pairs place = absurd pairs

-- what a relation makes of what holds of each element
pub pairs-each : {Row : Type 0} (relation : ℕ → Row → Row → Type 0) (One Other : ℕ → Row → Type 0)
    (olds news : List Row)
    → ((place : ℕ) (old new : Row) → relation (suc place) old new → slice_get olds place ≡ Some old
    → slice_get news place ≡ Some new → One place old → Other place new)
    → Pairwise relation 1 olds news → ((place : ℕ) → IfSome (slice_get olds place) (One place)) → (place : ℕ)
    → IfSome (slice_get news place) (Other place)
pairs-each {Row = Row} relation One Other olds news leads pairs holds place =
    each-from (Other place) (slice_get news place) (λ new there.
    by new there (slice_get olds place) refl
    (at-place (λ new. IsSomeAnd (slice_get olds place) (λ old. relation (1 + place) old new)) news place new there
    (pairs-at relation 1 olds news pairs place)))
  where
    first : 1 + place ≡ suc place
    first = omega arith

    by : (new : Row) → slice_get news place ≡ Some new → (found : Option Row) → slice_get olds place ≡ found
        → IsSomeAnd found (λ old. relation (1 + place) old new) → Other place new
    by new there None at has = absurd has
    by new there (Some old) at has =
        leads place old new (subst (λ n. relation n old new) first has) at there
        (at-place (One place) olds place old at (holds place))

pub pairs-weaker : {Row : Type 0} (one other : ℕ → Row → Row → Type 0) (Holds : Row → Type 0)
    → ((number : ℕ) (old new : Row) → Holds old → one number old new → other number old new) → (number : ℕ)
    (olds news : List Row) → ((place : ℕ) → IfSome (slice_get olds place) Holds) → Pairwise one number olds news
    → Pairwise other number olds news
pairs-weaker one other Holds leads number [] [] holds pairs = tt
pairs-weaker one other Holds leads number (old ∷ olds) (new ∷ news) holds pairs = (
  leads number old new (holds 0) pairs.0,
  pairs-weaker one other Holds leads (suc number) olds news (λ place. holds (suc place)) pairs.1,
)
pairs-weaker one other Holds leads number [] (new ∷ news) holds pairs = absurd pairs
pairs-weaker one other Holds leads number (old ∷ olds) [] holds pairs = absurd pairs
