-- Elements of lists at places.
use Rattle.std.proofs.Common.{◌≡◌, ℕ, zero, suc, ◌<◌, List, [], ◌∷◌, ◌++◌, length, None, Some, refl, sym, subst, arith}
use Rattle.std.specs.Prelude.{IfSome, IsSomeAnd, Option, slice_get}
use mathlib.Core.List.{IsPrefix}

-- what holds of a value that is there
pub some-this : {Row : Type 0} (F : Row → Type 0) (found : Option Row) (row : Row) → found ≡ Some row
    → IsSomeAnd found F → F row
some-this {Row = Row} F found row is holds = subst (λ (value : Option Row). IsSomeAnd value F) is holds

pub some-is : {Row : Type 0} (F : Row → Type 0) (found : Option Row) (row : Row) → found ≡ Some row → F row
    → IsSomeAnd found F
some-is {Row = Row} F found row is holds = subst (λ (value : Option Row). IsSomeAnd value F) (sym is) holds

pub some-both : {Row : Type 0} (F G : Row → Type 0) (H : Type 0) (found : Option Row) → IsSomeAnd found F
    → IsSomeAnd found G → ((row : Row) → F row → G row → H) → H
some-both F G H None one other joins = absurd one
some-both F G H (Some row) one other joins = joins row one other

pub some-map : {Row : Type 0} (F G : Row → Type 0) (found : Option Row) → ((row : Row) → F row → G row)
    → IsSomeAnd found F → IsSomeAnd found G
some-map F G None leads holds = holds
some-map F G (Some row) leads holds = leads row holds

-- a value that is there
pub some-out : {Row : Type 0} (F : Row → Type 0) (found : Option Row) → IsSomeAnd found F
    → (row : Row) × (found ≡ Some row) × F row
some-out F None holds = absurd holds
some-out F (Some row) holds = (row, refl, holds)

-- what is to be shown of a value, if one is there
pub some-each : {Row : Type 0} (F : Row → Type 0) (found : Option Row) → ((row : Row) → found ≡ Some row → F row)
    → IfSome found F
some-each F None shows = tt
some-each F (Some row) shows = shows row refl

pub get-within : {Row : Type 0} (rows : List Row) (place : ℕ) (row : Row) → slice_get rows place ≡ Some row
    → place < length rows
get-within [] place row is = absurd (cc)
get-within (first ∷ rows) zero row is = omega arith
get-within (first ∷ rows) (suc place) row is = omega (arith, get-within rows place row is)

-- a list with more behind it
pub get-front : {Row : Type 0} (rows more : List Row) (place : ℕ) (row : Row) → slice_get rows place ≡ Some row
    → slice_get (rows ++ more) place ≡ Some row
get-front [] more place row is = absurd (cc)
get-front (first ∷ rows) more zero row is = is
get-front (first ∷ rows) more (suc place) row is = get-front rows more place row is

pub front-holds : {Row : Type 0} (F : Row → Type 0) (rows more : List Row) (place : ℕ)
    → IsSomeAnd (slice_get rows place) F → IsSomeAnd (slice_get (rows ++ more) place) F
front-holds F [] more place holds = absurd holds
front-holds F (first ∷ rows) more zero holds = holds
front-holds F (first ∷ rows) more (suc place) holds = front-holds F rows more place holds

pub get-last : {Row : Type 0} (rows : List Row) (row : Row) (place : ℕ) → place ≡ length rows
    → slice_get (rows ++ row ∷ []) place ≡ Some row
get-last [] row zero at = refl
get-last [] row (suc place) at = absurd (omega (arith, at))
get-last (first ∷ rows) row zero at = absurd (omega (arith, at))
get-last (first ∷ rows) row (suc place) at = get-last rows row place (omega (arith, at))

-- the last one of a beginning of a list
pub get-begin : {Row : Type 0} (rows all : List Row) (row : Row) → IsPrefix (rows ++ row ∷ []) all
    → slice_get all (length rows) ≡ Some row
get-begin {Row = Row} rows all row begins =
    subst (λ (list : List Row). slice_get list (length rows) ≡ Some row) begins.1
    (get-front (rows ++ row ∷ []) begins.0 (length rows) row (get-last rows row (length rows) refl))
