-- Places of which each is taken: one value more, and another value at a place.
use Rattle.std.proofs.Common.{◌≡◌, ℕ, zero, suc, ◌<◌, ◌++◌, List, [], ◌∷◌, length, Option, None, Some, slice_index_or, slice_set, refl, ap, arith}
use Rattle.std.specs.Prelude.{IsSome, is_some}
use Rattle.hy_crossing.specs.inside.HeldPlaces.{AllTaken, values_in}

pub length-values : {G : Type 0} (places : List (Option G)) → AllTaken places → length (values_in places) ≡ length places
length-values [] taken = refl
length-values (None ∷ rest) taken = absurd taken
length-values (Some first ∷ rest) taken = ap suc (length-values rest taken)

-- the value at a place
pub some-at : {G : Type 0} (places : List (Option G)) (place : ℕ) (here : Option G) → AllTaken places
    → place < length (values_in places) → here ≡ slice_index_or places place here → IsSome here
some-at [] place here taken within is = absurd (omega (arith, within))
some-at (None ∷ rest) place here taken within is = absurd taken
some-at (Some first ∷ rest) zero here taken within is = ap is_some is
some-at (Some first ∷ rest) (suc place) here taken within is = some-at rest place here taken (omega (arith, within)) is

pub value-is : {G : Type 0} (places : List (Option G)) (place : ℕ) (value : G) → AllTaken places
    → Some value ≡ slice_index_or places place (Some value) → value ≡ slice_index_or (values_in places) place value
value-is [] place value taken is = refl
value-is (None ∷ rest) place value taken is = absurd taken
value-is (Some first ∷ rest) zero value taken is = cc
value-is (Some first ∷ rest) (suc place) value taken is = value-is rest place value taken is

-- another value at a place
pub set-taken : {G : Type 0} (places : List (Option G)) (place : ℕ) (value : G) → AllTaken places
    → AllTaken (slice_set places place (Some value))
set-taken [] place value taken = tt
set-taken (None ∷ rest) place value taken = absurd taken
set-taken (Some first ∷ rest) zero value taken = taken
set-taken (Some first ∷ rest) (suc place) value taken = set-taken rest place value taken

pub set-values : {G : Type 0} (places : List (Option G)) (place : ℕ) (value : G) → AllTaken places
    → values_in (slice_set places place (Some value)) ≡ slice_set (values_in places) place value
set-values [] place value taken = refl
set-values (None ∷ rest) place value taken = absurd taken
set-values (Some first ∷ rest) zero value taken = refl
set-values (Some first ∷ rest) (suc place) value taken = ap (λ values. first ∷ values) (set-values rest place value taken)

-- one value more
pub push-taken : {G : Type 0} (places : List (Option G)) (value : G) → AllTaken places
    → AllTaken (places ++ Some value ∷ [])
push-taken [] value taken = tt
push-taken (None ∷ rest) value taken = absurd taken
push-taken (Some first ∷ rest) value taken = push-taken rest value taken

pub push-values : {G : Type 0} (places : List (Option G)) (value : G) → AllTaken places
    → values_in (places ++ Some value ∷ []) ≡ values_in places ++ value ∷ []
push-values [] value taken = refl
push-values (None ∷ rest) value taken = absurd taken
push-values (Some first ∷ rest) value taken = ap (λ values. first ∷ values) (push-values rest value taken)
