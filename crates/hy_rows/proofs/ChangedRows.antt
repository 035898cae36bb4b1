-- Finding and changing the first row that passes a test, in two lists one behind the other.
use Rattle.std.proofs.Common.{◌≡◌, Bool, true, false, cond, List, [], ◌∷◌, ◌++◌, Some, None, refl, ap}
use Rattle.std.specs.List.{find}
use Rattle.hy_rows.specs.Finding.{with_changed}

-- the first match of two lists
pub find-append_some : {Row : Type 0} (test : Row → Bool) (xs ys : List Row) (row : Row) → find test xs ≡ Some row → find test (xs ++ ys) ≡ Some row
find-append_some test [] ys row found = cc
find-append_some test (x ∷ xs) ys row found =
    elim (test x) as (λ b. cond b (Some x) (find test xs) ≡ Some row → cond b (Some x) (find test (xs ++ ys)) ≡ Some row) [
      | true ↦ λ this. this
      | false ↦ λ later. find-append_some test xs ys row later
    ] found

pub find-append_none : {Row : Type 0} (test : Row → Bool) (xs ys : List Row) → find test xs ≡ None → find test (xs ++ ys) ≡ find test ys
find-append_none test [] ys missing = refl
find-append_none test (x ∷ xs) ys missing =
    elim (test x) as (λ b. cond b (Some x) (find test xs) ≡ None → cond b (Some x) (find test (xs ++ ys)) ≡ find test ys) [
      | true ↦ λ this. absurd (cc)
      | false ↦ λ later. find-append_none test xs ys later
    ] missing

-- a change behind rows that don't match, and one before other rows
pub with_changed-append_none : {Row : Type 0} (test : Row → Bool) (change : Row → Row) (xs ys : List Row) → find test xs ≡ None → with_changed test change (xs ++ ys) ≡ xs ++ with_changed test change ys
with_changed-append_none test change [] ys missing = refl
with_changed-append_none test change (x ∷ xs) ys missing =
    elim (test x) as (λ b. cond b (Some x) (find test xs) ≡ None → cond b (change x ∷ xs ++ ys) (x ∷ with_changed test change (xs ++ ys)) ≡ x ∷ (xs ++ with_changed test change ys)) [
      | true ↦ λ this. absurd (cc)
      | false ↦ λ later. ap (λ rows. x ∷ rows) (with_changed-append_none test change xs ys later)
    ] missing

pub with_changed-none : {Row : Type 0} (test : Row → Bool) (change : Row → Row) (rows : List Row) → find test rows ≡ None → with_changed test change rows ≡ rows
with_changed-none test change [] missing = refl
with_changed-none test change (x ∷ xs) missing =
    elim (test x) as (λ b. cond b (Some x) (find test xs) ≡ None → cond b (change x ∷ xs) (x ∷ with_changed test change xs) ≡ x ∷ xs) [
      | true ↦ λ this. absurd (cc)
      | false ↦ λ later. ap (λ rows. x ∷ rows) (with_changed-none test change xs later)
    ] missing

pub with_changed-append_some : {Row : Type 0} (test : Row → Bool) (change : Row → Row) (xs ys : List Row) (row : Row) → find test xs ≡ Some row → with_changed test change (xs ++ ys) ≡ with_changed test change xs ++ ys
with_changed-append_some test change [] ys row found = absurd (cc)
with_changed-append_some test change (x ∷ xs) ys row found =
    elim (test x) as (λ b. cond b (Some x) (find test xs) ≡ Some row → cond b (change x ∷ xs ++ ys) (x ∷ with_changed test change (xs ++ ys)) ≡ cond b (change x ∷ xs) (x ∷ with_changed test change xs) ++ ys) [
      | true ↦ λ this. refl
      | false ↦ λ later. ap (λ rows. x ∷ rows) (with_changed-append_some test change xs ys row later)
    ] found
