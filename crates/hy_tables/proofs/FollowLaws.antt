-- Laws of lists in which each row stands in a relation to the row before it, such as the customers of a load.
use Rattle.std.proofs.Common.{◌≡◌, ℕ, zero, suc, ◌-◌, ◌==◌, false, List, [], ◌∷◌, ◌++◌, length, Option, Some, None, IfSome, slice_get, refl, sym, subst, ◌∙◌, arith}
use Rattle.std.proofs.lemmas.Bool.Decides.{nat_tests}
use Rattle.hy_schema.specs.Loads.{row_before}
use Rattle.hy_tables.specs.Generated.{joined_up_to, rows_up_to}
use Rattle.hy_tables.proofs.JoinedLaws.{Each}

-- the last row of a list behind a row; that row where the list is empty
abbrev pub last_of : {Row : Type 0} → Option Row → List Row → Option Row
last_of before [] = before
last_of before (row ∷ rows) = last_of (Some row) rows

last_of-append : {Row : Type 0} (before : Option Row) (xs ys : List Row)
    → last_of before (xs ++ ys) ≡ last_of (last_of before xs) ys
last_of-append before [] ys = refl
last_of-append before (x ∷ xs) ys = last_of-append (Some x) xs ys

-- the row before a place that is not the first
row_before-suc : {Row : Type 0} (rows : List Row) (place : ℕ) → row_before rows (suc place) ≡ slice_get rows place
row_before-suc rows place =
    let some : (suc place == 0) ≡ false = grind (arith, nat_tests) in
    let same : suc place - 1 ≡ place = omega arith in
    rw (some, same) refl

-- the row before the end
last_behind : {Row : Type 0} (row : Row) (rows : List Row)
    → slice_get (row ∷ rows) (length rows) ≡ last_of (Some row) rows
last_behind row [] = refl
last_behind row (next ∷ rows) = last_behind next rows

pub row_before-end : {Row : Type 0} (rows : List Row) → row_before rows (length rows) ≡ last_of None rows
row_before-end [] = refl
row_before-end (row ∷ rows) = row_before-suc (row ∷ rows) (length rows) ∙ last_behind row rows

-- the last of some rows, and of the lists of some numbers
pub last_of-rows : {Row : Type 0} (row : ℕ → Row) (last : ℕ) (before : Option Row)
    → last_of before (rows_up_to row (suc last)) ≡ Some (row (suc last))
last_of-rows row last before = last_of-append before (rows_up_to row last) (row (suc last) ∷ [])

pub last_of-joined : {Row : Type 0} (list : ℕ → List Row) (end : ℕ → Row)
    → ((number : ℕ) (before : Option Row) → last_of before (list number) ≡ Some (end number))
    → (last : ℕ) (before : Option Row) → last_of before (joined_up_to list (suc last)) ≡ Some (end (suc last))
last_of-joined list end ends last before =
    last_of-append before (joined_up_to list last) (list (suc last))
    ∙ ends (suc last) (last_of before (joined_up_to list last))

module _ {Row : Type 0} (After : Option Row → Row → Type 0) where
  -- each row of a list is right behind the one before it, and the first behind a row
  abbrev pub Follow : Option Row → List Row → Type 0
  Follow before [] = Unit {0}
  Follow before (row ∷ rows) = After before row × Follow (Some row) rows

  follow-append : (before : Option Row) (xs ys : List Row) → Follow before xs → Follow (last_of before xs) ys
      → Follow before (xs ++ ys)
  follow-append before [] ys left right = right
  follow-append before (x ∷ xs) ys left right = (left.0, follow-append (Some x) xs ys left.1 right)

  -- so each is right behind the row before its place
  follow-behind : (before : Row) (rows : List Row) → Follow (Some before) rows → (place : ℕ)
      → IfSome (slice_get rows place) (After (slice_get (before ∷ rows) place))
  follow-behind before [] follow place = tt
  follow-behind before (row ∷ rows) follow zero = follow.0
  follow-behind before (row ∷ rows) follow (suc place) = follow-behind row rows follow.1 place

  pub follow-each : (rows : List Row) → Follow None rows → Each (λ place row. After (row_before rows place) row) rows
  follow-each [] follow place = tt
  follow-each (row ∷ rows) follow zero = follow.0
  follow-each (row ∷ rows) follow (suc place) =
      subst (λ before. IfSome (slice_get rows place) (After before)) (sym (row_before-suc (row ∷ rows) place))
      (follow-behind row rows follow.1 place)

  -- rows of numbers behind one another
  pub follow-rows : (row : ℕ → Row) (before : Option Row) → After before (row 1)
      → ((number : ℕ) → After (Some (row (suc number))) (row (suc (suc number))))
      → (last : ℕ) → Follow before (rows_up_to row last)
  follow-rows row before first next zero = tt
  follow-rows row before first next (suc zero) = (first, tt)
  follow-rows row before first next (suc (suc last)) =
      follow-append before (rows_up_to row (suc last)) (row (suc (suc last)) ∷ [])
      (follow-rows row before first next (suc last))
      (subst (λ other. Follow other (row (suc (suc last)) ∷ [])) (sym (last_of-rows row last before)) (next last, tt))

  -- and their lists, of which each has an end
  pub follow-joined : (list : ℕ → List Row) (end : ℕ → Row)
      → ((number : ℕ) (before : Option Row) → last_of before (list number) ≡ Some (end number))
      → (before : Option Row) → Follow before (list 1)
      → ((number : ℕ) → Follow (Some (end (suc number))) (list (suc (suc number))))
      → (last : ℕ) → Follow before (joined_up_to list last)
  follow-joined list end ends before first next zero = tt
  follow-joined list end ends before first next (suc zero) = first
  follow-joined list end ends before first next (suc (suc last)) =
      follow-append before (joined_up_to list (suc last)) (list (suc (suc last)))
      (follow-joined list end ends before first next (suc last))
      (subst (λ other. Follow other (list (suc (suc last)))) (sym (last_of-joined list end ends last before))
      (next last))
