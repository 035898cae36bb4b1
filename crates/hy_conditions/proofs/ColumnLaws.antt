-- The laws of sums of a column: where it counts, where it tests, and over lists one behind another.
use Rattle.std.proofs.Common.{◌≡◌, ℕ, ℤ, pos, ◌+ℤ◌, ◌+◌, fold, Bool, true, false, cond, not, List, [], ◌∷◌, ◌++◌, length, map, filter, refl, sym, ap, ◌∙◌, arith, int_eq, ◌==◌, ◌&&◌, ◌||◌, ◌≤ℤ◌}
use Rattle.std.specs.List.{sum, list_all, list_any}
use Rattle.std.proofs.lemmas.Bool.Decides.{Decides-int_eq, nat_tests}
use Rattle.std.proofs.lemmas.Int.{ints}
use Rattle.std.proofs.lemmas.List.Sums.{fold-append, sum_by-cons}
use Rattle.hy_schema.specs.Conditions.{column_sum}

-- two tests are the same where each follows from the other
same_test : (one other : Bool) → (one ≡ true → other ≡ true) → (other ≡ true → one ≡ true) → one ≡ other
same_test true other to from = sym (to refl)
same_test false true to from = from refl
same_test false false to from = refl

pub int_eq-apart : (x y : ℤ) → (x ≡ y → ⊥) → int_eq x y ≡ false
int_eq-apart x y apart = elim (int_eq x y) as (λ b. int_eq x y ≡ b → b ≡ false) [
  | true ↦ λ same. absurd (apart ((Decides-int_eq x y).0 same))
  | false ↦ λ _. refl
] refl

-- tests of integers that are the same where the integers are
pub same-int_eq : (x y z w : ℤ) → (x ≡ y → z ≡ w) → (z ≡ w → x ≡ y) → int_eq x y ≡ int_eq z w
same-int_eq x y z w to from =
    same_test (int_eq x y) (int_eq z w) (λ same. (Decides-int_eq z w).1 (to ((Decides-int_eq x y).0 same)))
    (λ same. (Decides-int_eq x y).1 (from ((Decides-int_eq z w).0 same)))

int_eq-pos : (count other : ℕ) → int_eq (pos count) (pos other) ≡ (count == other)
int_eq-pos count other =
    same_test (int_eq (pos count) (pos other)) (count == other)
    (λ same. let equal : pos count ≡ pos other = (Decides-int_eq (pos count) (pos other)).0 same in let numbers : count
    ≡ other = cc in grind (arith, nat_tests))
    (λ same. let numbers : count ≡ other = grind (arith, nat_tests) in (Decides-int_eq (pos count) (pos other)).1
    (ap pos numbers))

module _ {Row : Type 0} where
  -- a sum by its first row
  pub column_sum-from : (column : Row → ℤ) (start : ℤ) (rows : List Row)
      → fold (λ sum row. sum +ℤ column row) start rows ≡ start +ℤ column_sum column rows
  column_sum-from column start [] = omega (arith, ints)
  column_sum-from column start (row ∷ rows) = omega (
    arith,
    ints,
    column_sum-from column (start +ℤ column row) rows,
    column_sum-from column
        (pos 0 +ℤ column row) rows,
  )

  pub column_sum-cons : (column : Row → ℤ) (row : Row) (rows : List Row)
      → column_sum column (row ∷ rows) ≡ column row +ℤ column_sum column rows
  column_sum-cons column row rows = omega (arith, ints, column_sum-from column (pos 0 +ℤ column row) rows)

  -- natural numbers
  pub column_sum-pos : (column : Row → ℕ) (rows : List Row)
      → column_sum (λ row. pos (column row)) rows ≡ pos (sum (map column rows))
  column_sum-pos column [] = refl
  column_sum-pos column (row ∷ rows) =
      let now : sum (map column (row ∷ rows))
      ≡ column row + sum (map column rows) = sum_by-cons (λ (number : ℕ). number) (column row) (map column rows) in
      column_sum-cons (λ row. pos (column row)) row rows ∙ ap (λ later. pos (column row) +ℤ later)
      (column_sum-pos column rows) ∙ ap pos (sym now)

  -- 1 for each row
  pub column_sum-length : (rows : List Row) → column_sum (λ _. pos 1) rows ≡ pos (length rows)
  column_sum-length [] = refl
  column_sum-length (row ∷ rows) = column_sum-cons (λ _. pos 1) row rows ∙ ap (λ later. pos 1 +ℤ later)
      (column_sum-length rows) ∙ omega (arith, ints)

  -- tests of two sums of natural numbers
  pub list_all-counts : (sums others : Row → ℤ) (counts other_counts : Row → ℕ)
      → ((row : Row) → sums row ≡ pos (counts row)) → ((row : Row) → others row ≡ pos (other_counts row))
      → (rows : List Row) → list_all (λ row. int_eq (sums row) (others row)) rows
      ≡ list_all (λ row. counts row == other_counts row) rows
  list_all-counts sums others counts other_counts same other_same rows =
      (λ i. list_all (λ row. int_eq (same row i) (other_same row i)) rows) ∙
      (λ i. list_all (λ row. int_eq-pos (counts row) (other_counts row) i) rows)

  -- some row passes a test where those that pass are not none
  pub list_any-count : (test : Row → Bool) (rows : List Row)
      → not (int_eq (pos (length (filter test rows))) (pos 0)) ≡ list_any test rows
  list_any-count test [] = refl
  list_any-count test (row ∷ rows) = elim (test row) as
      (λ b. not (int_eq (pos (length (cond b (row ∷ filter test rows) (filter test rows)))) (pos 0))
      ≡ (b || list_any test rows)) [
        | true ↦ ap not (int_eq-apart (pos (length (row ∷ filter test rows))) (pos 0) (λ same. omega (arith, ints)))
        | false ↦ list_any-count test rows
      ]

  -- all rows pass a test where those that fail are none
  pub list_all-count : (test : Row → Bool) (rows : List Row)
      → int_eq (column_sum (λ row. cond (test row) (pos 0) (pos 1)) rows) (pos 0) ≡ list_all test rows
  list_all-count test rows = (counted rows).1
    where
      fails : Row → ℤ
      fails row = cond (test row) (pos 0) (pos 1)

      counted : (rows : List Row) → (pos 0 ≤ℤ column_sum fails rows)
          × (int_eq (column_sum fails rows) (pos 0) ≡ list_all test rows)
      counted [] = (omega (arith, ints), refl)
      counted (row ∷ rows) =
          let later = counted rows in
          let cons = column_sum-cons fails row rows in
          elim (test row) as (λ b. column_sum fails (row ∷ rows) ≡ cond b (pos 0) (pos 1) +ℤ column_sum fails rows
          → (pos 0 ≤ℤ column_sum fails (row ∷ rows))
          × (int_eq (column_sum fails (row ∷ rows)) (pos 0) ≡ (b && list_all test rows))) [
            | true ↦ λ same.
                let equal : column_sum fails (row ∷ rows) ≡ column_sum fails rows = omega (arith, ints) in
                (omega (arith, ints, later.0), ap (λ sum. int_eq sum (pos 0)) equal ∙ later.1)
            | false ↦ λ same. (
              omega (arith, ints, later.0),
              int_eq-apart (column_sum fails (row ∷ rows)) (pos 0)
                  (λ none. omega (arith, ints, later.0)),
            )
          ] cons

  -- a sum over the rows that pass a test
  pub column_sum-filter : (skips : Row → Bool) (column : Row → ℤ) (rows : List Row)
      → column_sum (λ row. cond (skips row) (pos 0) (column row)) rows
      ≡ column_sum column (filter (λ row. not (skips row)) rows)
  column_sum-filter skips column [] = refl
  column_sum-filter skips column (row ∷ rows) =
      column_sum-cons (λ row. cond (skips row) (pos 0) (column row)) row rows
      ∙ elim (skips row) as (λ b. cond b (pos 0) (column row) +ℤ column_sum
      (λ row. cond (skips row) (pos 0) (column row)) rows
      ≡ column_sum column (cond (not b) (row ∷ filter (λ row. not (skips row)) rows)
      (filter (λ row. not (skips row)) rows))) [
        | true ↦ omega (arith, ints, column_sum-filter skips column rows)
        | false ↦ ap (λ later. column row +ℤ later) (column_sum-filter skips column rows) ∙ sym
            (column_sum-cons column row (filter (λ row. not (skips row)) rows))
      ]

  -- a sum over two lists
  pub column_sum-append : (column : Row → ℤ) (rows more : List Row)
      → column_sum column (rows ++ more) ≡ column_sum column rows +ℤ column_sum column more
  column_sum-append column rows more = fold-append (λ sum row. sum +ℤ column row)
      (pos 0) rows more ∙ column_sum-from column (column_sum column rows) more
