-- What a change of one row does to a list: to its keys, to what holds of all rows, and to the sum of a column.
use Rattle.std.proofs.Common.{◌≡◌, ℤ, pos, ◌+ℤ◌, Bool, true, false, cond, List, [], ◌∷◌, map, filter, Some, refl, ap, ◌∙◌, arith}
use Rattle.std.specs.Prelude.{All, fold}
use Rattle.std.specs.List.{find}
use Rattle.std.proofs.lemmas.Int.{ints}
use Rattle.std.proofs.lemmas.List.Elements.{All-nil, All-cons, All-head, All-tail}
use Rattle.hy_rows.specs.Finding.{with_changed}
use Rattle.hy_schema.specs.Conditions.{column_sum}

module _ {Row : Type 0} (column : Row → ℤ) where
  -- a sum that starts at a number
  sum-from : (start : ℤ) (rows : List Row)
      → fold (λ sum row. sum +ℤ column row) start rows ≡ start +ℤ column_sum column rows
  sum-from start [] = omega (arith, ints)
  sum-from start (row ∷ rows) = omega (
    arith,
    ints,
    sum-from (start +ℤ column row) rows,
    sum-from
        (pos 0 +ℤ column row) rows,
  )

  -- the sum over the rows that pass a test, by the first row
  sum-pass : (keep : Row → Bool) (row : Row) (rows : List Row) → keep row ≡ true
      → column_sum column (filter keep (row ∷ rows)) ≡ column row +ℤ column_sum column (filter keep rows)
  sum-pass keep row rows pass =
      ap (λ b. column_sum column (cond b (row ∷ filter keep rows) (filter keep rows))) pass
      ∙ omega (arith, ints, sum-from (pos 0 +ℤ column row) (filter keep rows))

  sum-skip : (keep : Row → Bool) (row : Row) (rows : List Row) → keep row ≡ false
      → column_sum column (filter keep (row ∷ rows)) ≡ column_sum column (filter keep rows)
  sum-skip keep row rows skip = ap (λ b. column_sum column (cond b (row ∷ filter keep rows) (filter keep rows))) skip

  -- where the first match of a test is among the rows of a sum, and a change adds an amount to its column, the sum grows
  -- by that amount
  module _ (test keep : Row → Bool) (change : Row → Row) (amount : ℤ) (more : (row : Row) → column (change row) ≡ column row +ℤ amount) (stays : (row : Row) → keep (change row) ≡ keep row) (counts : (row : Row) → test row ≡ true → keep row ≡ true) where
    pub column_sum-changed : (rows : List Row) (row : Row) → find test rows ≡ Some row
        → column_sum column (filter keep (with_changed test change rows))
        ≡ column_sum column (filter keep rows) +ℤ amount
    column_sum-changed [] row found = cc
    column_sum-changed (x ∷ xs) row found =
        elim (test x) as (λ b. test x ≡ b → cond b (Some x) (find test xs) ≡ Some row
        → column_sum column (filter keep (cond b (change x ∷ xs) (x ∷ with_changed test change xs)))
        ≡ column_sum column (filter keep (x ∷ xs)) +ℤ amount) [
          | true ↦ λ here this.
              omega (
                arith,
                ints,
                more x,
                sum-pass keep (change x) xs
                    (stays x ∙ counts x here),
                sum-pass keep x xs (counts x here),
              )
          | false ↦ λ here later.
              let others = column_sum-changed xs row later in
              elim (keep x) as (λ k. keep x ≡ k
              → column_sum column (filter keep (x ∷ with_changed test change xs))
              ≡ column_sum column (filter keep (x ∷ xs)) +ℤ amount) [
                | true ↦ λ pass. omega (
                  arith,
                  ints,
                  others,
                  sum-pass keep x
                      (with_changed test change xs) pass,
                  sum-pass keep x xs pass,
                )
                | false ↦ λ skip. omega (
                  arith,
                  ints,
                  others,
                  sum-skip keep x
                      (with_changed test change xs) skip,
                  sum-skip keep x xs skip,
                )
              ] refl
        ] refl found

-- what a change keeps of each row stays true of all
pub All-with_changed : {Row : Type 0} (P : Row → Type 0) (test : Row → Bool) (change : Row → Row)
    → ((row : Row) → P row → P (change row)) → (rows : List Row)
    → All P rows → All P (with_changed test change rows)
All-with_changed P test change keeps [] all = all
All-with_changed P test change keeps (x ∷ xs) all =
    elim (test x) as (λ b. All P (cond b (change x ∷ xs) (x ∷ with_changed test change xs))) [
      | true ↦ All-cons P (change x) xs (keeps x (All-head P x xs all)) (All-tail P x xs all)
      | false ↦ All-cons P x (with_changed test change xs) (All-head P x xs all)
          (All-with_changed P test change keeps xs (All-tail P x xs all))
    ]

-- what holds of the rows that pass a test follows from what holds of all
pub All-passing_also : {Row : Type 0} (test : Row → Bool) (P Q : Row → Type 0) (rows : List Row)
    → ((row : Row) → P row → test row ≡ true → Q row) → All P rows → All Q (filter test rows)
All-passing_also test P Q [] follows all = All-nil Q
All-passing_also test P Q (row ∷ rows) follows all =
    let later = All-passing_also test P Q rows follows (All-tail P row rows all) in
    elim (test row) as (λ b. test row ≡ b → All Q (cond b (row ∷ filter test rows) (filter test rows))) [
      | true ↦ λ pass. All-cons Q row (filter test rows) (follows row (All-head P row rows all) pass) later
      | false ↦ λ skip. later
    ] refl

-- a column that a change leaves alone
pub map-with_changed : {Row Key : Type 0} (key : Row → Key) (test : Row → Bool) (change : Row → Row)
    → ((row : Row) → key (change row) ≡ key row) → (rows : List Row)
    → map key (with_changed test change rows) ≡ map key rows
map-with_changed key test change same [] = refl
map-with_changed key test change same (x ∷ xs) =
    elim (test x) as (λ b. map key (cond b (change x ∷ xs) (x ∷ with_changed test change xs)) ≡ key x ∷ map key xs) [
      | true ↦ ap (λ k. k ∷ map key xs) (same x)
      | false ↦ ap (λ keys. key x ∷ keys) (map-with_changed key test change same xs)
    ]

-- a test of the key finds a row exactly where the key is there
pub finds-key : {Row Key : Type 0} (key : Row → Key) (test : Key
    → Bool) (rows : List Row) (keys : List Key) (found : Key)
    → map key rows ≡ keys → find test keys ≡ Some found
    → (row : Row) × (find (λ row. test (key row)) rows ≡ Some row)
finds-key key test [] keys found same finds = absurd (cc)
finds-key key test (x ∷ xs) keys found same finds =
    let here : find test (key x ∷ map key xs) ≡ Some found = ap (find test) same ∙ finds in
    elim (test (key x)) as (λ b. cond b (Some (key x)) (find test (map key xs)) ≡ Some found
    → (row : _) × (cond b (Some x) (find (λ row. test (key row)) xs) ≡ Some row)) [
      | true ↦ λ this. (x, refl)
      | false ↦ λ later. finds-key key test xs (map key xs) found refl later
    ] here
