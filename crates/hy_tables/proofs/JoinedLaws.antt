-- Laws of lists that are made by number: of the rows of the numbers up to a last one, and of the lists of such numbers
-- one behind another.
use Rattle.std.proofs.Common.{◌≡◌, ◌≢◌, ℕ, zero, suc, ◌+◌, ◌*◌, ◌<◌, ℤ, pos, ◌+ℤ◌, Bool, true, false, cond, List, [], ◌∷◌, ◌++◌, length, filter, fold, slice_get, IfSome, refl, sym, ap, ap₂, subst, ◌∙◌, inl, inr, arith, length-append, zero-add, suc-add, zero-mul, suc-mul, mul-suc}
use Rattle.std.specs.List.{list_all, list_any}
use Rattle.std.proofs.lemmas.Bool.{and_from, cases_lt, or_left, or_right}
use Rattle.std.proofs.lemmas.List.{append-nil}
use Rattle.std.proofs.lemmas.List.Elements.{filter-append}
use Rattle.std.proofs.lemmas.List.Folds.{list_all-append, list_any-append}
use Rattle.hy_schema.specs.Conditions.{column_sum}
use Rattle.hy_tables.specs.Generated.{joined_up_to, rows_up_to}

-- what holds of the row at each place
abbrev pub Each : {Row : Type 0} → (ℕ → Row → Type 0) → List Row → Type 0
Each P rows = (place : ℕ) → IfSome (slice_get rows place) (P place)

each-append : {Row : Type 0} (P : ℕ → Row → Type 0) (xs ys : List Row) → Each P xs
    → Each (λ place. P (length xs + place)) ys → Each P (xs ++ ys)
each-append P [] ys left right place = subst (λ n. IfSome (slice_get ys place) (P n)) (zero-add place) (right place)
each-append P (x ∷ xs) ys left right zero = left zero
each-append P (x ∷ xs) ys left right (suc place) =
    each-append (λ n. P (suc n)) xs ys (λ n. left (suc n))
    (λ n. subst (λ m. IfSome (slice_get ys n) (P m)) (suc-add (length xs) n) (right n)) place

each-one : {Row : Type 0} (P : ℕ → Row → Type 0) (row : Row) → P 0 row → Each P (row ∷ [])
each-one P row here zero = here
each-one P row here (suc place) = tt

-- the rows of some numbers are lists of one row
pub rows_up_to-joined : {Row : Type 0} (row : ℕ → Row) (last : ℕ)
    → rows_up_to row last ≡ joined_up_to (λ number. row number ∷ []) last
rows_up_to-joined row zero = refl
rows_up_to-joined row (suc last) = ap (λ rows. rows ++ row (suc last) ∷ []) (rows_up_to-joined row last)

-- how many there are
pub length-rows_up_to : {Row : Type 0} (row : ℕ → Row) (last : ℕ) → length (rows_up_to row last) ≡ last
length-rows_up_to row zero = refl
length-rows_up_to row (suc last) =
    omega (arith, length-append (rows_up_to row last) (row (suc last) ∷ []), length-rows_up_to row last)

pub length-joined_up_to : {Row : Type 0} (list : ℕ → List Row) (width : ℕ)
    → ((number : ℕ) → length (list number) ≡ width)
    → (last : ℕ) → length (joined_up_to list last) ≡ last * width
length-joined_up_to list width wide zero = sym (zero-mul width)
length-joined_up_to list width wide (suc last) =
    length-append (joined_up_to list last) (list (suc last))
    ∙ ap₂ (λ m n. m + n) (length-joined_up_to list width wide last) (wide (suc last))
    ∙ sym (suc-mul last width)

-- which rows stand at the places
pub rows_up_to-each : {Row : Type 0} (P : ℕ → Row → Type 0) (row : ℕ → Row) (last : ℕ)
    → ((before : ℕ) → before < last → P before (row (suc before))) → Each P (rows_up_to row last)
rows_up_to-each P row zero each = λ place. tt
rows_up_to-each P row (suc last) each =
    let here : last ≡ length (rows_up_to row last) + 0 = omega (arith, length-rows_up_to row last) in
    each-append P (rows_up_to row last) (row (suc last) ∷ [])
    (rows_up_to-each P row last (λ before below. each before (omega (arith, below))))
    (each-one (λ place. P (length (rows_up_to row last) + place)) (row (suc last))
    (subst (λ n. P n (row (suc last))) here (each last (omega arith))))

pub joined_up_to-each : {Row : Type 0} (P : ℕ → Row → Type 0) (list : ℕ → List Row) (width : ℕ)
    → ((number : ℕ) → length (list number) ≡ width) → (last : ℕ)
    → ((before : ℕ) → before < last → Each (λ place. P (before * width + place)) (list (suc before)))
    → Each P (joined_up_to list last)
joined_up_to-each P list width wide zero each = λ place. tt
joined_up_to-each P list width wide (suc last) each =
    each-append P (joined_up_to list last) (list (suc last))
    (joined_up_to-each P list width wide last (λ before below. each before (omega (arith, below))))
    (λ place. subst (λ n. IfSome (slice_get (list (suc last)) place) (P (n + place)))
    (sym (length-joined_up_to list width wide last)) (each last (omega arith) place))

-- a test that all pass
module _ {Row : Type 0} (test : Row → Bool) where
  pub list_all-joined : (list : ℕ → List Row) (last : ℕ)
      → ((before : ℕ) → before < last → list_all test (list (suc before)) ≡ true)
      → list_all test (joined_up_to list last) ≡ true
  list_all-joined list zero each = refl
  list_all-joined list (suc last) each =
      list_all-append test (joined_up_to list last) (list (suc last))
      ∙ and_from _ _ (list_all-joined list last (λ before below. each before (omega (arith, below))))
      (each last (omega arith))

  pub list_all-rows : (row : ℕ → Row) (last : ℕ) → ((before : ℕ) → before < last → test (row (suc before)) ≡ true)
      → list_all test (rows_up_to row last) ≡ true
  list_all-rows row last each =
      ap (list_all test) (rows_up_to-joined row last)
      ∙ list_all-joined (λ number. row number ∷ []) last (λ before below. and_from _ _ (each before below) refl)

  -- a test that one passes
  pub list_any-joined : (list : ℕ → List Row) (last before : ℕ) → before < last
      → list_any test (list (suc before)) ≡ true → list_any test (joined_up_to list last) ≡ true
  list_any-joined list zero before below passes = absurd (omega (arith, below))
  list_any-joined list (suc last) before below passes =
      list_any-append test (joined_up_to list last) (list (suc last)) ∙ elim (cases_lt before last) [
        | inl earlier ↦ or_left _ _ (list_any-joined list last before earlier passes)
        | inr later ↦
            let here : before ≡ last = omega arith in
            or_right _ _ (subst (λ n. list_any test (list (suc n)) ≡ true) here passes)
      ]

  pub list_any-rows : (row : ℕ → Row) (last before : ℕ) → before < last → test (row (suc before)) ≡ true
      → list_any test (rows_up_to row last) ≡ true
  list_any-rows row last before below passes =
      ap (list_any test) (rows_up_to-joined row last)
      ∙ list_any-joined (λ number. row number ∷ []) last before below (or_left _ _ passes)

  -- a filter that none passes
  pub filter-joined_none : (list : ℕ → List Row) (last : ℕ)
      → ((before : ℕ) → before < last → filter test (list (suc before)) ≡ [])
      → filter test (joined_up_to list last) ≡ []
  filter-joined_none list zero each = refl
  filter-joined_none list (suc last) each =
      filter-append test (joined_up_to list last) (list (suc last))
      ∙ ap₂ (λ xs ys. xs ++ ys) (filter-joined_none list last (λ before below. each before (omega (arith, below))))
      (each last (omega arith))

  -- that all pass
  pub filter-joined_all : (list : ℕ → List Row) (last : ℕ)
      → ((before : ℕ) → before < last → filter test (list (suc before)) ≡ list (suc before))
      → filter test (joined_up_to list last) ≡ joined_up_to list last
  filter-joined_all list zero each = refl
  filter-joined_all list (suc last) each =
      filter-append test (joined_up_to list last) (list (suc last))
      ∙ ap₂ (λ xs ys. xs ++ ys) (filter-joined_all list last (λ before below. each before (omega (arith, below))))
      (each last (omega arith))

  -- and that the rows of one number alone pass
  pub filter-joined_one : (list : ℕ → List Row) (chosen : List Row) (last number : ℕ) → number < last
      → filter test (list (suc number)) ≡ chosen
      → ((before : ℕ) → before < last → before ≢ number → filter test (list (suc before)) ≡ [])
      → filter test (joined_up_to list last) ≡ chosen
  filter-joined_one list chosen zero number below passes others = absurd (omega (arith, below))
  filter-joined_one list chosen (suc last) number below passes others =
      filter-append test (joined_up_to list last) (list (suc last)) ∙ elim (cases_lt number last) [
        | inl earlier ↦
            ap₂ (λ xs ys. xs ++ ys)
            (filter-joined_one list chosen last number earlier passes
            (λ before less differs. others before (omega (arith, less)) differs))
            (others last (omega arith) (λ same. omega (arith, same, earlier)))
            ∙ append-nil chosen
        | inr later ↦
            let here : number ≡ last = omega arith in
            ap₂ (λ xs ys. xs ++ ys)
            (filter-joined_none list last (λ before less. others before (omega (arith, less))
            (λ same. omega (arith, same, less, later))))
            (subst (λ n. filter test (list (suc n)) ≡ chosen) here passes)
      ]

  pub filter-rows_none : (row : ℕ → Row) (last : ℕ)
      → ((before : ℕ) → before < last → test (row (suc before)) ≡ false) → filter test (rows_up_to row last) ≡ []
  filter-rows_none row last each =
      ap (filter test) (rows_up_to-joined row last)
      ∙ filter-joined_none (λ number. row number ∷ []) last
      (λ before below. ap (λ b. cond b (row (suc before) ∷ []) []) (each before below))

  pub filter-rows_all : (row : ℕ → Row) (last : ℕ)
      → ((before : ℕ) → before < last → test (row (suc before)) ≡ true)
      → filter test (rows_up_to row last) ≡ rows_up_to row last
  filter-rows_all row last each =
      ap (filter test) (rows_up_to-joined row last)
      ∙ filter-joined_all (λ number. row number ∷ []) last
      (λ before below. ap (λ b. cond b (row (suc before) ∷ []) []) (each before below))
      ∙ sym (rows_up_to-joined row last)

  pub filter-rows_one : (row : ℕ → Row) (last number : ℕ) → number < last → test (row (suc number)) ≡ true
      → ((before : ℕ) → before < last → before ≢ number → test (row (suc before)) ≡ false)
      → filter test (rows_up_to row last) ≡ row (suc number) ∷ []
  filter-rows_one row last number below passes others =
      ap (filter test) (rows_up_to-joined row last)
      ∙ filter-joined_one (λ n. row n ∷ []) (row (suc number) ∷ []) last number below
      (ap (λ b. cond b (row (suc number) ∷ []) []) passes)
      (λ before less differs. ap (λ b. cond b (row (suc before) ∷ []) []) (others before less differs))

-- the sum of a column in which each row has the same amount
module _ {Row : Type 0} (column : Row → ℤ) (amount : ℕ) where
  sum_from-same : (rows : List Row) (start : ℕ) → Each (λ place row. column row ≡ pos amount) rows
      → fold (λ sum row. sum +ℤ column row) (pos start) rows ≡ pos (start + amount * length rows)
  sum_from-same [] start each = ap pos (omega arith)
  sum_from-same (row ∷ rows) start each =
      ap (λ (number : ℤ). fold (λ sum row. sum +ℤ column row) (pos start +ℤ number) rows) (each 0)
      ∙ sum_from-same rows (start + amount) (λ place. each (suc place))
      ∙ ap pos (omega (arith, mul-suc amount (length rows)))

  pub column_sum-same : (rows : List Row) → Each (λ place row. column row ≡ pos amount) rows
      → column_sum column rows ≡ pos (amount * length rows)
  column_sum-same rows each = sum_from-same rows 0 each ∙ ap pos (omega arith)
