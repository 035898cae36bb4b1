-- The form of rows that stand one behind another.
use Rattle.std.proofs.Common.{◌≡◌, ℕ, zero, suc, ◌+◌, Bool, true, ◌&&◌, List, [], ◌∷◌, ◌++◌, length, Option, Some, refl, sym, ap, ◌∙◌, append_assoc, subst}
use Rattle.std.specs.List.{flat_map}
use Rattle.std.proofs.lemmas.Bool.{and_from, and_parts}
use Rattle.std.proofs.lemmas.List.Concat.{flat_map-cons}
use Rattle.hy_page.specs.Bytes.{AreBytes}
use Rattle.hy_batches.specs.inside.Reading.{◌>>=◌}
use Rattle.hy_batches.proofs.FormLaws.{IsForm, Takes, bind_some, first_of, same_some, takes_both}

-- rows with the numbers from one on, each of which may be read by its number
module _ {Row : Type 0} (row_at : ℕ → List ℕ → Option (Row × List ℕ)) (rows_at : ℕ → ℕ → List ℕ → Option (List Row × List ℕ))
    (none : (number : ℕ) (bytes : List ℕ) → rows_at number 0 bytes ≡ Some ([], bytes))
    (more : (number count : ℕ) (bytes : List ℕ) → rows_at number (suc count) bytes
    ≡ (row_at number bytes >>= λ row. rows_at (number + 1) count row.1 >>= λ others. Some (row.0 ∷ others.0, others.1)))
    (text : Row → List ℕ) (fit : ℕ → Row → Bool) (all_fit : ℕ → List Row → Bool)
    (fit_none : (number : ℕ) → all_fit number [] ≡ true)
    (fit_more : (number : ℕ) (row : Row) (rows : List Row) → all_fit number (row ∷ rows) ≡ (fit number row && all_fit (number + 1) rows))
    (row_form : (number : ℕ) → IsForm (row_at number) text (fit number)) where
  -- the rows that were read, of which there are as many as were asked for
  pub rows_takes : (number count : ℕ) (bytes : List ℕ) (rows : List Row) (rest : List ℕ) → AreBytes bytes
      → rows_at number count bytes ≡ Some (rows, rest)
      → Takes bytes (flat_map text rows) rest × (all_fit number rows ≡ true) × (length rows ≡ count)
  rows_takes number zero bytes rows rest are is =
      let pair : ([], bytes) ≡ (rows, rest) = same_some _ _ (sym (none number bytes) ∙ is) in
      subst (λ (p : List Row × List ℕ). Takes bytes (flat_map text p.0) p.1 × (all_fit number p.0 ≡ true) × (length p.0 ≡ 0)) pair
      (record { parts = refl; are_bytes = are }, fit_none number, refl)
  rows_takes number (suc count) bytes rows rest are is =
      let one = first_of (row_form number) bytes (λ row. rows_at (number + 1) count row.1 >>= λ others. Some (row.0 ∷ others.0, others.1))
      (rows, rest) are (sym (more number count bytes) ∙ is) in
      let rest_of = bind_some (rows_at (number + 1) count one.1) (λ others. Some (one.0 ∷ others.0, others.1)) (rows, rest) one.4 in
      let later = rows_takes (number + 1) count one.1 rest_of.0.0 rest_of.0.1 one.2.are_bytes rest_of.1 in
      let pair : (one.0 ∷ rest_of.0.0, rest_of.0.1) ≡ (rows, rest) = same_some _ _ rest_of.2 in
      let both = takes_both bytes (text one.0) one.1 (flat_map text rest_of.0.0) rest_of.0.1 one.2 later.0 in
      subst (λ (p : List Row × List ℕ). Takes bytes (flat_map text p.0) p.1 × (all_fit number p.0 ≡ true) × (length p.0 ≡ suc count)) pair (
        rw (flat_map-cons text one.0 rest_of.0.0) both,
        fit_more number one.0 rest_of.0.0 ∙ and_from (fit number one.0) (all_fit (number + 1) rest_of.0.0) one.3 later.1,
        ap suc later.2,
      )

  pub rows_again : (number : ℕ) (rows : List Row) (rest : List ℕ) → all_fit number rows ≡ true
      → rows_at number (length rows) (flat_map text rows ++ rest) ≡ Some (rows, rest)
  rows_again number [] rest fits = none number rest
  rows_again number (row ∷ rows) rest fits =
      let parts = and_parts (fit number row) (all_fit (number + 1) rows) (sym (fit_more number row rows) ∙ fits) in
      let later = flat_map text rows ++ rest in
      let regrouped : flat_map text (row ∷ rows) ++ rest ≡ text row ++ later =
      ap (λ front. front ++ rest) (flat_map-cons text row rows) ∙ append_assoc (text row) (flat_map text rows) rest in
      more number (length rows) (flat_map text (row ∷ rows) ++ rest)
      ∙ (ap (λ bytes. row_at number bytes >>= λ row. rows_at (number + 1) (length rows) row.1 >>= λ others. Some (row.0 ∷ others.0, others.1)) regrouped
      ∙ (ap (λ read. read >>= λ row. rows_at (number + 1) (length rows) row.1 >>= λ others. Some (row.0 ∷ others.0, others.1))
      ((row_form number).again row later parts.0)
      ∙ ap (λ read. read >>= λ others. Some (row ∷ others.0, others.1)) (rows_again (number + 1) rows rest parts.1)))
