-- Loops over the places of a list: a row more, where what is left decides, or gives the whole.
use Rattle.std.proofs.Common.{◌≡◌, ℕ, zero, suc, ◌+◌, ◌&&◌, ◌||◌, Bool, true, false, List, [], ◌∷◌, ◌++◌, take, drop, slice_get, Some, sym, ap, ◌∙◌, arith}
use Rattle.std.specs.Prelude.{fold}
use Rattle.std.specs.List.{list_all, list_any}

-- the row at a place begins what is left
pub drop-row : {Row : Type 0} (rows : List Row) (place : ℕ) (row : Row) → slice_get rows place ≡ Some row
    → drop place rows ≡ row ∷ drop (place + 1) rows
drop-row {Row = Row} rows place row at =
    let after : suc place ≡ place + 1 = omega arith in
    from rows place at ∙ ap (λ after. row ∷ drop after rows) after
  where
    from : (rows : List Row) (place : ℕ) → slice_get rows place ≡ Some row
        → drop place rows ≡ row ∷ drop (suc place) rows
    from [] place at = absurd (cc)
    from (first ∷ rows) zero at = cc
    from (first ∷ rows) (suc place) at = from rows place at

module _ {Row : Type 0} (test : Row → Bool) (rows : List Row) (place : ℕ) (row : Row) (at : slice_get rows place ≡ Some row)
    (whole : Bool) where
  -- whether all pass
  pub all-failed : list_all test (drop place rows) ≡ whole → test row ≡ false → false ≡ whole
  all-failed left fails =
      sym (ap (λ b. b && list_all test (drop (place + 1) rows)) fails) ∙ sym (ap (list_all test) (drop-row rows place row at)) ∙ left

  pub all-passed : list_all test (drop place rows) ≡ whole → test row ≡ true
      → list_all test (drop (place + 1) rows) ≡ whole
  all-passed left passes =
      sym (ap (λ b. b && list_all test (drop (place + 1) rows)) passes) ∙ sym (ap (list_all test) (drop-row rows place row at)) ∙ left

  -- whether one passes
  pub any-passed : list_any test (drop place rows) ≡ whole → test row ≡ true → true ≡ whole
  any-passed left passes =
      sym (ap (λ b. b || list_any test (drop (place + 1) rows)) passes) ∙ sym (ap (list_any test) (drop-row rows place row at)) ∙ left

  pub any-failed : list_any test (drop place rows) ≡ whole → test row ≡ false
      → list_any test (drop (place + 1) rows) ≡ whole
  any-failed left fails =
      sym (ap (λ b. b || list_any test (drop (place + 1) rows)) fails) ∙ sym (ap (list_any test) (drop-row rows place row at)) ∙ left

-- a fold
pub folded : {Row Value : Type 0} (step : Value → Row → Value) (rows : List Row) (place : ℕ) (row : Row)
    → slice_get rows place ≡ Some row → (now whole : Value) → fold step now (drop place rows) ≡ whole
    → fold step (step now row) (drop (place + 1) rows) ≡ whole
folded step rows place row at now whole left = sym (ap (fold step now) (drop-row rows place row at)) ∙ left

-- the rows before a place, with the one at it
pub take-next : {Row : Type 0} (rows : List Row) (place : ℕ) (row : Row) → slice_get rows place ≡ Some row
    → take (place + 1) rows ≡ take place rows ++ row ∷ []
take-next {Row = Row} rows place row at =
    let after : place + 1 ≡ suc place = omega arith in
    ap (λ n. take n rows) after ∙ from rows place at
  where
    from : (rows : List Row) (place : ℕ) → slice_get rows place ≡ Some row
        → take (suc place) rows ≡ take place rows ++ row ∷ []
    from [] place at = absurd (cc)
    from (first ∷ rows) zero at = let same : first ≡ row = cc in ap (λ first. first ∷ []) same
    from (first ∷ rows) (suc place) at = ap (λ rows. first ∷ rows) (from rows place at)

-- two lists that are the same up to a place, and there
pub still-same : {Row : Type 0} (rows others : List Row) (place : ℕ) (row other : Row)
    → slice_get rows place ≡ Some row → slice_get others place ≡ Some other → take place rows ≡ take place others
    → row ≡ other → take (place + 1) rows ≡ take (place + 1) others
still-same rows others place row other at there same is =
    take-next rows place row at ∙ cc (same, is) ∙ sym (take-next others place other there)
