-- What a change of one slot, or one more slot, does to the rows of a list of slots.
use Rattle.std.proofs.Common.{◌≡◌, ℕ, suc, ◌+◌, ◌<◌, Bool, false, List, [], ◌∷◌, ◌++◌, length, take, drop, set, get_or, Option, Some, None, refl, sym, ap, ◌∙◌, inl, inr}
use Rattle.std.specs.List.{find}
use Rattle.std.specs.Option.{option_to_list}
use Rattle.std.proofs.lemmas.Bool.{cases_lt}
use Rattle.std.proofs.lemmas.List.{append-nil, get_or_past, set-get_or, set_split, take_more}
use Rattle.std.proofs.lemmas.List.Concat.{flat_map-append}
use Rattle.hy_rows.specs.Finding.{with_changed}
use Rattle.hy_rows.specs.Spelling.{live_rows}
use Rattle.hy_rows.proofs.ChangedRows.{find-append_none, with_changed-append_none}
use Rattle.hy_relation.specs.Relation.{IsFirstSlot}

-- the rows of one slot more
pub live_rows-push : {Row : Type 0} (slots : List (Option Row)) (row : Row) → live_rows (slots ++ Some row ∷ []) ≡ live_rows slots ++ row ∷ []
live_rows-push slots row = flat_map-append option_to_list slots (Some row ∷ [])

module _ {Row : Type 0} (test : Row → Bool) (slots : List (Option Row)) (k : ℕ) (within : k < length slots) (missing : find test (live_rows (take k slots)) ≡ None) where
  -- no row of one slot more passes, where the slot has none
  pub missing-skip : get_or slots k None ≡ None → find test (live_rows (take (k + 1) slots)) ≡ None
  missing-skip erased =
      ap (λ front. find test (live_rows front)) (take_more slots k None within ∙ ap (λ slot. take k slots ++ slot ∷ []) erased)
      ∙ ap (find test) (flat_map-append option_to_list (take k slots) (None ∷ []) ∙ append-nil (live_rows (take k slots)))
      ∙ missing

  -- and where its row doesn't pass
  pub missing-next : (row : Row) → get_or slots k None ≡ Some row → test row ≡ false → find test (live_rows (take (k + 1) slots)) ≡ None
  missing-next row here fails =
      let none : find test (row ∷ []) ≡ None = rw fails refl in
      ap (λ front. find test (live_rows front)) (take_more slots k None within ∙ ap (λ slot. take k slots ++ slot ∷ []) here)
      ∙ ap (find test) (live_rows-push (take k slots) row)
      ∙ find-append_none test (live_rows (take k slots)) (row ∷ []) missing ∙ none

module _ {Row : Type 0} (test : Row → Bool) (slots : List (Option Row)) (k : ℕ) (row : Row) (found : IsFirstSlot test slots k row) where
  within : k < length slots
  within = elim (cases_lt k (length slots)) [
    | inl there ↦ there
    | inr past ↦ let none : None ≡ Some row = sym (get_or_past slots k None past) ∙ found.here in absurd (cc)
  ]

  -- the slots before it, and those behind it
  split : slots ≡ take k slots ++ Some row ∷ drop (suc k) slots
  split = sym (set-get_or slots k None) ∙ ap (set slots k) found.here ∙ set_split slots k (Some row) within

  rows_split : live_rows slots ≡ live_rows (take k slots) ++ row ∷ live_rows (drop (suc k) slots)
  rows_split = ap live_rows split ∙ flat_map-append option_to_list (take k slots) (Some row ∷ drop (suc k) slots)

  -- its row is the first of all rows that passes
  pub find-first_slot : find test (live_rows slots) ≡ Some row
  find-first_slot =
      ap (find test) rows_split
      ∙ find-append_none test (live_rows (take k slots)) (row ∷ live_rows (drop (suc k) slots)) found.first
      ∙ rw found.passes refl

  -- with another row in it, the first row that passes is changed
  pub live_rows-changed : (change : Row → Row) → live_rows (set slots k (Some (change row))) ≡ with_changed test change (live_rows slots)
  live_rows-changed change =
      let rest = live_rows (drop (suc k) slots) in
      ap live_rows (set_split slots k (Some (change row)) within)
      ∙ flat_map-append option_to_list (take k slots) (Some (change row) ∷ drop (suc k) slots)
      ∙ ap (λ rows. live_rows (take k slots) ++ rows) (rw found.passes refl)
      ∙ sym (with_changed-append_none test change (live_rows (take k slots)) (row ∷ rest) found.first)
      ∙ sym (ap (with_changed test change) rows_split)
