-- Slots of which each has its row.
use Rattle.std.proofs.Common.{◌≡◌, ℕ, zero, suc, ◌<◌, true, false, List, [], ◌∷◌, ◌++◌, length, map, set, get_or, cond, drop, Option, Some, None, refl, sym, ap, ◌∙◌, subst, arith}
use Rattle.std.specs.Prelude.{IsSome, is_some, slice_get}
use Rattle.std.proofs.lemmas.Bool.{false≢true}
use Rattle.std.proofs.lemmas.List.{length-map, map-append, map-set}
use Rattle.hy_rows.specs.Spelling.{is_live, live_rows, row_of_slot, rows_of, slot_at, slots_of, used_slots}
use Rattle.hy_relation.proofs.RelationLaws.{length-slots_of, row-used}
use Rattle.hy_store.specs.Stored.{HasAllRows}

module _ {Row : Type 0} where
  -- the rows of such slots
  pub live_rows-all : (rows : List Row) → live_rows (map Some rows) ≡ rows
  live_rows-all [] = refl
  live_rows-all (row ∷ rows) = ap (λ others. row ∷ others) (live_rows-all rows)

  -- what a slot has is the row at its place
  pub row-all : (rows : List Row) (k : ℕ) (row : Row) → get_or (map Some rows) k None ≡ Some row → slice_get rows k ≡ Some row
  row-all [] k row here = absurd (cc)
  row-all (first ∷ rows) zero row here = here
  row-all (first ∷ rows) (suc k) row here = row-all rows k row here

  pub there-all : (rows : List Row) (k : ℕ) → k < length rows → IsSome (get_or (map Some rows) k None)
  there-all [] k within = absurd (omega (arith, within))
  there-all (row ∷ rows) zero within = refl
  there-all (row ∷ rows) (suc k) within = there-all rows k (omega (arith, within))

  -- and so it is what the list has at the place
  pub row-get : (rows : List Row) (k : ℕ) → get_or (map Some rows) k None ≡ slice_get rows k
  row-get [] k = refl
  row-get (first ∷ rows) zero = refl
  row-get (first ∷ rows) (suc k) = row-get rows k

  -- where each slot has a row, they are these rows
  all_there : (slots : List (Option Row)) → ((k : ℕ) → k < length slots → IsSome (get_or slots k None)) → slots ≡ map Some (live_rows slots)
  all_there [] each = refl
  all_there (None ∷ slots) each = absurd (false≢true (each 0 (omega arith)))
  all_there (Some row ∷ slots) each =
      ap (λ others. Some row ∷ others) (all_there slots (λ k within. each (suc k) (omega (arith, within))))

  -- a slot has a row where it is live
  live-some : (row_of : List ℕ → Row) (slot : List ℕ) → IsSome (row_of_slot row_of slot) → is_live slot ≡ true
  live-some row_of slot some = elim (is_live slot) as (λ b. is_some (cond b (Some (row_of (drop 1 slot))) None) ≡ true → b ≡ true) [
    | true ↦ λ there. refl
    | false ↦ λ there. there
  ] some

  some-live : (row_of : List ℕ → Row) (slot : List ℕ) → is_live slot ≡ true → IsSome (row_of_slot row_of slot)
  some-live row_of slot live = rw live refl

-- where each slot has a row, each has one still after a put or a push
module _ {Row : Type 0} {slots now : List (Option Row)} (rows : List Row) where
  pub slots-put : (place : ℕ) (row : Row) → now ≡ set slots place (Some row) → slots ≡ map Some rows → now ≡ map Some (set rows place row)
  slots-put place row put all =
      put ∙ ap (λ before. set before place (Some row)) all ∙ sym (map-set Some rows place row)

  pub slots-pushed : (row : Row) → now ≡ slots ++ Some row ∷ [] → slots ≡ map Some rows → now ≡ map Some (rows ++ row ∷ [])
  slots-pushed row pushed all =
      pushed ∙ ap (λ before. before ++ Some row ∷ []) all ∙ sym (map-append Some rows (row ∷ []))

-- the slots of pages
module _ {Row : Type 0} (n width : ℕ) (row_of : List ℕ → Row) (pages : List (List ℕ)) where
  pub slots-all_rows : HasAllRows n width pages → slots_of n width row_of pages ≡ map Some (rows_of n width row_of pages)
  slots-all_rows keeps = all_there (slots_of n width row_of pages) (λ k within.
      let used : k < used_slots pages = omega (arith, within, length-slots_of n width row_of pages) in
      subst IsSome (sym (row-used n width row_of pages k used)) (some-live row_of (slot_at n width pages k) (keeps k used)))

  pub has_all_rows : (rows : List Row) → slots_of n width row_of pages ≡ map Some rows → HasAllRows n width pages
  has_all_rows rows all k used =
      let within : k < length rows = omega (arith, used, length-slots_of n width row_of pages, ap length all, length-map {A = Row} {B = Option Row} rows Some) in
      live-some row_of (slot_at n width pages k)
      (subst IsSome (sym (ap (λ slots. get_or slots k None) all) ∙ row-used n width row_of pages k used) (there-all rows k within))
