-- The rows of a segment, by what is read of the bytes of each.
use Rattle.std.proofs.Common.{◌≡◌, ℕ, zero, suc, Bool, true, false, cond, Option, Some, None, List, [], ◌∷◌, ◌++◌, length, map, take, drop, refl, sym, ap, ap₂, ◌∙◌}
use Rattle.std.proofs.lemmas.List.{drop-map, length-map, map-append, take-map}
use Rattle.std.specs.Option.{option_map}
use Rattle.hy_rows.specs.Spelling.{first_items, is_live, live_rows, row_of_slot, rows_of, slot_at, slots_of, used_slots}
use Rattle.hy_columns.specs.inside.Pages.{rows_part, whole_row}

-- what is read of the rows in some slots
pub read-live : {Row Read : Type 0} (read : Row → Read) (slots : List (Option Row))
    → map read (live_rows slots) ≡ live_rows (map (option_map read) slots)
read-live read [] = refl
read-live read (None ∷ slots) = read-live read slots
read-live read (Some row ∷ slots) = ap (λ rows. read row ∷ rows) (read-live read slots)

module _ {Row Read : Type 0} (read : Row → Read) (row_of : List ℕ → Row) (read_of : List ℕ → Read) (same : (bytes : List ℕ) → read (row_of bytes) ≡ read_of bytes) where
  -- what is read of one slot, if there is a row in it
  read-slot : (live : Bool) (row : List ℕ)
      → option_map read (cond live (Some (row_of row)) None) ≡ cond live (Some (read_of row)) None
  read-slot true row = ap Some (same row)
  read-slot false row = refl

  read-first : (slot : ℕ → List ℕ) (count : ℕ)
      → map (option_map read) (first_items (λ k. row_of_slot row_of (slot k)) count) ≡ first_items (λ k. row_of_slot read_of (slot k)) count
  read-first slot zero = refl
  read-first slot (suc count) =
      map-append (option_map read) (first_items (λ k. row_of_slot row_of (slot k)) count) (row_of_slot row_of (slot count) ∷ [])
      ∙ ap₂ (λ before last. before ++ last ∷ []) (read-first slot count) (read-slot (is_live (slot count)) (drop 1 (slot count)))

  -- what is read of each row is what is read of the rows' bytes
  pub read-rows : (n width : ℕ) (pages : List (List ℕ)) → map read (rows_of n width row_of pages) ≡ rows_of n width read_of pages
  read-rows n width pages =
      read-live read (slots_of n width row_of pages)
      ∙ ap live_rows (read-first (slot_at n width pages) (used_slots pages))

  -- so it is in some slots
  pub read-part : (n width : ℕ) (pages : List (List ℕ)) (first count : ℕ)
      → map read (rows_part n width row_of pages first count) ≡ rows_part n width read_of pages first count
  read-part n width pages first count =
      let slots : List (Option Row) = slots_of n width row_of pages in
      read-live read (take count (drop first slots))
      ∙ ap live_rows (sym (take-map (option_map read) count (drop first slots)))
      ∙ ap (λ slots. live_rows (take count slots)) (sym (drop-map (option_map read) first slots))
      ∙ ap (λ slots. live_rows (take count (drop first slots))) (read-first (slot_at n width pages) (used_slots pages))

-- there are as many rows, whatever is read of each
pub length-rows : {Row : Type 0} (n width : ℕ) (row_of : List ℕ → Row) (pages : List (List ℕ))
    → length (rows_of n width row_of pages) ≡ length (rows_of n width whole_row pages)
length-rows n width row_of pages =
    ap length (sym (read-rows row_of whole_row row_of (λ bytes. refl) n width pages))
    ∙ length-map (rows_of n width whole_row pages) row_of

pub length-part : {Row : Type 0} (n width : ℕ) (row_of : List ℕ → Row) (pages : List (List ℕ)) (first count : ℕ)
    → length (rows_part n width row_of pages first count) ≡ length (rows_part n width whole_row pages first count)
length-part n width row_of pages first count =
    ap length (sym (read-part row_of whole_row row_of (λ bytes. refl) n width pages first count))
    ∙ length-map (rows_part n width whole_row pages first count) row_of
