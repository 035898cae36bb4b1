-- The rows of slots that are spanned, and what is read of their bytes.
use Rattle.std.proofs.Common.{◌≡◌, ℕ, suc, ◌+◌, ◌-◌, ◌*◌, ◌/◌, ◌%◌, ◌^◌, ◌<◌, ◌≤◌, Bool, true, false, cond, List, [], ◌∷◌, ◌++◌, append_assoc, length, length-append, take, drop, refl, sym, ap, ap₂, ◌∙◌, arith}
use Rattle.std.proofs.Math.Nat.{mod-lt, mul-le-mul_left}
use Rattle.std.proofs.lemmas.Nat.{div-add-mod', div_below, mod-mul-add}
use Rattle.std.proofs.lemmas.List.Concat.{flat_map-append}
use Rattle.std.specs.Int.{from_bool}
use Rattle.std.specs.Option.{option_map, option_to_list, unwrap_or}
use Rattle.std.specs.Prelude.{Option, Some, None}
use Rattle.hy_page.specs.Bytes.{bytes_at}
use Rattle.hy_rows.specs.Spelling.{HasSlots, first_items, is_live, least_page, list_at, live_rows, row_of_slot, slot_at, slot_bytes, slot_start, slot_width, used_slots}
use Rattle.hy_relation.proofs.AddressLaws.{offset-behind}
use Rattle.hy_relation.proofs.PageLaws.{length-slot_bytes, part-on_page}
use Rattle.hy_relation.proofs.PartReads.{mark-live, part-some}
use Rattle.hy_relation.proofs.SlotLaws.{slots-few, start-spanned}
use Rattle.hy_relation.proofs.SpaceLaws.{used-within}
use Rattle.hy_columns.proofs.PageRows.{Sized}
use Rattle.hy_columns.specs.inside.Pages.{rows_from, whole_row}
use Rattle.hy_columns.specs.inside.Spanned.{AreSpanned}

-- ---- bytes that one page has

module _ (n : ℕ) (pages : List (List ℕ)) (sized : Sized n pages) (size : least_page ≤ n) where
  -- the page of a byte is there
  pub page-there : (start count : ℕ) → 0 < count → start + count ≤ length (slot_bytes pages) → 1 + start / n < length pages
  page-there start count some within =
      let bytes : length (slot_bytes pages) ≡ (length pages - 1) * n = length-slot_bytes n pages sized in
      let place : start / n < length pages - 1 = div_below start n (length pages - 1) (omega (arith, size)) (omega (arith, within, bytes, some)) in
      omega (arith, place)

  pub bytes-there : (start count taken : ℕ) (page : List ℕ) → 0 < count → start + count ≤ length (slot_bytes pages) → start % n + count ≤ n
      → taken ≡ count → page ≡ list_at pages (1 + start / n) → take taken (drop (start % n) page) ≡ bytes_at (slot_bytes pages) start count
  bytes-there start count taken page some within fits all is =
      let before : 1 + start / n - 1 ≡ start / n = omega arith in
      let at : (1 + start / n - 1) * n + start % n ≡ start = omega (arith, ap (λ p. p * n) before, div-add-mod' start n) in
      ap₂ (λ size bytes. take size (drop (start % n) bytes)) all is
      ∙ sym (part-on_page n pages (1 + start / n) (start % n) start count sized (omega arith) (page-there start count some within) fits at)

-- behind the last byte of a page comes the first one of the next
pub next-page : (n start : ℕ) → least_page ≤ n → (start + (n - start % n)) % n ≡ 0
next-page n start size =
    offset-behind n start (n - start % n)
    ∙ ap (λ all. all % n) (let all : start % n + (n - start % n) ≡ 1 * n + 0 = omega (arith, mod-below) in all)
    ∙ whole
  where
    mod-below : start % n < n
    mod-below = mod-lt start (omega (arith, size))

    whole : (1 * n + 0) % n ≡ 0
    whole = mod-mul-add 1 n 0 (omega (arith, size))

-- ---- used slots

module _ (n width : ℕ) (pages : List (List ℕ)) (slot : ℕ) (are : AreSpanned n width pages) (size : least_page ≤ n) (small : n ≤ 65536) (used : slot < used_slots pages) where
  pub start-within : slot * slot_width width + slot_width width ≤ length (slot_bytes pages)
  start-within = omega (arith, start-spanned n width slot are.spanned, used-within n width pages slot size are.slots used)

  -- the mark of a slot
  pub mark-read : (live : Bool) (start : ℕ) (mark : List ℕ) → start ≡ slot_start n width slot → live ≡ is_live mark
      → mark ≡ bytes_at (slot_bytes pages) start 1 → live ≡ is_live (slot_at n width pages slot)
  mark-read live start mark begins is read =
      is ∙ ap is_live (read ∙ ap (λ from. bytes_at (slot_bytes pages) from 1) begins)
      ∙ mark-live (slot_bytes pages) (slot_start n width slot) (slot_width width) (omega arith)

  -- some bytes of its row
  pub row-bytes : (start offset count : ℕ) → start ≡ slot_start n width slot → offset + count ≤ width → is_live (slot_at n width pages slot) ≡ true
      → bytes_at (slot_bytes pages) (start + (1 + offset)) count ≡ bytes_at (drop 1 (slot_at n width pages slot)) offset count
  row-bytes start offset count begins inside live =
      let part : List ℕ → List ℕ = λ row. bytes_at row offset count in
      let found : Some (bytes_at (slot_bytes pages) (slot_start n width slot + (1 + offset)) count) ≡ option_map (λ bytes. bytes) (row_of_slot part (slot_at n width pages slot)) =
      part-some part (λ bytes. bytes) (λ bytes. bytes) width offset count inside (λ row full. refl) (slot_bytes pages) (slot_start n width slot)
      (used-within n width pages slot size are.slots used) live in
      ap (λ from. bytes_at (slot_bytes pages) (from + (1 + offset)) count) begins
      ∙ ap (λ bytes. unwrap_or bytes []) (found ∙ ap (λ live. option_map (λ bytes. bytes) (cond live (Some (part (drop 1 (slot_at n width pages slot)))) None)) live)

-- the row of one slot, if there is one
live-one : {Row : Type 0} (slot : Option Row) → option_to_list slot ≡ live_rows (slot ∷ [])
live-one None = refl
live-one (Some row) = refl

-- what was read of the slots so far, and then what is read of the next one
pub rows-next : {Row : Type 0} (n width : ℕ) (row_of : List ℕ → Row) (pages : List (List ℕ)) (before now new : List Row) (first k : ℕ)
    → now ≡ before ++ rows_from n width row_of pages first k
    → new ≡ now ++ option_to_list (row_of_slot row_of (slot_at n width pages (first + k)))
    → new ≡ before ++ rows_from n width row_of pages first (k + 1)
rows-next {Row} n width row_of pages before now new first k is_now is_new =
    let slots : List (Option Row) = first_items (λ k. row_of_slot row_of (slot_at n width pages (first + k))) k in
    let slot : Option Row = row_of_slot row_of (slot_at n width pages (first + k)) in
    let next : suc k ≡ k + 1 = omega arith in
    is_new ∙ ap (λ rows. rows ++ option_to_list slot) is_now
    ∙ append_assoc before (live_rows slots) (option_to_list slot)
    ∙ ap (λ last. before ++ (live_rows slots ++ last)) (live-one slot)
    ∙ ap (λ rows. before ++ rows) (sym (flat_map-append option_to_list slots (slot ∷ [])))
    ∙ ap (λ count. before ++ rows_from n width row_of pages first count) next

-- and so is their number
pub counted-next : (n width : ℕ) (pages : List (List ℕ)) (first k now more : ℕ) (live : Bool)
    → live ≡ is_live (slot_at n width pages (first + k)) → more ≡ from_bool live
    → now ≡ length (rows_from n width whole_row pages first k)
    → now + more ≡ length (rows_from n width whole_row pages first (k + 1))
counted-next n width pages first k now more live is_live_there is_more is_now =
    let slot : List ℕ = slot_at n width pages (first + k) in
    let row : List (List ℕ) = option_to_list (row_of_slot whole_row slot) in
    let so_far : List (List ℕ) = rows_from n width whole_row pages first k in
    let all : so_far ++ row ≡ rows_from n width whole_row pages first (k + 1) =
    rows-next n width whole_row pages [] so_far (so_far ++ row) first k refl refl in
    let one : length row ≡ from_bool (is_live slot) = by_mark (is_live slot) (drop 1 slot) in
    let same : more ≡ length row = is_more ∙ ap from_bool is_live_there ∙ sym one in
    omega (arith, length-append so_far row, ap length all, same, is_now)
  where
    by_mark : (live : Bool) (row : List ℕ) → length (option_to_list (cond live (Some row) None)) ≡ from_bool live
    by_mark true row = refl
    by_mark false row = refl

-- there are few bytes, and few slots
module _ (n : ℕ) (pages : List (List ℕ)) (sized : Sized n pages) (few : length pages < 2 ^ 32) (small : n ≤ 65536) where
  pub bytes-few : length (slot_bytes pages) < 2 ^ 48
  bytes-few =
      let most : (length pages - 1) * n ≤ (length pages - 1) * 65536 = mul-le-mul_left (length pages - 1) small in
      omega (arith, length-slot_bytes n pages sized, most, few)

  pub used-few : (width : ℕ) → least_page ≤ n → HasSlots n width pages → used_slots pages < 2 ^ 48
  used-few width size slots = omega (arith, slots-few n width (used_slots pages) size, slots.slots, bytes-few)
