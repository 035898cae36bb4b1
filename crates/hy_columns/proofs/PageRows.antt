-- The rows in some slots of a segment are those on their pages, one behind another.
use Rattle.std.proofs.Common.{◌≡◌, ℕ, zero, suc, ◌+◌, ◌-◌, ◌*◌, ◌/◌, ◌%◌, ◌<◌, ◌≤◌, false, Option, List, [], ◌∷◌, ◌++◌, length, take, drop, refl, sym, ap, ap₂, ◌∙◌, arith, append_assoc, length-append}
use Rattle.std.specs.Prelude.{All}
use Rattle.std.proofs.lemmas.List.{append-nil, drop-drop, drop_at, take_all, take_at}
use Rattle.std.proofs.lemmas.List.Concat.{flat_map-append}
use Rattle.std.proofs.Math.Nat.{add-mul, lt-div-mul-add, mod-lt, mul-le-mul_right}
use Rattle.std.proofs.lemmas.Nat.{div-add-mod', div-mul-add, div_below, mod-mul-add}
use Rattle.std.specs.Option.{option_to_list}
use Rattle.hy_page.specs.Bytes.{bytes_at}
use Rattle.hy_rows.specs.Spelling.{HasSlots, first_items, is_spanned, least_page, list_at, row_of_slot, rows_of, slot_at, slot_bytes, slot_start, slot_width, slots_end, slots_of, slots_per_page, live_rows, used_slots}
use Rattle.hy_relation.proofs.AddressLaws.{offset-unspanned, page-unspanned}
use Rattle.hy_relation.proofs.PageLaws.{length-slot_bytes, slot_at-on_page}
use Rattle.hy_relation.proofs.SlotLaws.{slots_fit, some_slots, unspanned-room}
use Rattle.hy_relation.specs.inside.Addresses.{slot_offset, slot_page}
use Rattle.hy_columns.specs.inside.Pages.{AreUnspanned, left_on, rows_from, rows_on, rows_part, slot_on, slots_behind}

-- each page has so many bytes
abbrev pub Sized : ℕ → List (List ℕ) → Type 0
Sized n pages = All (λ page. length page ≡ n) pages

-- first items, and then those of another sequence, which goes on where the first ones end
first_items-then : {Item : Type 0} (f g : ℕ → Item) (done count : ℕ) → ((k : ℕ) → k < count → f (done + k) ≡ g k)
    → first_items f (done + count) ≡ first_items f done ++ first_items g count
first_items-then f g done zero same = let end : done + 0 ≡ done = omega arith in ap (first_items f) end ∙ sym (append-nil (first_items f done))
first_items-then f g done (suc count) same =
    let next : done + suc count ≡ suc (done + count) = omega arith in
    ap (first_items f) next
    ∙ ap₂ (λ items item. items ++ item ∷ []) (first_items-then f g done count (λ k below. same k (omega arith))) (same count (omega arith))
    ∙ append_assoc (first_items f done) (first_items g count) (g count ∷ [])

-- there are so many first items
pub length-first_items : {Item : Type 0} (f : ℕ → Item) (count : ℕ) → length (first_items f count) ≡ count
length-first_items f zero = refl
length-first_items f (suc count) =
    omega (arith, length-append (first_items f count) (f count ∷ []), length-first_items f count)

-- some of the first items, from one on
part-first : {Item : Type 0} (f : ℕ → Item) (first count used : ℕ) → first + count ≤ used
    → take count (drop first (first_items f used)) ≡ first_items (λ k. f (first + k)) count
part-first {Item} f first count used within =
    let rest : ℕ = used - (first + count) in
    let g : ℕ → Item = λ k. f (first + k) in
    let all : used ≡ first + (count + rest) = omega (arith, within) in
    let behind : List Item = first_items (λ k. g (count + k)) rest in
    ap (λ (used : ℕ). take count (drop first (first_items f used))) all
    ∙ ap (λ items. take count (drop first items)) (first_items-then f g first (count + rest) (λ k below. refl))
    ∙ ap (take count) (drop_at (first_items f first) (first_items g (count + rest)) first (length-first_items f first))
    ∙ ap (take count) (first_items-then g (λ k. g (count + k)) count rest (λ k below. refl))
    ∙ take_at (first_items g count) behind count (length-first_items g count)

-- so it is for the rows in some slots
pub part-from : {Row : Type 0} (n width : ℕ) (row_of : List ℕ → Row) (pages : List (List ℕ)) (first count : ℕ)
    → first + count ≤ used_slots pages
    → rows_from n width row_of pages first count ≡ rows_part n width row_of pages first count
part-from n width row_of pages first count within =
    ap live_rows (sym (part-first (λ k. row_of_slot row_of (slot_at n width pages k)) first count (used_slots pages) within))

-- those in all used slots
pub part-all : {Row : Type 0} (n width : ℕ) (row_of : List ℕ → Row) (pages : List (List ℕ)) (used : ℕ) → used ≡ used_slots pages
    → rows_part n width row_of pages 0 used ≡ rows_of n width row_of pages
part-all n width row_of pages used is =
    ap live_rows (take_all used (slots_of n width row_of pages)
    (omega (arith, is, length-first_items (λ k. row_of_slot row_of (slot_at n width pages k)) (used_slots pages))))

-- the slots that are used, where they aren't spanned, are no more than those of the pages
pub used-per_page : (n width : ℕ) (pages : List (List ℕ)) → least_page ≤ n → is_spanned width ≡ false → Sized n pages → HasSlots n width pages
    → used_slots pages ≤ (length pages - 1) * slots_per_page n width
used-per_page n width pages size unspanned sized slots = few (used_slots pages) slots.slots
  where
    few : (used : ℕ) → slots_end n width used ≤ length (slot_bytes pages) → used ≤ (length pages - 1) * slots_per_page n width
    few zero within = omega arith
    few (suc k) within =
        let per = slots_per_page n width in
        let some : 0 < per = some_slots n width (unspanned-room n width size unspanned) in
        let bytes : length (slot_bytes pages) ≡ (length pages - 1) * n = length-slot_bytes n pages sized in
        let place : slot_start n width k / n < length pages - 1 = div_below (slot_start n width k) n (length pages - 1) (omega (arith, size)) (omega (arith, within, bytes)) in
        let page : slot_page n width k ≡ 1 + k / per = page-unspanned n width k size unspanned in
        let below : (k / per + 1) * per ≤ (length pages - 1) * per = mul-le-mul_right per (omega (arith, place, page)) in
        omega (arith, below, lt-div-mul-add {a = k} some)

-- ---- slots that aren't spanned

module _ (n width : ℕ) (pages : List (List ℕ)) (are : AreUnspanned n width pages) (size : least_page ≤ n) where
  pub some-fit : 0 < slots_per_page n width
  some-fit = some_slots n width (unspanned-room n width size are.unspanned)

  -- the page of a used slot is there
  pub slot-there : (slot : ℕ) → slot < used_slots pages → 1 + slot / slots_per_page n width < length pages
  slot-there slot used =
      let few = used-per_page n width pages size are.unspanned are.sized are.slots in
      let place : slot / slots_per_page n width < length pages - 1 = div_below slot (slots_per_page n width) (length pages - 1) some-fit (omega (arith, used, few)) in
      omega (arith, place)

  -- there is one slot on it at least
  pub some-left : (slot : ℕ) → 0 < left_on n width slot
  some-left slot = omega (arith, mod-lt slot some-fit)

-- a part of a page, from a slot on, has the bytes of the slots there
pub left-within : (n width slot : ℕ) (page part : List ℕ) → 0 < slots_per_page n width → length page ≡ n
    → length part ≡ length page - slot % slots_per_page n width * slot_width width
    → left_on n width slot * slot_width width ≤ length part
left-within n width slot page part some sized is =
    let per : ℕ = slots_per_page n width in
    let before : ℕ = slot % per in
    let inside : before < per = mod-lt slot some in
    let whole : (before + (per - before)) * slot_width width ≡ before * slot_width width + (per - before) * slot_width width = add-mul before (per - before) (slot_width width) in
    let all : (before + (per - before)) * slot_width width ≡ per * slot_width width = ap (λ k. k * slot_width width) (let same : before + (per - before) ≡ per = omega (arith, inside) in same) in
    omega (arith, whole, all, is, sized, div-add-mod' n (slot_width width))

module _ {Row : Type 0} (n width : ℕ) (row_of : List ℕ → Row) (pages : List (List ℕ)) (are : AreUnspanned n width pages) (size : least_page ≤ n) where
  -- a slot lies on its page where those before it end
  slot-on : (place k : ℕ) → 1 + place < length pages → k < slots_per_page n width
      → row_of_slot row_of (slot_at n width pages (place * slots_per_page n width + k)) ≡ slot_on width row_of (list_at pages (1 + place)) k
  slot-on place k there within =
      let per = slots_per_page n width in
      let slot = place * per + k in
      let page : slot_page n width slot ≡ 1 + place = page-unspanned n width slot size are.unspanned ∙ ap (λ p. 1 + p) (div-mul-add place per k within) in
      let offset : slot_offset n width slot ≡ k * slot_width width = offset-unspanned n width slot size are.unspanned ∙ ap (λ k. k * slot_width width) (mod-mul-add place per k within) in
      let fits : slot_offset n width slot + slot_width width ≤ n = omega (arith, offset, slots_fit n width k within) in
      ap (row_of_slot row_of)
      (slot_at-on_page n width pages slot are.sized (omega (arith, page, there)) fits
      ∙ ap₂ (λ p from. bytes_at (list_at pages p) from (slot_width width)) page offset)

  -- those behind a slot lie on its page behind it
  slot-behind : (slot k : ℕ) → 1 + slot / slots_per_page n width < length pages → k < left_on n width slot
      → row_of_slot row_of (slot_at n width pages (slot + k)) ≡ slot_on width row_of (slots_behind n width pages slot) k
  slot-behind slot k there within =
      let per : ℕ = slots_per_page n width in
      let wide : ℕ = slot_width width in
      let before : ℕ = slot % per in
      let page : List ℕ = list_at pages (1 + slot / per) in
      let at : slot + k ≡ slot / per * per + (before + k) = omega (arith, div-add-mod' slot per) in
      ap (λ s. row_of_slot row_of (slot_at n width pages s)) at
      ∙ slot-on (slot / per) (before + k) there (omega (arith, within))
      ∙ ap (λ from. row_of_slot row_of (take wide (drop from page))) (add-mul before k wide)
      ∙ ap (λ bytes. row_of_slot row_of (take wide bytes)) (sym (drop-drop (k * wide) (before * wide) page))

  -- the rows of the slots so far, and then those of some more on the page of the next slot
  rows-page : (first done count : ℕ) → 1 + (first + done) / slots_per_page n width < length pages
      → count ≤ left_on n width (first + done)
      → rows_from n width row_of pages first done ++ rows_on width row_of (slots_behind n width pages (first + done)) count
      ≡ rows_from n width row_of pages first (done + count)
  rows-page first done count there few =
      let slot : ℕ → Option Row = λ k. row_of_slot row_of (slot_at n width pages (first + k)) in
      let on : ℕ → Option Row = slot_on width row_of (slots_behind n width pages (first + done)) in
      let behind : (k : ℕ) → first + (done + k) ≡ first + done + k = λ k. omega arith in
      sym (flat_map-append option_to_list (first_items slot done) (first_items on count))
      ∙ ap live_rows (sym (first_items-then slot on done count (λ k below.
      ap (λ s. row_of_slot row_of (slot_at n width pages s)) (behind k)
      ∙ slot-behind (first + done) k there (omega (arith, below, few)))))

  -- so, where values are read behind others, those on the next page come behind those of the slots so far
  pub rows-more : (before now new : List Row) (first done count : ℕ) (page : List ℕ) → first + done < used_slots pages
      → count ≤ left_on n width (first + done) → page ≡ slots_behind n width pages (first + done)
      → now ≡ before ++ rows_from n width row_of pages first done → new ≡ now ++ rows_on width row_of page count
      → new ≡ before ++ rows_from n width row_of pages first (done + count)
  rows-more before now new first done count page used few is_page is_now is_new =
      let there = slot-there n width pages are size (first + done) used in
      let so_far : List Row = rows_from n width row_of pages first done in
      is_new ∙ ap₂ (λ rows bytes. rows ++ rows_on width row_of bytes count) is_now is_page
      ∙ append_assoc before so_far (rows_on width row_of (slots_behind n width pages (first + done)) count)
      ∙ ap (λ rows. before ++ rows) (rows-page first done count there few)

  -- and their number is added to that of the rows so far
  pub length-more : (now more first done count : ℕ) (page : List ℕ) → first + done < used_slots pages
      → count ≤ left_on n width (first + done) → page ≡ slots_behind n width pages (first + done)
      → now ≡ length (rows_from n width row_of pages first done) → more ≡ length (rows_on width row_of page count)
      → now + more ≡ length (rows_from n width row_of pages first (done + count))
  length-more now more first done count page used few is_page is_now is_more =
      let so_far : List Row = rows_from n width row_of pages first done in
      let next : List Row = rows_on width row_of page count in
      let all : so_far ++ next ≡ rows_from n width row_of pages first (done + count) =
      rows-more [] so_far (so_far ++ next) first done count page used few is_page refl refl in
      omega (arith, length-append so_far next, ap length all, is_now, is_more)
