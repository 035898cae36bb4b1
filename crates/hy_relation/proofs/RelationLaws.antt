-- What writes into the pages of a segment do to the list of its slots.
use Rattle.std.proofs.Common.{◌≡◌, ℕ, suc, ◌+◌, ◌<◌, ◌≤◌, List, [], ◌∷◌, ◌++◌, length, replicate, take, set, get_or, Option, Some, None, Result, Ok, Err, OnErr, sym, ap, ◌∙◌, ap₂, subst, arith, inl, inr, length-append}
use Rattle.std.specs.Prelude.{IsSome}
use Rattle.std.proofs.lemmas.Bool.{cases_lt, false≢true}
use Rattle.std.proofs.lemmas.List.{append-nil, get_or_past, take_more}
use Rattle.std.proofs.lemmas.List.Concat.{flat_map-append}
use Rattle.std.specs.Option.{option_map, option_to_list}
use Rattle.hy_page.specs.Bytes.{overwritten}
use Rattle.hy_page.proofs.ByteLaws.{field_of_zeros}
use Rattle.hy_rows.proofs.FirstItems.{get_or-first_items, length-first_items}
use Rattle.hy_rows.specs.Spelling.{HasSlots, live_rows, row_of_slot, least_page, slot_at, slot_bytes, slot_start, slot_width, slots_end, slots_of, used_slots}
use Rattle.hy_undo.proofs.PutBackLaws.{length-overwritten}
use Rattle.hy_relation.specs.Relation.{IsLive}
use Rattle.hy_relation.specs.inside.Addresses.{CountsSlots, GrowsSlots, WritesJoined, WritesSlot}
use Rattle.hy_relation.proofs.SlotLaws.{slots_in, slots_in-behind, slots_in-erased, slots_in-filled, slots_in-grown, slots_in-part, slots_in-pushed}
use Rattle.hy_relation.proofs.SpaceLaws.{used-within}

-- a write behind no byte of a slot is one over its first bytes
pub at_start : (n width : ℕ) (old new : List (List ℕ)) (k : ℕ) (part : List ℕ) → WritesJoined old new (slot_start n width k + 0) part → WritesSlot n width old new k part
at_start n width old new k part written = subst (λ (start : ℕ). WritesJoined old new start part) (let same : slot_start n width k + 0 ≡ slot_start n width k = omega arith in same) written

-- where bytes of slots are written over, the used slots lie in the bytes of the pages still
pub has_slots-written : (n width : ℕ) (old new : List (List ℕ)) (start : ℕ) (part : List ℕ) → start + length part ≤ length (slot_bytes old)
    → WritesJoined old new start part → HasSlots n width old → HasSlots n width new
has_slots-written n width old new start part within written slots = record {
  first = omega (arith, slots.first, written.pages);
  slots = omega (arith, ap (slots_end n width) written.used, slots.slots, ap length written.joined, length-overwritten (slot_bytes old) start part within);
}

module _ {Row : Type 0} (n width : ℕ) (row_of : List ℕ → Row) where
  pub length-slots_of : (pages : List (List ℕ)) → length (slots_of n width row_of pages) ≡ used_slots pages
  length-slots_of pages = length-first_items (λ k. row_of_slot row_of (slot_at n width pages k)) (used_slots pages)

  -- what a used slot has, and one that was never used
  pub row-used : (pages : List (List ℕ)) (k : ℕ) → k < used_slots pages → get_or (slots_of n width row_of pages) k None ≡ row_of_slot row_of (slot_at n width pages k)
  row-used pages k within = get_or-first_items (λ k. row_of_slot row_of (slot_at n width pages k)) (used_slots pages) k None within

  pub row-unused : (pages : List (List ℕ)) (k : ℕ) → used_slots pages ≤ k → get_or (slots_of n width row_of pages) k None ≡ None
  row-unused pages k past = get_or_past (slots_of n width row_of pages) k None (omega (arith, length-slots_of pages))

  -- a slot that has a row is a used one
  pub live-used : (pages : List (List ℕ)) (k : ℕ) → IsLive (slots_of n width row_of pages) k → k < used_slots pages
  live-used pages k live = elim (cases_lt k (used_slots pages)) [
    | inl used ↦ used
    | inr past ↦ absurd (false≢true (subst IsSome (row-unused pages k past) live))
  ]

  module _ (old : List (List ℕ)) (k : ℕ) (room : least_page ≤ n) (slots : HasSlots n width old) where
    module _ (new : List (List ℕ)) (used : k < used_slots old) where
      fits : slot_start n width k + slot_width width ≤ length (slot_bytes old)
      fits = used-within n width old k room slots used

      -- a row is put into a used slot
      pub slots_of-put : (bytes : List ℕ) → length bytes ≡ width → WritesSlot n width old new k (1 ∷ bytes)
          → slots_of n width row_of new ≡ set (slots_of n width row_of old) k (Some (row_of bytes))
      slots_of-put bytes whole written =
          ap₂ (slots_in n width row_of) written.joined written.used
          ∙ slots_in-filled n width row_of (slot_bytes old) (used_slots old) k room fits bytes whole used

      -- some bytes of the row in a used slot are written over, which then means another row
      pub slots_of-part : (skip : ℕ) (part : List ℕ) (change : Row → Row) → 1 + skip + length part ≤ slot_width width
          → ((row : List ℕ) → length row ≡ width → row_of (overwritten row skip part) ≡ change (row_of row))
          → WritesJoined old new (slot_start n width k + (1 + skip)) part
          → slots_of n width row_of new ≡ set (slots_of n width row_of old) k (option_map change (get_or (slots_of n width row_of old) k None))
      slots_of-part skip part change short changes written =
          ap₂ (slots_in n width row_of) written.joined written.used
          ∙ slots_in-part n width row_of (slot_bytes old) (used_slots old) k room fits skip part change short used changes
          ∙ ap (λ row. set (slots_of n width row_of old) k (option_map change row)) (sym (row-used old k used))

      -- a used slot is erased
      pub slots_of-erased : WritesSlot n width old new k (0 ∷ []) → slots_of n width row_of new ≡ set (slots_of n width row_of old) k None
      slots_of-erased written =
          ap₂ (slots_in n width row_of) written.joined written.used
          ∙ slots_in-erased n width row_of (slot_bytes old) (used_slots old) k room fits used

    -- pages are grown
    pub slots_of-grown : (grown : List (List ℕ)) → GrowsSlots old grown → slots_of n width row_of grown ≡ slots_of n width row_of old
    slots_of-grown grown grows =
        ap₂ (slots_in n width row_of) grows.joined.1 grows.used
        ∙ slots_in-grown n width row_of (slot_bytes old) grows.joined.0 (used_slots old)
        (λ j below. used-within n width old j room slots below)

    pub has_slots-grown : (grown : List (List ℕ)) → GrowsSlots old grown → HasSlots n width grown
    has_slots-grown grown grows =
        let more : length (slot_bytes old) ≤ length (slot_bytes grown) = omega (arith, ap length grows.joined.1, length-append (slot_bytes old) grows.joined.0) in
        record {
          first = omega (arith, grows.pages, slots.first);
          slots = omega (arith, ap (slots_end n width) grows.used, slots.slots, more);
        }

    -- something is written into the slot behind the used ones, which isn't counted
    module _ (grown filled : List (List ℕ)) (part : List ℕ) (all : used_slots old ≡ k) (grows : GrowsSlots old grown)
        (within : slot_start n width k + slot_width width ≤ length (slot_bytes grown)) (short : length part ≤ slot_width width)
        (written : WritesSlot n width grown filled k part) where
      pub slots_of-behind : slots_of n width row_of filled ≡ slots_of n width row_of old
      slots_of-behind =
          ap₂ (slots_in n width row_of) written.joined written.used
          ∙ slots_in-behind n width row_of (slot_bytes grown) (used_slots grown) k room within part short (omega (arith, all, grows.used))
          ∙ slots_of-grown grown grows

      pub has_slots-behind : HasSlots n width filled
      has_slots-behind =
          let before = has_slots-grown grown grows in
          let bytes : length (slot_bytes filled) ≡ length (slot_bytes grown) = ap length written.joined
          ∙ length-overwritten (slot_bytes grown) (slot_start n width k) part (omega (arith, within, short)) in
          record {
            first = omega (arith, before.first, written.pages);
            slots = omega (arith, ap (slots_end n width) written.used, before.slots, bytes);
          }

    -- a row is written into the slot behind the used ones, which is counted then
    module _ (grown filled new : List (List ℕ)) (bytes : List ℕ) (all : used_slots old ≡ k) (grows : GrowsSlots old grown)
        (within : slot_start n width k + slot_width width ≤ length (slot_bytes grown)) (whole : length bytes ≡ width)
        (written : WritesSlot n width grown filled k (1 ∷ bytes)) (counted : CountsSlots filled new (k + 1)) where
      pub slots_of-pushed : slots_of n width row_of new ≡ slots_of n width row_of old ++ Some (row_of bytes) ∷ []
      slots_of-pushed =
          let joined = slot_bytes grown in
          ap₂ (slots_in n width row_of) (counted.joined ∙ written.joined) counted.used
          ∙ slots_in-pushed n width row_of joined (used_slots old) k room within bytes whole all
          ∙ ap (λ used. slots_in n width row_of joined used ++ Some (row_of bytes) ∷ []) (sym grows.used)
          ∙ ap (λ before. before ++ Some (row_of bytes) ∷ []) (slots_of-grown grown grows)

      pub has_slots-pushed : HasSlots n width new
      has_slots-pushed =
          let size : length new ≡ length grown = counted.pages ∙ written.pages in
          let more : used_slots new ≡ suc k = counted.used ∙ omega arith in
          let joined : length (slot_bytes new) ≡ length (slot_bytes grown) = ap length (counted.joined ∙ written.joined)
          ∙ length-overwritten (slot_bytes grown) (slot_start n width k) (1 ∷ bytes) (omega (arith, within, whole)) in
          record {
            first = omega (arith, size, grows.pages, slots.first);
            slots = omega (arith, ap (slots_end n width) more, within, joined);
          }

  -- a segment whose one page is of zeros has no slots
  used-zeros : 8 ≤ n → used_slots (replicate n 0 ∷ []) ≡ 0
  used-zeros room = field_of_zeros n 0 8 room

  pub has_slots-zeros : 8 ≤ n → HasSlots n width (replicate n 0 ∷ [])
  has_slots-zeros room = record { first = omega arith; slots = omega (arith, ap (slots_end n width) (used-zeros room)) }

  pub slots_of-zeros : 8 ≤ n → slots_of n width row_of (replicate n 0 ∷ []) ≡ []
  slots_of-zeros room = ap (slots_in n width row_of (slot_bytes (replicate n 0 ∷ []))) (used-zeros room)

-- the rows of one slot more
pub live_rows-more : {Row : Type 0} (slots : List (Option Row)) (k : ℕ) → k < length slots
    → live_rows (take (k + 1) slots) ≡ live_rows (take k slots) ++ option_to_list (get_or slots k None)
live_rows-more slots k within =
    ap live_rows (take_more slots k None within)
    ∙ flat_map-append option_to_list (take k slots) (get_or slots k None ∷ [])
    ∙ ap (λ rows. live_rows (take k slots) ++ rows) (append-nil (option_to_list (get_or slots k None)))

-- where the row of that slot was read
pub live_rows-read : {Row : Type 0} (n width : ℕ) (row_of : List ℕ → Row) (pages : List (List ℕ)) (k : ℕ) (slot : List ℕ) (rows more : List Row)
    → k < used_slots pages → slot ≡ slot_at n width pages k → rows ≡ live_rows (take k (slots_of n width row_of pages))
    → more ≡ rows ++ option_to_list (row_of_slot row_of slot) → more ≡ live_rows (take (k + 1) (slots_of n width row_of pages))
live_rows-read {Row = Row} n width row_of pages k slot rows more within is before pushed =
    let slots : List (Option Row) = slots_of n width row_of pages in
    pushed
    ∙ ap₂ (λ one other. one ++ option_to_list other) before (ap (row_of_slot row_of) is ∙ sym (row-used n width row_of pages k within))
    ∙ sym (live_rows-more slots k (omega (arith, within, length-slots_of n width row_of pages)))

-- what holds anyhow holds on an error
pub on_err : {T E P : Type 0} (r : Result T E) → P → OnErr r P
on_err (Ok x) p = tt
on_err (Err e) p = p
