-- The pages of one segment of a space, and what a write or a new page does to them.
use Rattle.std.proofs.Common.{◌≡◌, ℕ, ◌-◌, ◌*◌, ◌/◌, ◌^◌, ◌<◌, ◌≤◌, List, [], ◌∷◌, ◌+◌, length, map, set, ap, ◌∙◌, arith, inl, inr, get_or-set_other, get_or-set_same, length-set}
use Rattle.std.proofs.Math.Nat.{mul-le-mul_left}
use Rattle.std.proofs.lemmas.Bool.{cases_lt}
use Rattle.std.proofs.lemmas.List.{get_or_past, length-map}
use Rattle.std.proofs.lemmas.Nat.{div_below}
use Rattle.hy_frames.specs.FrameTable.{page_of}
use Rattle.hy_rows.specs.Spelling.{HasSlots, least_page, list_at, slot_bytes, slot_start, slot_width, slots_end, used_slots}
use Rattle.hy_space.specs.Space.{SpaceState, HasPage, IsSound, owner_bytes}
use Rattle.hy_undo.proofs.PrivatePageLaws.{length-segment-owner_bytes}
use Rattle.hy_undo.proofs.JoinedLaws.{Sized}
use Rattle.hy_relation.specs.Relation.{ChangesSegment, end_place, owner_pages}
use Rattle.hy_undo.specs.Writes.{WritesAcross}
use Rattle.hy_relation.specs.inside.Addresses.{WritesJoined, slot_page}
use Rattle.hy_relation.proofs.PageLaws.{across-joined, length-slot_bytes}
use Rattle.hy_relation.proofs.SlotLaws.{end-before, end-below, slots-few, start-within}

-- a segment that has a page is there
pub segment_there : (bytes : List (List (List ℕ))) (segment : ℕ) → 0 < length (list_at bytes segment) → segment < length bytes
segment_there bytes segment some = elim (cases_lt segment (length bytes)) [
  | inl there ↦ there
  | inr past ↦ absurd (omega (arith, some, ap length (get_or_past bytes segment [] past)))
]

module _ (n segment : ℕ) (space : SpaceState) (sound : IsSound n space) (some : 0 < length (owner_pages space segment)) where
  there : segment < length (owner_bytes space)
  there = segment_there (owner_bytes space) segment some

  -- its pages have all their bytes
  pub pages_sized : Sized n (owner_pages space segment)
  pages_sized = sound.pages 0 [] (omega arith) segment [] there

  pub segment_owned : segment < length space.owner
  segment_owned = omega (arith, there, length-map space.owner (map (page_of space.frames)))

  -- they are few
  pub few_pages : length (owner_pages space segment) < 2 ^ 32
  few_pages = omega (arith, length-segment-owner_bytes space segment, sound.page_counts segment, sound.within, sound.limit)

  -- and the owner has each
  pub has_page : (page : ℕ) → page < length (owner_pages space segment) → HasPage space segment page
  has_page page within = (segment_owned, omega (arith, length-segment-owner_bytes space segment, within))

  -- and so are the bytes of its slots
  pub bytes_few : length (slot_bytes (owner_pages space segment)) < 2 ^ 48
  bytes_few =
      let count = length (owner_pages space segment) - 1 in
      let more : count * n ≤ count * 65536 = mul-le-mul_left count sound.size.largest in
      omega (arith, length-slot_bytes n (owner_pages space segment) pages_sized, more, few_pages)

  pub ends_few : (width : ℕ) → HasSlots n width (owner_pages space segment) → slots_end n width (used_slots (owner_pages space segment)) < 2 ^ 48
  ends_few width slots = omega (arith, bytes_few, slots.slots)

  -- its used slots are fewer than 2^56
  pub used_small : (width : ℕ) → HasSlots n width (owner_pages space segment) → used_slots (owner_pages space segment) < 2 ^ 56
  used_small width slots = omega (arith, ends_few width slots, slots-few n width (used_slots (owner_pages space segment)) sound.size.smallest)

-- pages that have bytes of slots
pub some_pages : (pages : List (List ℕ)) (size : ℕ) → 0 < size → size ≤ length (slot_bytes pages) → 0 < length pages
some_pages [] size some within = absurd (omega (arith, some, within))
some_pages (page ∷ pages) size some within = omega arith

-- a slot within the bytes of the pages begins on one of them, and ends on one
module _ (n width : ℕ) (pages : List (List ℕ)) (k : ℕ) (some : 0 < n) (sized : Sized n pages)
    (within : slot_start n width k + slot_width width ≤ length (slot_bytes pages)) where
  pub slot_end-below : end_place n width k + 1 < length pages
  slot_end-below =
      let bytes : length (slot_bytes pages) ≡ (length pages - 1) * n = length-slot_bytes n pages sized in
      omega (arith, end-below n width k (length pages - 1) some (omega (arith, within, bytes)))

  pub slot_page-below : slot_page n width k < length pages
  slot_page-below =
      let bytes : length (slot_bytes pages) ≡ (length pages - 1) * n = length-slot_bytes n pages sized in
      let place : slot_start n width k / n < length pages - 1 = div_below (slot_start n width k) n (length pages - 1) some (omega (arith, within, bytes)) in
      omega (arith, place)

-- a used slot lies within them
pub used-within : (n width : ℕ) (pages : List (List ℕ)) (k : ℕ) → least_page ≤ n → HasSlots n width pages → k < used_slots pages
    → slot_start n width k + slot_width width ≤ length (slot_bytes pages)
used-within n width pages k size slots used = omega (arith, start-within n width k (used_slots pages) size used, slots.slots)

-- the slots before one that is used end below 2^48, on pages that are few
pub lent_few : (n width : ℕ) (pages : List (List ℕ)) (k : ℕ) → least_page ≤ n → n ≤ 65536 → Sized n pages → HasSlots n width pages → k < used_slots pages
    → length pages < 2 ^ 32 → slots_end n width k < 2 ^ 48
lent_few n width pages k size small sized slots used few =
    let count = length pages - 1 in
    let more : count * n ≤ count * 65536 = mul-le-mul_left count small in
    omega (arith, end-before n width k size, used-within n width pages k size slots used, length-slot_bytes n pages sized, more, few)

-- and the owner has its first page
pub slot_there : (n segment width k : ℕ) (space : SpaceState) → IsSound n space
    → slot_start n width k + slot_width width ≤ length (slot_bytes (owner_pages space segment)) → HasPage space segment (slot_page n width k)
slot_there n segment width k space sound within =
    let pages : List (List ℕ) = owner_pages space segment in
    let some = some_pages pages (slot_start n width k + slot_width width) (omega arith) within in
    has_page n segment space sound some (slot_page n width k)
    (slot_page-below n width pages k (omega (arith, sound.size.smallest)) (pages_sized n segment space sound some) within)

-- a write over some bytes of a slot, in a space
pub across-here : (n segment width k skip at : ℕ) (old new : SpaceState) (part : List ℕ) → IsSound n old → IsSound n new
    → slot_start n width k + slot_width width ≤ length (slot_bytes (owner_pages old segment)) → skip ≤ slot_width width
    → at ≡ n + (slot_start n width k + skip)
    → WritesAcross (owner_bytes old) (owner_bytes new) segment at part
    → WritesJoined (owner_pages old segment) (owner_pages new segment) (slot_start n width k + skip) part
across-here n segment width k skip at old new part sound resound within inside place written =
    let some = some_pages (owner_pages old segment) (slot_start n width k + slot_width width) (omega arith) within in
    across-joined n (owner_bytes old) (owner_bytes new) segment at (slot_start n width k + skip) part (pages_sized n segment old sound some)
    (pages_sized n segment new resound (omega (arith, some, written.pages))) some (omega (arith, sound.size.smallest)) (omega (arith, within, inside)) place written

-- ---- changes of one segment

-- other pages in one segment
pub segment-set : (bytes : List (List (List ℕ))) (segment : ℕ) (pages : List (List ℕ)) → segment < length bytes → list_at (set bytes segment pages) segment ≡ pages
segment-set bytes segment pages within = get_or-set_same bytes segment pages [] within

pub changes-set : (bytes : List (List (List ℕ))) (segment : ℕ) (pages : List (List ℕ)) → ChangesSegment bytes (set bytes segment pages) segment
changes-set bytes segment pages = record {
  segments = length-set bytes segment pages;
  others = λ other differs. get_or-set_other bytes segment other pages [] differs;
}

-- two changes, one after the other
pub changes-then : (old mid new : List (List (List ℕ))) (segment : ℕ) → ChangesSegment old mid segment → ChangesSegment mid new segment → ChangesSegment old new segment
changes-then old mid new segment first second = record {
  segments = second.segments ∙ first.segments;
  others = λ other differs. second.others other differs ∙ first.others other differs;
}

pub changes-none : (old new : List (List (List ℕ))) (segment : ℕ) → new ≡ old → ChangesSegment old new segment
changes-none old new segment same = record {
  segments = ap length same;
  others = λ other differs. ap (λ (bytes : List (List (List ℕ))). list_at bytes other) same;
}
