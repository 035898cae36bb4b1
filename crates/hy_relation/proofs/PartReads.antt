-- Some columns of the row in a slot, read by themselves.
use Rattle.std.proofs.Common.{◌≡◌, ℕ, ◌+◌, ◌-◌, ◌*◌, ◌/◌, ◌<◌, ◌≤◌, ◌==◌, true, false, List, length, take, drop, Some, None, refl, sym, ap, ap₂, ◌∙◌, arith}
use Rattle.std.specs.Option.{option_map}
use Rattle.std.proofs.lemmas.List.{drop-drop, drop-take, length-drop, take-take}
use Rattle.hy_page.specs.Bytes.{bytes_at, number_of}
use Rattle.hy_page.proofs.ByteLaws.{length-bytes_at}
use Rattle.std.proofs.lemmas.Nat.{div-add-mod'}
use Rattle.hy_rows.specs.Spelling.{is_live, list_at, row_of_slot, slot_at, slot_bytes, slot_start, slot_width}
use Rattle.hy_undo.proofs.JoinedLaws.{Sized}
use Rattle.hy_relation.specs.inside.Addresses.{slot_offset, slot_page}
use Rattle.hy_relation.proofs.PageLaws.{part-on_page}

-- a slot is live by its first byte
pub mark-live : (bytes : List ℕ) (start count : ℕ) → 1 ≤ count → is_live (bytes_at bytes start 1) ≡ is_live (bytes_at bytes start count)
mark-live bytes start count some =
    ap (λ mark. number_of mark == 1)
    (take-take 1 1 (drop start bytes) (omega arith) ∙ sym (take-take 1 count (drop start bytes) some))

-- some bytes of a row, among those of the slots
in_slot : (bytes : List ℕ) (start width offset count : ℕ) → offset + count ≤ width
    → bytes_at (drop 1 (bytes_at bytes start (slot_width width))) offset count ≡ bytes_at bytes (start + (1 + offset)) count
in_slot bytes start width offset count within =
    let skip : ℕ = 1 + offset in
    let all : slot_width width ≡ skip + (slot_width width - skip) = omega (arith, within) in
    ap (take count) (drop-drop offset 1 (bytes_at bytes start (slot_width width)))
    ∙ ap (λ size. take count (drop skip (take size (drop start bytes)))) all
    ∙ ap (take count) (drop-take skip (slot_width width - skip) (drop start bytes))
    ∙ take-take count (slot_width width - skip) (drop skip (drop start bytes)) (omega (arith, within))
    ∙ ap (take count) (drop-drop skip start bytes)

module _ {Row Part : Type 0} (row_of : List ℕ → Row) (part_of : Row → Part) (part_of_bytes : List ℕ → Part) (width offset count : ℕ) (inside : offset + count ≤ width)
    (said : (row : List ℕ) → length row ≡ width → part_of (row_of row) ≡ part_of_bytes (bytes_at row offset count))
    (bytes : List ℕ) (start : ℕ) (within : start + slot_width width ≤ length bytes) where
  -- a slot that has no row has nothing of it
  pub part-none : is_live (bytes_at bytes start (slot_width width)) ≡ false
      → None ≡ option_map part_of (row_of_slot row_of (bytes_at bytes start (slot_width width)))
  part-none dead = rw dead refl

  -- and what a row has of the columns, its bytes of them say
  pub part-some : is_live (bytes_at bytes start (slot_width width)) ≡ true
      → Some (part_of_bytes (bytes_at bytes (start + (1 + offset)) count)) ≡ option_map part_of (row_of_slot row_of (bytes_at bytes start (slot_width width)))
  part-some live =
      let size : length (drop 1 (bytes_at bytes start (slot_width width))) ≡ width =
      omega (arith, length-drop 1 (bytes_at bytes start (slot_width width)), length-bytes_at bytes start (slot_width width) within) in
      ap Some (ap part_of_bytes (sym (in_slot bytes start width offset count inside)) ∙ sym (said (drop 1 (bytes_at bytes start (slot_width width))) size))
      ∙ rw live refl

-- ---- on the page on which a slot begins
module _ (n width : ℕ) (pages : List (List ℕ)) (k : ℕ) (sized : Sized n pages) (there : slot_page n width k < length pages)
    (page : List ℕ) (offset : ℕ) (is : page ≡ list_at pages (slot_page n width k)) (at : offset ≡ slot_offset n width k) where
  -- so many bytes behind others
  pub part-here : (from skip count some : ℕ) → from ≡ offset + skip → some ≡ count → offset + skip + count ≤ n
      → take (from + some - from) (drop from page) ≡ bytes_at (slot_bytes pages) (slot_start n width k + skip) count
  part-here from skip count some begins counted within =
      let start : ℕ = slot_start n width k in
      let size : from + some - from ≡ count = omega (arith, counted) in
      let place : (slot_page n width k - 1) * n + (slot_offset n width k + skip) ≡ start + skip =
      omega (arith, ap (λ p. p * n) (let before : slot_page n width k - 1 ≡ start / n = omega arith in before), div-add-mod' start n) in
      ap₂ (λ size bytes. take size (drop from bytes)) size is
      ∙ ap (λ begin. bytes_at (list_at pages (slot_page n width k)) begin count) (begins ∙ ap (λ o. o + skip) at)
      ∙ sym (part-on_page n pages (slot_page n width k) (slot_offset n width k + skip) (start + skip) count sized (omega arith) there (omega (arith, at, within)) place)

  -- all of the slot
  pub slot-here : (to : ℕ) → to ≡ offset + slot_width width → offset + slot_width width ≤ n
      → take (to - offset) (drop offset page) ≡ slot_at n width pages k
  slot-here to ends within =
      let start : ℕ = slot_start n width k in
      let none : offset ≡ offset + 0 = omega arith in
      let begin : start + 0 ≡ start = omega arith in
      ap (λ end. take (end - offset) (drop offset page)) ends
      ∙ part-here offset 0 (slot_width width) (slot_width width) none refl (omega (arith, within))
      ∙ ap (λ from. bytes_at (slot_bytes pages) from (slot_width width)) begin

  -- its mark
  pub mark-here : offset < n → is_live (take (offset + 1 - offset) (drop offset page)) ≡ is_live (slot_at n width pages k)
  mark-here within =
      let start : ℕ = slot_start n width k in
      let none : offset ≡ offset + 0 = omega arith in
      let begin : start + 0 ≡ start = omega arith in
      ap is_live (part-here offset 0 1 1 none refl (omega (arith, within)) ∙ ap (λ from. bytes_at (slot_bytes pages) from 1) begin)
      ∙ mark-live (slot_bytes pages) start (slot_width width) (omega arith)
