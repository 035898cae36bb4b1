-- Where slots lie on pages, and what changes of the pages are in the joined bytes.
use Rattle.std.specs.Prelude.{◌≡◌, ℕ, ◌+◌, ◌/◌, ◌%◌, ◌≤◌, List, ◌++◌, length}
use Rattle.hy_page.specs.Bytes.{overwritten}
use Rattle.hy_rows.specs.Spelling.{slot_bytes, slot_start, used_slots}

-- the page on which a byte of the joined ones stands, and its offset there
abbrev pub page_of_byte : ℕ → ℕ → ℕ
page_of_byte n byte = 1 + byte / n

abbrev pub offset_of_byte : ℕ → ℕ → ℕ
offset_of_byte n byte = byte % n

-- those of the first byte of slot k
abbrev pub slot_page : ℕ → ℕ → ℕ → ℕ
slot_page n row_bytes k = page_of_byte n (slot_start n row_bytes k)

abbrev pub slot_offset : ℕ → ℕ → ℕ → ℕ
slot_offset n row_bytes k = offset_of_byte n (slot_start n row_bytes k)

-- the pages of a segment after a write over some of the joined bytes
pub record WritesJoined (old new : List (List ℕ)) (start : ℕ) (bytes : List ℕ) : Type 0 where
  pub joined : slot_bytes new ≡ overwritten (slot_bytes old) start bytes
  pub used : used_slots new ≡ used_slots old
  pub pages : length new ≡ length old

-- and after one over the first bytes of a slot
abbrev pub WritesSlot : ℕ → ℕ → List (List ℕ) → List (List ℕ) → ℕ → List ℕ → Type 0
WritesSlot n row_bytes old new k bytes = WritesJoined old new (slot_start n row_bytes k) bytes

-- the pages of a segment with another number of used slots
pub record CountsSlots (old new : List (List ℕ)) (count : ℕ) : Type 0 where
  pub joined : slot_bytes new ≡ slot_bytes old
  pub used : used_slots new ≡ count
  pub pages : length new ≡ length old

-- the pages of a segment, and perhaps others behind them
pub record GrowsSlots (old new : List (List ℕ)) : Type 0 where
  pub joined : (more : List ℕ) × (slot_bytes new ≡ slot_bytes old ++ more)
  pub used : used_slots new ≡ used_slots old
  pub pages : length old ≤ length new
