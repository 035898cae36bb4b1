-- A relation: the rows of one table, in the slots of its segment, on the owner's pages of a space. Its value is the
-- list of its used slots (`hy_rows`, `slots_of`): the row of each, or none where it was erased.
use Rattle.std.specs.Prelude.{◌≡◌, ◌≢◌, ℕ, ◌+◌, ◌*◌, ◌/◌, ◌≤◌, if◌then◌else◌, max, Bool, true, List, length, take, find, slice_index_or, Option, None, Some, IsSome}
use Rattle.hy_rows.specs.Spelling.{HasSlots, is_spanned, least_page, list_at, live_rows, slot_start, slot_width, slots_of, used_slots}
use Rattle.hy_space.specs.Space.{SpaceState, owner_bytes}

-- the bytes of the owner's pages in one segment
abbrev pub owner_pages : SpaceState → ℕ → List (List ℕ)
owner_pages space segment = list_at (owner_bytes space) segment

-- the segment has its page 0, and its used slots lie in the bytes of its other pages
abbrev pub HasRelation : ℕ → ℕ → ℕ → SpaceState → Type 0
HasRelation n segment row_bytes space = HasSlots n row_bytes (owner_pages space segment)

-- the used slots of the segment, whose rows have so many bytes
abbrev pub relation_slots : {Row : Type 0} → ℕ → ℕ → ℕ → (List ℕ → Row) → SpaceState → List (Option Row)
relation_slots n segment row_bytes row_of space = slots_of n row_bytes row_of (owner_pages space segment)

-- only one segment changes
pub record ChangesSegment (old new : List (List (List ℕ))) (segment : ℕ) : Type 0 where
  pub segments : length new ≡ length old
  pub others : (other : ℕ) → other ≢ segment → list_at new other ≡ list_at old other

-- the place of the page on which slot k ends, among those with slots
abbrev pub end_place : ℕ → ℕ → ℕ → ℕ
end_place n row_bytes k = (slot_start n row_bytes k + row_bytes) / n

-- how many pages a slot lies on at most
abbrev pub pages_of_slot : ℕ → ℕ
pages_of_slot row_bytes = if is_spanned row_bytes then slot_width row_bytes / least_page + 2 else 1

-- how many frames a push takes at most: one for the page that counts the slots, and one for the page of the slot, shared
-- or new; or two for each of its pages, where it is spanned
abbrev pub frames_of_push : ℕ → ℕ
frames_of_push row_bytes = if is_spanned row_bytes then 1 + 2 * pages_of_slot row_bytes else 2

-- the pages have no room for a slot behind the used ones
abbrev pub HasAllSlotsUsed : ℕ → ℕ → List (List ℕ) → Type 0
HasAllSlotsUsed n row_bytes pages = length pages ≤ end_place n row_bytes (used_slots pages) + 1

-- how many pages the segment has after one push more: others only where its pages have no room for the slot
abbrev pub pages_after_push : ℕ → ℕ → List (List ℕ) → ℕ
pages_after_push n row_bytes pages = max (length pages) (end_place n row_bytes (used_slots pages) + 2)

-- the segment has no more pages than its used slots and one more need, which a refused push can leave without that slot
abbrev pub HasFewPages : ℕ → ℕ → List (List ℕ) → Type 0
HasFewPages n row_bytes pages = length pages ≤ end_place n row_bytes (used_slots pages) + 2

-- what a slot has: a row, or none where it was erased or was never used
abbrev pub row_in : {Row : Type 0} → List (Option Row) → ℕ → Option Row
row_in slots k = slice_index_or slots k None

-- a slot has a row
abbrev pub IsLive : {Row : Type 0} → List (Option Row) → ℕ → Type 0
IsLive slots k = IsSome (row_in slots k)

-- the row of a slot is the first of all rows that passes a test
pub record IsFirstSlot {Row : Type 0} (test : Row → Bool) (slots : List (Option Row)) (k : ℕ) (row : Row)
    : Type 0 where
  pub here : row_in slots k ≡ Some row
  pub passes : test row ≡ true
  pub first : find test (live_rows (take k slots)) ≡ None
