-- The rows on one page, and in some slots of a segment.
use Rattle.std.specs.Prelude.{◌≡◌, ℕ, ◌+◌, ◌-◌, ◌*◌, ◌/◌, ◌%◌, ◌^◌, ◌<◌, false, All, Option, List, drop, length, take}
use Rattle.hy_page.specs.Bytes.{bytes_at}
use Rattle.hy_rows.specs.Spelling.{HasSlots, first_items, is_spanned, list_at, live_rows, row_of_slot, slot_at, slot_width, slots_of, slots_per_page}

-- what a slot of a page has, by its place on the page
abbrev pub slot_on : {Row : Type 0} → ℕ → (List ℕ → Row) → List ℕ → ℕ → Option Row
slot_on row_bytes row_of page place =
    row_of_slot row_of (bytes_at page (place * slot_width row_bytes) (slot_width row_bytes))

-- the rows in the first slots of a page
abbrev pub rows_on : {Row : Type 0} → ℕ → (List ℕ → Row) → List ℕ → ℕ → List Row
rows_on row_bytes row_of page count = live_rows (first_items (slot_on row_bytes row_of page) count)

-- the bytes of the page on which a slot lies, from the slot on, and how many slots they have
abbrev pub slots_behind : ℕ → ℕ → List (List ℕ) → ℕ → List ℕ
slots_behind n row_bytes pages slot =
    drop (slot % slots_per_page n row_bytes * slot_width row_bytes) (list_at pages (1 + slot / slots_per_page n row_bytes))

abbrev pub left_on : ℕ → ℕ → ℕ → ℕ
left_on n row_bytes slot = slots_per_page n row_bytes - slot % slots_per_page n row_bytes

-- the rows in so many slots of a segment, from one on: each by its number, and as a part of all that are used
abbrev pub rows_from : {Row : Type 0} → ℕ → ℕ → (List ℕ → Row) → List (List ℕ) → ℕ → ℕ → List Row
rows_from n row_bytes row_of pages first count =
    live_rows (first_items (λ k. row_of_slot row_of (slot_at n row_bytes pages (first + k))) count)

abbrev pub rows_part : {Row : Type 0} → ℕ → ℕ → (List ℕ → Row) → List (List ℕ) → ℕ → ℕ → List Row
rows_part n row_bytes row_of pages first count = live_rows (take count (drop first (slots_of n row_bytes row_of pages)))

-- a segment has its slots on pages of n bytes, none over the end of one
pub record AreUnspanned (n row_bytes : ℕ) (pages : List (List ℕ)) : Type 0 where
  pub slots : HasSlots n row_bytes pages
  pub unspanned : is_spanned row_bytes ≡ false
  pub sized : All (λ page. length page ≡ n) pages
  pub few : length pages < 2 ^ 32

-- the bytes of a row, read as they are
abbrev pub whole_row : List ℕ → List ℕ
whole_row row = row
