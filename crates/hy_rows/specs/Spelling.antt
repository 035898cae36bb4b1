-- What the bytes of a page table say. The bytes are, for each segment, the list of its pages' bytes. Each table has
-- a segment, and others may follow them. Page 0 of a segment begins with the number of used slots in eight bytes; the
-- slots lie in the bytes of the pages from 1 on, joined: as many in those of each page as fit it, or, where they are
-- spanned, one behind another over the ends of pages. A slot is a mark, 1 for a live row and 0 for an erased one, and
-- the bytes of the row.
use Rattle.std.specs.Prelude.{◌≡◌, ℕ, ◌+◌, ◌*◌, ◌/◌, ◌%◌, ◌<◌, ◌≤◌, ◌==◌, Bool, nat_lt, if◌then◌else◌, Option, None, Some, option_to_list, List, [], ◌∷◌, ◌++◌, length, drop, slice_get, slice_index_or, zero, suc}
use Rattle.std.specs.List.{concat, flat_map}
use Rattle.hy_page.specs.Bytes.{bytes_at}
use Rattle.hy_rows.specs.Catalogue.{columns_of, row_widths, segment_of, segments}
use Rattle.hy_rows.specs.declared.catalogue.Table.{Table}
use Rattle.hy_rows.specs.declared.catalogue.Table.TheVariants as tables
use Rattle.hy_rows.specs.Columns.{number_at, row_width}
use Rattle.hy_rows.specs.Rows.{warehouse_of, district_of, customer_of, history_of, new_order_of, order_of, order_line_of, stock_of}
use Rattle.hy_rows.specs.Tables.{Tables}

-- a segment is that of a table whose rows have so many bytes
abbrev pub IsTable : ℕ → ℕ → Type 0
IsTable segment row_bytes = slice_get row_widths segment ≡ Some row_bytes

-- the list at a place of a list of lists, or the empty one
abbrev pub list_at : {Item : Type 0} → List (List Item) → ℕ → List Item
list_at lists place = slice_index_or lists place []

-- how many bytes a slot has, and how many slots a page of n bytes
abbrev pub slot_width : ℕ → ℕ
slot_width row_bytes = 1 + row_bytes

abbrev pub slots_per_page : ℕ → ℕ → ℕ
slots_per_page n row_bytes = n / slot_width row_bytes

-- no page has fewer bytes
abbrev pub least_page : ℕ
least_page = 256

-- whether slots are spanned: those are that such a page couldn't hold
abbrev pub is_spanned : ℕ → Bool
is_spanned row_bytes = nat_lt least_page (slot_width row_bytes)

-- where slot k begins in the joined bytes
abbrev pub slot_start : ℕ → ℕ → ℕ → ℕ
slot_start n row_bytes k =
    if is_spanned row_bytes then k * slot_width row_bytes
    else k / slots_per_page n row_bytes * n + k % slots_per_page n row_bytes * slot_width row_bytes

-- where the first slots end there, so many
abbrev pub slots_end : ℕ → ℕ → ℕ → ℕ
slots_end n row_bytes zero = 0
slots_end n row_bytes (suc k) = slot_start n row_bytes k + slot_width row_bytes

-- how many slots a segment has used
abbrev pub used_slots : List (List ℕ) → ℕ
used_slots pages = number_at (list_at pages 0) 0 8

-- the bytes in which the slots of a segment lie
abbrev pub slot_bytes : List (List ℕ) → List ℕ
slot_bytes pages = concat (drop 1 pages)

-- the bytes of slot k
abbrev pub slot_at : ℕ → ℕ → List (List ℕ) → ℕ → List ℕ
slot_at n row_bytes pages k = bytes_at (slot_bytes pages) (slot_start n row_bytes k) (slot_width row_bytes)

-- the first items of a sequence, in order
abbrev pub first_items : {Item : Type 0} → (ℕ → Item) → ℕ → List Item
first_items item zero = []
first_items item (suc k) = first_items item k ++ item k ∷ []

-- whether a slot has a live row
abbrev pub is_live : List ℕ → Bool
is_live slot = number_at slot 0 1 == 1

-- the row of a slot, or none where the slot isn't live
abbrev pub row_of_slot : {Row : Type 0} → (List ℕ → Row) → List ℕ → Option Row
row_of_slot row_of slot = if is_live slot then Some (row_of (drop 1 slot)) else None

-- the used slots of a segment: the row of each, or none where it was erased
abbrev pub slots_of : {Row : Type 0} → ℕ → ℕ → (List ℕ → Row) → List (List ℕ) → List (Option Row)
slots_of n row_bytes row_of pages =
    first_items (λ k. row_of_slot row_of (slot_at n row_bytes pages k)) (used_slots pages)

-- the rows of a list of slots: those that are there, in order
abbrev pub live_rows : {Row : Type 0} → List (Option Row) → List Row
live_rows slots = flat_map option_to_list slots

-- the rows of a segment
abbrev pub rows_of : {Row : Type 0} → ℕ → ℕ → (List ℕ → Row) → List (List ℕ) → List Row
rows_of n row_bytes row_of pages = live_rows (slots_of n row_bytes row_of pages)

-- a segment has its page 0, and its used slots lie in the bytes of its other pages
pub record HasSlots (n row_bytes : ℕ) (pages : List (List ℕ)) : Type 0 where
  pub first : 0 < length pages
  pub slots : slots_end n row_bytes (used_slots pages) ≤ length (slot_bytes pages)

-- the rows of a table, of the segment that is its own
abbrev pub table_rows : {Row : Type 0} → ℕ → List (List (List ℕ)) → Table → (List ℕ → Row) → List Row
table_rows n bytes table row_of = rows_of n (row_width (columns_of table)) row_of (list_at bytes (segment_of table))

-- the rows that the bytes of a page table say
abbrev pub tables_of : ℕ → List (List (List ℕ)) → Tables
tables_of n bytes = record {
  warehouses = table_rows n bytes tables.Warehouse warehouse_of;
  districts = table_rows n bytes tables.District district_of;
  customers = table_rows n bytes tables.Customer customer_of;
  history = table_rows n bytes tables.History history_of;
  new_orders = table_rows n bytes tables.NewOrder new_order_of;
  orders = table_rows n bytes tables.Order order_of;
  order_lines = table_rows n bytes tables.OrderLine order_line_of;
  stock = table_rows n bytes tables.Stock stock_of;
}

-- each table's segment is there, with its slots
pub record HasTables (n : ℕ) (bytes : List (List (List ℕ))) : Type 0 where
  pub all_segments : segments ≤ length bytes
  pub slots : (segment row_bytes : ℕ) → IsTable segment row_bytes → HasSlots n row_bytes (list_at bytes segment)

-- the bytes of a page table, with pages of n bytes, spell these rows
pub record Spells (n : ℕ) (bytes : List (List (List ℕ))) (tables : Tables) : Type 0 where
  pub whole : HasTables n bytes
  pub rows : tables_of n bytes ≡ tables
