-- The columns of the tables in the bytes of their rows, of all warehouses and of blocks.
use Rattle.std.proofs.Common.{◌≡◌, ℕ, ◌+◌, ◌<◌, ◌≤◌, true, Option, Some, None, List, [], ◌∷◌, ◌++◌, length, map, take, drop, option_map, refl, sym, ap, ap₂, ◌∙◌, subst, length-append, arith}
use Rattle.std.proofs.lemmas.Bool.{false≢true}
use Rattle.std.proofs.lemmas.List.{append-nil, drop-map, get_or-map, length-drop, length-map, length-take-le, map-append, take-map}
use Rattle.std.proofs.lemmas.List.Elements.{All-head, All-tail, All-weaker}
use Rattle.std.proofs.lemmas.List.Folds.{flat_map-map}
use Rattle.std.proofs.lemmas.Option.{slice_get_within}
use Rattle.std.specs.List.{flat_map}
use Rattle.std.specs.Prelude.{All, IsSome, is_some, slice_get, unwrap_or}
use Rattle.hy_rows.specs.Catalogue.{columns_of, definition_of, row_widths, segment_of as number_of}
use Rattle.hy_rows.specs.Columns.{Column, row_width, values_in}
use Rattle.hy_rows.specs.Rows.{customer_of, customer_values, district_of, district_values, history_of, history_values, item_values, new_order_of, new_order_values, order_line_of, order_line_values, order_of, order_values, stock_of, stock_values, value_at, warehouse_of, warehouse_values}
use Rattle.hy_rows.specs.Spelling.{IsTable, list_at, live_rows, row_of_slot, rows_of as rows_of_pages, slot_at, slots_of, tables_of, used_slots}
use Rattle.hy_rows.specs.Tables.{Tables}
use Rattle.hy_rows.specs.declared.catalogue.Table.{Table}
use Rattle.hy_rows.specs.declared.catalogue.Table.TheVariants as tables
use Rattle.hy_rows.specs.declared.item.Item.{Item}
use Rattle.hy_query.specs.Columns.{kind_in, kind_of}
use Rattle.hy_query.specs.Rows.{Row, rows_of}
use Rattle.hy_columns.specs.Blocks.{IsBlock, rows_in_block, slots_by, slots_in}
use Rattle.hy_columns.specs.Columns.{column_at}
use Rattle.hy_columns.specs.Scans.{ScanState, lists_in_scan}
use Rattle.hy_columns.specs.declared.block.Block.{Block}
use Rattle.hy_columns.specs.declared.fields.Field.{Field}
use Rattle.hy_columns.specs.declared.fields.Segment.{Segment}
use Rattle.hy_columns.specs.inside.Fields.{IsField, end_of, segment_of, value_in}
use Rattle.hy_columns.specs.inside.Items.{IsWithin, items_in}
use Rattle.hy_columns.specs.inside.Pages.{whole_row}
use Rattle.hy_columns.specs.inside.Scans.{IsPart, pages_at, read_all, read_in}
use Rattle.hy_columns.proofs.FieldLaws.{field-value, field-within}
use Rattle.hy_columns.proofs.PageRows.{length-first_items}
use Rattle.hy_columns.proofs.RowLaws.{length-part, length-rows, read-part, read-rows}

-- the segment of a table on pages
abbrev segment_at : Table → Segment
segment_at table = record { number = number_of table; row_bytes = row_width (columns_of table) }

-- a table that has a segment lies on pages, and the segment is its own
found-segment : (table : Table) (segment : Segment) → segment_of table ≡ Some segment
    → (is_some (definition_of table).segment ≡ true) × (segment_at table ≡ segment)
found-segment table segment is = by_number (definition_of table).segment is
  where
    by_number : (number : Option ℕ)
        → option_map (λ number. record { number = number; row_bytes = row_width (columns_of table) }) number
        ≡ Some segment
        → (is_some number ≡ true)
        × (record { number = unwrap_or number 0; row_bytes = row_width (columns_of table) } ≡ segment)
    by_number None is = absurd (cc)
    by_number (Some number) is = (refl, cc)

-- what holds of each table on pages holds of one with a segment
each_segment : (P : Table → Segment → Type 0)
    → ((table : Table) → is_some (definition_of table).segment ≡ true → P table (segment_at table))
    → (table : Table) (segment : Segment) → segment_of table ≡ Some segment → P table segment
each_segment P holds table segment is =
    let found = found-segment table segment is in
    subst (P table) found.1 (holds table found.0)

-- it is that of a table with rows of this width
abbrev HasSegment : Table → Type 0
HasSegment table =
    is_some (definition_of table).segment ≡ true
    → slice_get row_widths (number_of table) ≡ Some (row_width (columns_of table))

has-segment : (table : Table) → HasSegment table
has-segment table = elim table as HasSegment [
  | tables.Item ↦ λ on_pages. absurd (false≢true on_pages)
  | _ ↦ λ on_pages. refl
]

pub segment-is_table : (table : Table) (segment : Segment) → segment_of table ≡ Some segment
    → IsTable segment.number segment.row_bytes
segment-is_table = each_segment (λ table segment. IsTable segment.number segment.row_bytes) has-segment

-- each of a table's columns lies within its rows
pub field-fits : (table : Table) (segment : Segment) (place : ℕ) (field : Field) → segment_of table ≡ Some segment
    → IsField (columns_of table) place field → end_of field ≤ segment.row_bytes
field-fits table segment place field is_segment is =
    subst (λ (segment : Segment). end_of field ≤ segment.row_bytes) (found-segment table segment is_segment).1
    (field-within (columns_of table) place field is)

-- ---- the rows of all warehouses

-- there are as many, whatever is read of each
length-read_all : {Read : Type 0} (n : ℕ) (segment : Segment) (read : List ℕ → Read) (pages : List (List (List (List ℕ))))
    → length (read_all n segment read pages) ≡ length (read_all n segment whole_row pages)
length-read_all n segment read [] = refl
length-read_all n segment read (bytes ∷ later) =
    let slots = list_at bytes segment.number in
    length-append (rows_of_pages n segment.row_bytes read slots) (read_all n segment read later)
    ∙ ap₂ (λ first others. first + others) (length-rows n segment.row_bytes read slots) (length-read_all n segment read later)
    ∙ sym (length-append (rows_of_pages n segment.row_bytes whole_row slots) (read_all n segment whole_row later))

-- what is read of the rows that were read of the bytes of rows is read of these
map-read_all : {One Read : Type 0} (n : ℕ) (segment : Segment) (read : One → Read) (row_of : List ℕ → One)
    → (read_of : List ℕ → Read) → ((bytes : List ℕ) → read (row_of bytes) ≡ read_of bytes)
    → (pages : List (List (List (List ℕ))))
    → map read (read_all n segment row_of pages) ≡ read_all n segment read_of pages
map-read_all n segment read row_of read_of same [] = refl
map-read_all n segment read row_of read_of same (bytes ∷ later) =
    let slots = list_at bytes segment.number in
    map-append read (rows_of_pages n segment.row_bytes row_of slots) (read_all n segment row_of later)
    ∙ ap₂ (λ first others. first ++ others) (read-rows read row_of read_of same n segment.row_bytes slots)
    (map-read_all n segment read row_of read_of same later)

-- so it is for the rows of blocks
pub map-blocks : {One Read : Type 0} (n : ℕ) (segment : Segment) (read : One → Read) (row_of : List ℕ → One)
    → (read_of : List ℕ → Read) → ((bytes : List ℕ) → read (row_of bytes) ≡ read_of bytes)
    → (pages : List (List (List (List ℕ)))) (blocks : List Block)
    → map read (flat_map (read_in n segment row_of pages) blocks) ≡ flat_map (read_in n segment read_of pages) blocks
map-blocks n segment read row_of read_of same pages [] = refl
map-blocks n segment read row_of read_of same pages (block ∷ blocks) =
    map-append read (read_in n segment row_of pages block) (flat_map (read_in n segment row_of pages) blocks)
    ∙ ap₂ (λ first others. first ++ others)
    (read-part read row_of read_of same n segment.row_bytes (pages_at segment pages block.warehouse) block.first block.slots)
    (map-blocks n segment read row_of read_of same pages blocks)

-- the rows that the pages of all warehouses spell are those that are read of them
rows-spelled : {One : Type 0} (n : ℕ) (segment : Segment) (row_of : List ℕ → One) (select : Tables → List One)
    → ((bytes : List (List (List ℕ))) → select (tables_of n bytes)
    ≡ rows_of_pages n segment.row_bytes row_of (list_at bytes segment.number))
    → (pages : List (List (List (List ℕ))))
    → flat_map select (map (tables_of n) pages) ≡ read_all n segment row_of pages
rows-spelled n segment row_of select spelled [] = refl
rows-spelled n segment row_of select spelled (bytes ∷ later) =
    ap₂ (λ first others. first ++ others) (spelled bytes) (rows-spelled n segment row_of select spelled later)

-- the rows in slots that all have one
rows-live : {One : Type 0} (row_of : One → Row) (items : List One)
    → live_rows (map (λ item. Some (row_of item)) items) ≡ map row_of items
rows-live row_of [] = refl
rows-live row_of (item ∷ items) = ap (λ rows. row_of item ∷ rows) (rows-live row_of items)

-- the slots of a table in the bytes of a warehouse
abbrev slots_with : ℕ → Segment → Table → List (List (List ℕ)) → List (Option Row)
slots_with n segment table bytes = slots_of n segment.row_bytes (values_in (columns_of table)) (list_at bytes segment.number)

-- the rows of a table, each as its values, are those that its columns say
abbrev AreRead : ℕ → ScanState → Table → Type 0
AreRead n scan table =
    is_some (definition_of table).segment ≡ true
    → rows_of (lists_in_scan n scan) table
    ≡ read_all n (segment_at table) (values_in (columns_of table)) scan.pages

module _ (n : ℕ) (scan : ScanState) where
  rows-of : {One : Type 0} (table : Table) (view : One → Row) (row_of : List ℕ → One) (select : Tables → List One)
      → ((bytes : List ℕ) → view (row_of bytes) ≡ values_in (columns_of table) bytes)
      → ((bytes : List (List (List ℕ))) → select (tables_of n bytes)
      ≡ rows_of_pages n (row_width (columns_of table)) row_of (list_at bytes (number_of table)))
      → map view (flat_map select (map (tables_of n) scan.pages))
      ≡ read_all n (segment_at table) (values_in (columns_of table)) scan.pages
  rows-of table view row_of select same spelled =
      ap (map view) (rows-spelled n (segment_at table) row_of select spelled scan.pages)
      ∙ map-read_all n (segment_at table) view row_of (values_in (columns_of table)) same scan.pages

  rows-read : (table : Table) → AreRead n scan table
  rows-read tables.Warehouse on_pages =
      rows-of tables.Warehouse warehouse_values warehouse_of (λ rows. rows.warehouses) (λ bytes. refl) (λ bytes. refl)
  rows-read tables.District on_pages =
      rows-of tables.District district_values district_of (λ rows. rows.districts) (λ bytes. refl) (λ bytes. refl)
  rows-read tables.Customer on_pages =
      rows-of tables.Customer customer_values customer_of (λ rows. rows.customers) (λ bytes. refl) (λ bytes. refl)
  rows-read tables.History on_pages =
      rows-of tables.History history_values history_of (λ rows. rows.history) (λ bytes. refl) (λ bytes. refl)
  rows-read tables.NewOrder on_pages =
      rows-of tables.NewOrder new_order_values new_order_of (λ rows. rows.new_orders) (λ bytes. refl) (λ bytes. refl)
  rows-read tables.Order on_pages =
      rows-of tables.Order order_values order_of (λ rows. rows.orders) (λ bytes. refl) (λ bytes. refl)
  rows-read tables.OrderLine on_pages =
      rows-of tables.OrderLine order_line_values order_line_of (λ rows. rows.order_lines) (λ bytes. refl) (λ bytes. refl)
  rows-read tables.Stock on_pages =
      rows-of tables.Stock stock_values stock_of (λ rows. rows.stock) (λ bytes. refl) (λ bytes. refl)
  rows-read tables.Item on_pages = absurd (false≢true on_pages)

  -- the number of rows of all warehouses
  pub length-all : (table : Table) (segment : Segment) → segment_of table ≡ Some segment
      → length (rows_of (lists_in_scan n scan) table) ≡ length (read_all n segment whole_row scan.pages)
  length-all = each_segment
      (λ table segment. length (rows_of (lists_in_scan n scan) table)
      ≡ length (read_all n segment whole_row scan.pages))
      (λ table on_pages. ap length (rows-read table on_pages)
      ∙ length-read_all n (segment_at table) (values_in (columns_of table)) scan.pages)

  -- ---- slots and blocks

  -- the rows of a table are those in its slots
  pub rows-slots : (table : Table) → flat_map live_rows (slots_in n scan table) ≡ rows_of (lists_in_scan n scan) table
  rows-slots table = elim table as (λ table. flat_map live_rows (slots_in n scan table) ≡ rows_of (lists_in_scan n scan) table) [
    | tables.Item ↦ append-nil (live_rows (map (λ item. Some (item_values item)) scan.items)) ∙ rows-live item_values scan.items
    | tables.Warehouse ↦ on-pages tables.Warehouse refl refl
    | tables.District ↦ on-pages tables.District refl refl
    | tables.Customer ↦ on-pages tables.Customer refl refl
    | tables.History ↦ on-pages tables.History refl refl
    | tables.NewOrder ↦ on-pages tables.NewOrder refl refl
    | tables.Order ↦ on-pages tables.Order refl refl
    | tables.OrderLine ↦ on-pages tables.OrderLine refl refl
    | tables.Stock ↦ on-pages tables.Stock refl refl
  ]
    where
      on-pages : (table : Table) → is_some (definition_of table).segment ≡ true
          → slots_in n scan table ≡ map (slots_with n (segment_at table) table) scan.pages
          → flat_map live_rows (slots_in n scan table) ≡ rows_of (lists_in_scan n scan) table
      on-pages table on_pages is =
          ap (flat_map live_rows) is ∙ flat_map-map live_rows (slots_with n (segment_at table) table) scan.pages
          ∙ sym (rows-read table on_pages)

module _ (n : ℕ) (scan : ScanState) (table : Table) (segment : Segment) (found : segment_of table ≡ Some segment) where
  -- those of a table on pages, by the bytes of each warehouse
  slots-found : slots_in n scan table ≡ map (slots_with n segment table) scan.pages
  slots-found = by_number (definition_of table).segment found
    where
      by_number : (number : Option ℕ)
          → option_map (λ number. record { number = number; row_bytes = row_width (columns_of table) }) number ≡ Some segment
          → slots_by number n scan table ≡ map (slots_with n segment table) scan.pages
      by_number None is = absurd (cc)
      by_number (Some number) is =
          let same : record { number = number; row_bytes = row_width (columns_of table) } ≡ segment = cc in
          ap (λ (segment : Segment). map (slots_with n segment table) scan.pages) same

  -- there are as many warehouses
  pub length-slots : length (slots_in n scan table) ≡ length scan.pages
  length-slots = ap length slots-found ∙ length-map scan.pages (slots_with n segment table)

  -- the slots of a warehouse
  pub slots-at : (place : ℕ) → place < length scan.pages
      → list_at (slots_in n scan table) place ≡ slots_with n segment table (list_at scan.pages place)
  slots-at place there =
      ap (λ (all : List (List (Option Row))). list_at all place) slots-found ∙ get_or-map (slots_with n segment table) scan.pages place [] [] there

  -- so many are used
  pub length-used : (place : ℕ) → place < length scan.pages
      → length (list_at (slots_in n scan table) place) ≡ used_slots (pages_at segment scan.pages place)
  length-used place there =
      ap length (slots-at place there)
      ∙ length-first_items (λ k. row_of_slot (values_in (columns_of table)) (slot_at n segment.row_bytes (pages_at segment scan.pages place) k))
      (used_slots (pages_at segment scan.pages place))

  -- a block of the table has slots of its segment
  pub part-of : (block : Block) → IsBlock n scan table block → IsPart segment scan.pages block
  part-of block is =
      let there : block.warehouse < length scan.pages = omega (arith, is.there, length-slots) in
      record { there = there; within = omega (arith, is.within, length-used block.warehouse there) }

  pub parts-of : (blocks : List Block) → All (IsBlock n scan table) blocks → All (IsPart segment scan.pages) blocks
  parts-of blocks are = All-weaker (IsBlock n scan table) (IsPart segment scan.pages) part-of blocks are

  -- its rows are those that are read there
  rows-in : (block : Block) → IsBlock n scan table block
      → rows_in_block n scan table block ≡ read_in n segment (values_in (columns_of table)) scan.pages block
  rows-in block is =
      ap (λ (slots : List (Option Row)). live_rows (take block.slots (drop block.first slots))) (slots-at block.warehouse (part-of block is).there)

  -- so many
  pub length-in : (block : Block) → IsBlock n scan table block
      → length (rows_in_block n scan table block) ≡ length (read_in n segment whole_row scan.pages block)
  length-in block is =
      ap length (rows-in block is)
      ∙ length-part n segment.row_bytes (values_in (columns_of table)) (pages_at segment scan.pages block.warehouse) block.first block.slots

  -- so it is for some blocks
  rows-in_blocks : (blocks : List Block) → All (IsBlock n scan table) blocks
      → flat_map (rows_in_block n scan table) blocks ≡ flat_map (read_in n segment (values_in (columns_of table)) scan.pages) blocks
  rows-in_blocks [] are = refl
  rows-in_blocks (block ∷ blocks) are =
      ap₂ (λ (first others : List Row). first ++ others) (rows-in block (All-head (IsBlock n scan table) block blocks are))
      (rows-in_blocks blocks (All-tail (IsBlock n scan table) block blocks are))

  -- the values of a column in their rows
  pub column-in : (place : ℕ) (field : Field) → IsField (columns_of table) place field → (blocks : List Block)
      → All (IsBlock n scan table) blocks
      → column_at place (flat_map (rows_in_block n scan table) blocks) ≡ flat_map (read_in n segment (value_in field) scan.pages) blocks
  column-in place field is blocks are =
      ap (column_at place) (rows-in_blocks blocks are)
      ∙ map-blocks n segment (λ row. value_at row place) (values_in (columns_of table)) (value_in field)
      (field-value (columns_of table) place field is) scan.pages blocks

-- ---- blocks of items

module _ (n : ℕ) (scan : ScanState) (table : Table) (none : segment_of table ≡ None) where
  items-found : slots_in n scan table ≡ map (λ item. Some (item_values item)) scan.items ∷ []
  items-found = by_number (definition_of table).segment none
    where
      by_number : (number : Option ℕ)
          → option_map {U = Segment} (λ number. record { number = number; row_bytes = row_width (columns_of table) }) number ≡ None
          → slots_by number n scan table ≡ map (λ item. Some (item_values item)) scan.items ∷ []
      by_number None is = refl
      by_number (Some number) is = absurd (cc)

  pub length-items : length (slots_in n scan table) ≡ 1
  length-items = ap length items-found

  -- the slots of the one place are the items
  pub items-at : (place : ℕ) → place < length (slots_in n scan table)
      → list_at (slots_in n scan table) place ≡ map (λ item. Some (item_values item)) scan.items
  items-at place there =
      let first : place ≡ 0 = omega (arith, there, length-items) in
      ap₂ (λ (all : List (List (Option Row))) (place : ℕ). list_at all place) items-found first

  pub count-items : (place : ℕ) → place < length (slots_in n scan table)
      → length (list_at (slots_in n scan table) place) ≡ length scan.items
  count-items place there = ap length (items-at place there) ∙ length-map scan.items (λ item. Some (item_values item))

  within-of : (block : Block) → IsBlock n scan table block → IsWithin scan.items block
  within-of block is = record { within = omega (arith, is.within, count-items block.warehouse is.there) }

  pub withins-of : (blocks : List Block) → All (IsBlock n scan table) blocks → All (IsWithin scan.items) blocks
  withins-of blocks are = All-weaker (IsBlock n scan table) (IsWithin scan.items) within-of blocks are

  item-rows : (block : Block) → IsBlock n scan table block
      → rows_in_block n scan table block ≡ map item_values (take block.slots (drop block.first scan.items))
  item-rows block is =
      let value : Item → Option Row = λ item. Some (item_values item) in
      ap (λ (slots : List (Option Row)). live_rows (take block.slots (drop block.first slots))) (items-at block.warehouse is.there)
      ∙ ap (λ (slots : List (Option Row)). live_rows (take block.slots slots)) (drop-map value block.first scan.items)
      ∙ ap live_rows (take-map value block.slots (drop block.first scan.items))
      ∙ rows-live item_values (take block.slots (drop block.first scan.items))

  -- a block has as many rows as slots
  pub count-in : (block : Block) → IsBlock n scan table block → block.slots ≡ length (rows_in_block n scan table block)
  count-in block is =
      let within = (within-of block is).within in
      let some : List Item = take block.slots (drop block.first scan.items) in
      sym (ap length (item-rows block is) ∙ length-map some item_values
      ∙ length-take-le block.slots (drop block.first scan.items) (omega (arith, within, length-drop block.first scan.items)))

  pub item-blocks : (blocks : List Block) → All (IsBlock n scan table) blocks
      → flat_map (rows_in_block n scan table) blocks ≡ map item_values (items_in scan.items blocks)
  item-blocks [] are = refl
  item-blocks (block ∷ blocks) are =
      ap₂ (λ (first others : List Row). first ++ others) (item-rows block (All-head (IsBlock n scan table) block blocks are))
      (item-blocks blocks (All-tail (IsBlock n scan table) block blocks are))
      ∙ sym (map-append item_values (take block.slots (drop block.first scan.items)) (items_in scan.items blocks))

  -- a column of them has one of four places
  pub item-place : (place : ℕ) → IsSome (kind_of (record { table = table; place = place })) → place < 4
  item-place place known = elim table as (λ table. segment_of table ≡ None → place < length (columns_of table) → place < 4) [
    | tables.Item ↦ λ none within. within
    | _ ↦ λ none within. absurd (cc)
  ] none (by_entry (slice_get (columns_of table) place) refl known)
    where
      by_entry : (entry : Option Column) → slice_get (columns_of table) place ≡ entry
          → IsSome (option_map (λ definition. kind_in definition.domain) entry) → place < length (columns_of table)
      by_entry None is known = absurd (false≢true known)
      by_entry (Some entry) is known = slice_get_within (columns_of table) place entry is
