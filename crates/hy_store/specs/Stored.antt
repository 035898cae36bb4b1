-- What the pages of a warehouse's store say: the rows of each table, the slots of NEW-ORDER, which alone loses rows,
-- and the entries of four indexes. The tables' segments come first, and then one for each index. In a table that never
-- loses a row, the row of slot k stands at place k of the list.
use Rattle.std.specs.Prelude.{◌≡◌, ◌≢◌, ℕ, ◌+◌, ◌<◌, ◌≤◌, true, List, [], Option, length}
use Rattle.hy_rows.specs.declared.new_order.NewOrder.{NewOrder}
use Rattle.hy_rows.specs.Rows.{new_order_of}
use Rattle.hy_rows.specs.Spelling.{HasTables, IsTable, is_live, list_at, slot_at, slots_of, tables_of, used_slots}
use Rattle.hy_rows.specs.Catalogue.{columns_of, segment_of, segments}
use Rattle.hy_rows.specs.Columns.{row_width}
use Rattle.hy_rows.specs.declared.catalogue.Table.TheVariants as tables
use Rattle.hy_rows.specs.Tables.{Tables, no_rows}
use Rattle.hy_index.specs.declared.key.Entry.{Entry}
use Rattle.hy_index.specs.Writes.{IsIndex, entries}
use Rattle.hy_store.specs.declared.keys.CustomerKey.{CustomerKey}
use Rattle.hy_store.specs.declared.keys.LineKey.{LineKey}
use Rattle.hy_store.specs.declared.keys.OrderKey.{OrderKey}
use Rattle.hy_store.specs.declared.keys.WaitingKey.{WaitingKey}
use Rattle.hy_store.specs.Keys.{IsCustomerKey, IsLineKey, IsOrderKey, IsWaitingKey, customer_key_bytes, customer_key_of, line_key_bytes, line_key_of, order_key_bytes, order_key_of, waiting_key_bytes, waiting_key_of}

-- the segment of the table that loses rows
abbrev pub new_order_segment : ℕ
new_order_segment = segment_of tables.NewOrder

-- the segments of the indexes, behind those of the tables, and how many segments there are
abbrev pub order_index : ℕ
order_index = segments

abbrev pub last_order_index : ℕ
last_order_index = segments + 1

abbrev pub waiting_index : ℕ
waiting_index = segments + 2

abbrev pub line_index : ℕ
line_index = segments + 3

abbrev pub all_segments : ℕ
all_segments = segments + 4

-- what the pages say
pub record Stored : Type 0 where
  -- the rows of each table
  pub tables : Tables
  -- the slots of NEW-ORDER: the row of each, or none where it was erased
  pub new_order_slots : List (Option NewOrder)
  -- for each order its slot, for each customer with an order the slot of one, for each undelivered order the slot of its
  -- row of NEW-ORDER, and for each order line its slot
  pub orders : List (Entry OrderKey)
  pub last_orders : List (Entry CustomerKey)
  pub waiting : List (Entry WaitingKey)
  pub lines : List (Entry LineKey)

-- nothing
abbrev pub nothing_stored : Stored
nothing_stored = record {
  tables = no_rows;
  new_order_slots = [];
  orders = [];
  last_orders = [];
  waiting = [];
  lines = [];
}

-- what bytes say, with pages of n bytes
abbrev pub stored : ℕ → List (List (List ℕ)) → Stored
stored n bytes = record {
  tables = tables_of n bytes;
  new_order_slots =
      slots_of n (row_width (columns_of tables.NewOrder)) new_order_of (list_at bytes new_order_segment);
  orders = entries n 5 order_key_of (list_at bytes order_index);
  last_orders = entries n 3 customer_key_of (list_at bytes last_order_index);
  waiting = entries n 5 waiting_key_of (list_at bytes waiting_index);
  lines = entries n 6 line_key_of (list_at bytes line_index);
}

-- each used slot of a segment has its row
abbrev pub HasAllRows : ℕ → ℕ → List (List ℕ) → Type 0
HasAllRows n row_bytes pages = (k : ℕ) → k < used_slots pages → is_live (slot_at n row_bytes pages k) ≡ true

-- the segments of the indexes are indexes
pub record HasIndexSegments (n : ℕ) (bytes : List (List (List ℕ))) : Type 0 where
  pub orders : IsIndex n 5 order_key_bytes order_key_of IsOrderKey (list_at bytes order_index)
  pub last_orders : IsIndex n 3 customer_key_bytes customer_key_of IsCustomerKey (list_at bytes last_order_index)
  pub waiting : IsIndex n 5 waiting_key_bytes waiting_key_of IsWaitingKey (list_at bytes waiting_index)
  pub lines : IsIndex n 6 line_key_bytes line_key_of IsLineKey (list_at bytes line_index)

-- the same as one word: a search for a proof looks into it only where it is named as unfolding
unfoldable pub AreIndexes : ℕ → List (List (List ℕ)) → Type 0
AreIndexes n bytes = HasIndexSegments n bytes

-- the bytes are those of a store, with pages of n bytes: all segments are there, those of the tables with their slots,
-- no table but NEW-ORDER has erased one, and the others are indexes
pub record HasStore (n : ℕ) (bytes : List (List (List ℕ))) : Type 0 where
  pub all : all_segments ≤ length bytes
  pub tables : HasTables n bytes
  pub keeps : (segment row_bytes : ℕ) → IsTable segment row_bytes → segment ≢ new_order_segment
      → HasAllRows n row_bytes (list_at bytes segment)
  pub indexes : AreIndexes n bytes
