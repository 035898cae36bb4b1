-- An undelivered order of a warehouse, by its entry.
use Rattle.std.specs.Prelude.{◌≡◌, ℕ, Option, Some, [], MatchOption}
use Rattle.hy_rows.specs.declared.new_order.NewOrder.{NewOrder}
use Rattle.hy_rows.specs.declared.order.Order.{Order}
use Rattle.hy_rows.specs.Finding.{first_or}
use Rattle.hy_rows.specs.Rows.{order_of}
use Rattle.hy_rows.specs.Tables.{Tables}
use Rattle.hy_schema.specs.Related.{is_order}
use Rattle.hy_relation.specs.Relation.{row_in}
use Rattle.hy_indexes.specs.of_index.declared.key.Entry.{Entry}
use Rattle.hy_commands.specs.declared.command.Delivery.{Delivery}
use Rattle.hy_commands.specs.Deliveries.{oldest}
use Rattle.hy_commands.specs.Invariant.{IsSoundWarehouse}
use Rattle.hy_layout.specs.Layout.{KeepsPlaces, LayoutState, own_rows}
use Rattle.hy_indexes.specs.of_store.declared.keys.WaitingKey.{WaitingKey}
use Rattle.hy_indexes.specs.of_store.Changes.{without_new_order}
use Rattle.hy_indexes.specs.of_store.Keys.{is_lesser_waiting}
use Rattle.hy_indexes.specs.of_store.Stored.{Stored}
use Rattle.hy_indexes.specs.of_index.Index.{without}
use Rattle.hy_indexes.specs.Indexes.{HasIndexes, waiting_key_at}
use Rattle.hy_writers.specs.Deliveries.{with_delivery}
use Rattle.hy_writers.specs.Limits.{AreInBounds}

-- a store between two slices of a delivery, or before a command: its rows are sound, in their places and within bounds, and
-- its indexes are those of its rows
pub record IsSoundStore (layout : LayoutState) (s : Stored) : Type 0 where
  pub sound : IsSoundWarehouse layout.load.items layout.warehouse s.tables
  pub places : KeepsPlaces (own_rows layout) s.tables
  pub bounds : AreInBounds s.tables
  pub indexes : HasIndexes s

-- an entry names a row of NEW-ORDER of the warehouse
pub record IsWaiting (warehouse : ℕ) (s : Stored) (entry : Entry WaitingKey) : Type 0 where
  pub row : NewOrder
  pub here : row_in s.new_order_slots entry.slot ≡ Some row
  pub key : waiting_key_at row ≡ entry.key
  pub home : row.warehouse ≡ warehouse

-- the order that an entry names
abbrev pub order_of_entry : ℕ → Stored → Entry WaitingKey → Order
order_of_entry warehouse s entry =
    first_or (order_of []) (is_order warehouse entry.key.district entry.key.order) s.tables.orders

-- an entry is that of the oldest undelivered order of a district; none, and the district has no such order
abbrev pub IsOldest : ℕ → ℕ → Tables → Option (Entry WaitingKey) → Type 0
IsOldest warehouse district tables waiting =
    MatchOption waiting (oldest warehouse district tables ≡ 0)
    (λ entry. (entry.key.district ≡ district) × (oldest warehouse district tables ≡ entry.key.order))

-- the row of NEW-ORDER that an entry names is gone, and the entry too
abbrev pub without_waiting : Entry WaitingKey → Stored → Stored
without_waiting entry s = record (without_new_order entry.slot s) {
  waiting = without is_lesser_waiting entry.key s.waiting;
}

-- the order that an entry names is delivered
abbrev pub with_entry_delivered : ℕ → Delivery → Entry WaitingKey → Stored → Stored
with_entry_delivered warehouse delivery entry s = with_delivery delivery (order_of_entry warehouse s entry) entry.slot s
