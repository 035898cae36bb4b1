-- The indexes of a store are those of its rows.
use Rattle.std.specs.Prelude.{◌≡◌, ℕ, ◌≤◌, List, Some, slice_get}
use Rattle.hy_rows.specs.declared.new_order.NewOrder.{NewOrder}
use Rattle.hy_rows.specs.declared.order.Order.{Order}
use Rattle.hy_rows.specs.declared.order_line.OrderLine.{OrderLine}
use Rattle.hy_store.specs.of_relation.Relation.{row_in}
use Rattle.hy_store.specs.Entry.{Entry}
use Rattle.hy_store.specs.declared.keys.CustomerKey.{CustomerKey}
use Rattle.hy_store.specs.declared.keys.LineKey.{LineKey}
use Rattle.hy_store.specs.declared.keys.OrderKey.{OrderKey}
use Rattle.hy_store.specs.declared.keys.WaitingKey.{WaitingKey}
use Rattle.hy_store.specs.Stored.{Stored}
use Rattle.hy_layout.specs.Finds.{IsIn}
use Rattle.hy_indexes.specs.Finds.{IsIndexOf}

-- the keys of rows
abbrev pub order_key_at : Order → OrderKey
order_key_at row = record { order = row.id; district = row.district }

abbrev pub buyer_key_at : Order → CustomerKey
buyer_key_at row = record { district = row.district; customer = row.customer }

abbrev pub waiting_key_at : NewOrder → WaitingKey
waiting_key_at row = record { district = row.district; order = row.order }

abbrev pub line_key_at : OrderLine → LineKey
line_key_at row = record { order = row.order; district = row.district; number = row.number }

-- an index has, for each customer with an order, the place of the order with the greatest number, and nothing else
pub record AreLastOrders (orders : List Order) (entries : List (Entry CustomerKey)) : Type 0 where
  pub there : (entry : Entry CustomerKey) → IsIn entry entries
      → (row : Order) × (slice_get orders entry.slot ≡ Some row) × (buyer_key_at row ≡ entry.key)
      × ((place : ℕ) (other : Order) → slice_get orders place ≡ Some other → buyer_key_at other ≡ entry.key
      → other.id ≤ row.id)
  pub all : (place : ℕ) (row : Order) → slice_get orders place ≡ Some row
      → (slot : ℕ) × IsIn (record { key = buyer_key_at row; slot = slot }) entries

pub record HasIndexes (s : Stored) : Type 0 where
  pub orders : IsIndexOf order_key_at (slice_get s.tables.orders) s.orders
  pub last_orders : AreLastOrders s.tables.orders s.last_orders
  pub waiting : IsIndexOf waiting_key_at (row_in s.new_order_slots) s.waiting
  pub lines : IsIndexOf line_key_at (slice_get s.tables.order_lines) s.lines
