-- The indexes of a store after the writes of a purchase.
use Rattle.std.proofs.Common.{◌≡◌, ◌≢◌, ℕ, ◌+◌, ◌<◌, List, [], ◌∷◌, ◌++◌, length, Option, Some, ap, arith}
use Rattle.std.specs.Prelude.{slice_get}
use Rattle.hy_rows.specs.declared.new_order.NewOrder.{NewOrder}
use Rattle.hy_rows.specs.declared.order.Order.{Order}
use Rattle.hy_rows.specs.declared.order_line.OrderLine.{OrderLine}
use Rattle.hy_rows.specs.declared.item.Item.{Item}
use Rattle.hy_relation.specs.Relation.{row_in}
use Rattle.hy_commands.specs.declared.command.Purchase.{Purchase}
use Rattle.hy_commands.specs.declared.command.PurchaseLine.{PurchaseLine}
use Rattle.hy_commands.specs.NewOrders.{line_row, new_order_row, order_number, order_row}
use Rattle.hy_slices.specs.Slices.{headed_number}
use Rattle.hy_indexes.specs.of_store.declared.keys.LineKey.{LineKey}
use Rattle.hy_indexes.specs.of_store.declared.keys.OrderKey.{OrderKey}
use Rattle.hy_indexes.specs.of_store.declared.keys.WaitingKey.{WaitingKey}
use Rattle.hy_indexes.specs.of_store.Keys.{is_lesser_line, is_lesser_order, is_lesser_waiting}
use Rattle.hy_indexes.specs.of_store.Stored.{Stored}
use Rattle.hy_indexes.specs.Indexes.{HasIndexes, line_key_at, order_key_at, waiting_key_at}
use Rattle.hy_indexes.proofs.IndexedLaws.{last_orders-added, slot-past, slot-push_last, slot-push_other}
use Rattle.hy_writers.specs.Purchases.{with_order, with_order_line}
use Rattle.hy_indexes.proofs.IndexLaws.{index-added}
use Rattle.hy_indexes.proofs.KeyOrders.{order-of_lines, order-of_orders, order-of_waiting}
use Rattle.hy_layout.proofs.PlaceLaws.{get-past, get-push_last, get-push_other}

-- all orders of a district have numbers below one
abbrev pub AreBelow : ℕ → ℕ → List Order → Type 0
AreBelow district number orders =
    (place : ℕ) (row : Order) → slice_get orders place ≡ Some row → row.district ≡ district → row.id < number

-- and no undelivered order has it
abbrev pub NoneWaits : ℕ → ℕ → List (Option NewOrder) → Type 0
NoneWaits district number slots =
    (slot : ℕ) (row : NewOrder) → row_in slots slot ≡ Some row → row.district ≡ district → row.order ≢ number

pub indexes-order : (order : Purchase) (s : Stored) → HasIndexes s
    → AreBelow order.district (order_number order s.tables) s.tables.orders
    → NoneWaits order.district (order_number order s.tables) s.new_order_slots
    → HasIndexes (with_order order s)
indexes-order order s has below none =
    let number : ℕ = order_number order s.tables in
    let row : Order = order_row order number in
    let new : NewOrder = new_order_row order number in
    record {
      orders = index-added is_lesser_order order-of_orders order_key_at (slice_get s.tables.orders)
          (slice_get (s.tables.orders ++ row ∷ [])) s.orders (length s.tables.orders) row has.orders
          (get-past s.tables.orders) (get-push_last s.tables.orders row) (get-push_other s.tables.orders row)
          (λ place other here same.
          let ids : other.id ≡ number = ap (λ (k : OrderKey). k.order) same in
          let less = below place other here
          (ap (λ (k : OrderKey). k.district) same) in
          absurd (omega (arith, ids, less)));
      last_orders = last_orders-added s.tables.orders s.last_orders row has.last_orders below;
      waiting = index-added is_lesser_waiting order-of_waiting waiting_key_at (row_in s.new_order_slots)
          (row_in (s.new_order_slots ++ Some new ∷ [])) s.waiting (length s.new_order_slots) new has.waiting
          (slot-past s.new_order_slots) (slot-push_last s.new_order_slots new) (slot-push_other s.new_order_slots new)
          (λ slot other here same.
          none slot other here
          (ap (λ (k : WaitingKey). k.district) same)
          (ap (λ (k : WaitingKey). k.order) same));
      lines = has.lines;
    }

-- ---- an order line more

-- no line of an order in a district has a number
abbrev pub NoLine : ℕ → ℕ → ℕ → List OrderLine → Type 0
NoLine district order number rows =
    (place : ℕ) (row : OrderLine) → slice_get rows place ≡ Some row → row.district ≡ district → row.order ≡ order
    → row.number ≢ number

pub indexes-line : (items : List Item) (warehouse lines : ℕ) (order : Purchase) (line : PurchaseLine) (s : Stored)
    → HasIndexes s → NoLine order.district (headed_number order s.tables) (lines + 1) s.tables.order_lines
    → HasIndexes (with_order_line items warehouse order lines line s)
indexes-line items warehouse lines order line s has none =
    let number : ℕ = headed_number order s.tables in
    let row : OrderLine = line_row items order number (lines + 1) line in
    record {
      orders = has.orders;
      last_orders = has.last_orders;
      waiting = has.waiting;
      lines = index-added is_lesser_line order-of_lines line_key_at (slice_get s.tables.order_lines)
          (slice_get (s.tables.order_lines ++ row ∷ [])) s.lines (length s.tables.order_lines) row has.lines
          (get-past s.tables.order_lines) (get-push_last s.tables.order_lines row)
          (get-push_other s.tables.order_lines row)
          (λ place other here same.
          none place other here
          (ap (λ (k : LineKey). k.district) same)
          (ap (λ (k : LineKey). k.order) same)
          (ap (λ (k : LineKey). k.number) same));
    }
