-- What the slices of a purchase write into a store: rows, and their entries in the indexes.
use Rattle.std.specs.Prelude.{◌≡◌, ℕ, ◌+◌, ◌*◌, ◌^◌, ◌<◌, ◌≤◌, ◌==◌, Bool, if◌then◌else◌, List, [], ◌∷◌, ◌++◌, find, length, map, pos, All, Some}
use Rattle.hy_rows.specs.declared.item.Item.{Item}
use Rattle.hy_rows.specs.declared.order_line.OrderLine.{OrderLine}
use Rattle.hy_rows.specs.Finding.{with_changed}
use Rattle.hy_rows.specs.Limits.{max_items, max_lines, max_price, max_quantity}
use Rattle.hy_rows.specs.Ranges.{IsBetween}
use Rattle.hy_schema.specs.Keys.{AreUnique, IsOneWarehouse}
use Rattle.hy_schema.specs.Related.{is_item}
use Rattle.hy_indexes.specs.of_index.Index.{with_entry}
use Rattle.hy_commands.specs.declared.command.Purchase.{Purchase}
use Rattle.hy_commands.specs.declared.command.PurchaseLine.{PurchaseLine}
use Rattle.hy_commands.specs.Invariant.{stock_key}
use Rattle.hy_commands.specs.Growth.{IsStockUpTo}
use Rattle.hy_commands.specs.NewOrders.{is_stock, new_order_row, order_number, sold}
use Rattle.hy_layout.specs.Layout.{KeepsPlaces, LayoutState, own_rows}
use Rattle.hy_slices.specs.Slices.{headed, headed_number, lined}
use Rattle.hy_indexes.specs.of_store.Keys.{is_lesser_customer, is_lesser_line, is_lesser_order, is_lesser_waiting}
use Rattle.hy_indexes.specs.of_store.Changes.{with_new_order}
use Rattle.hy_indexes.specs.of_store.Stored.{Stored}
use Rattle.hy_writers.specs.Begun.{IsBegunLine, IsBegunPurchase}
use Rattle.hy_writers.specs.Limits.{AreInBounds, most_applied}

-- the entries of an order with a number: that it stands at a place, and that it is its customer's last one
abbrev pub with_order_entries : Purchase → ℕ → ℕ → Stored → Stored
with_order_entries order number place s = record s {
  orders = with_entry is_lesser_order (record { order = number; district = order.district }) place s.orders;
  last_orders =
      with_entry is_lesser_customer (record { district = order.district; customer = order.customer }) place s.last_orders;
}

-- the row of NEW-ORDER for an order with a number, and its entry
abbrev pub with_waiting : Purchase → ℕ → Stored → Stored
with_waiting order number s = record (with_new_order (new_order_row order number) s) {
  waiting =
      with_entry is_lesser_waiting (record { district = order.district; order = number }) (length s.new_order_slots)
      s.waiting;
}

-- the head: an order, and its row of NEW-ORDER
abbrev pub with_order : Purchase → Stored → Stored
with_order order s =
    let number : ℕ = order_number order s.tables in
    let place : ℕ = length s.tables.orders in
    record s {
      tables = headed order s.tables;
      new_order_slots = s.new_order_slots ++ Some (new_order_row order number) ∷ [];
      orders = with_entry is_lesser_order (record { order = number; district = order.district }) place s.orders;
      last_orders =
          with_entry is_lesser_customer (record { district = order.district; customer = order.customer }) place
          s.last_orders;
      waiting =
          with_entry is_lesser_waiting (record { district = order.district; order = number }) (length s.new_order_slots)
          s.waiting;
    }

-- a line, behind so many
abbrev pub with_order_line : List Item → ℕ → Purchase → ℕ → PurchaseLine → Stored → Stored
with_order_line items warehouse order lines line s =
    let number : ℕ = headed_number order s.tables in
    record s {
      tables = lined items warehouse order number (lines + 1) s.tables line;
      lines =
          with_entry is_lesser_line (record { order = number; district = order.district; number = lines + 1 })
          (length s.tables.order_lines) s.lines;
    }

-- a line of a purchase, from here or from another home, is sold where the warehouse supplies it
abbrev pub with_line_sold : ℕ → Bool → PurchaseLine → Stored → Stored
with_line_sold warehouse is_remote line s = record s {
  tables = record s.tables {
    stock =
        if line.supply_warehouse == warehouse
        then with_changed (is_stock warehouse line.item) (sold is_remote line.quantity) s.tables.stock
        else s.tables.stock;
  };
}

-- the row of ORDER-LINE for a line that costs so many cents
abbrev pub line_for : Purchase → ℕ → ℕ → PurchaseLine → ℕ → OrderLine
line_for order number place line cents = record {
  order = number;
  district = order.district;
  warehouse = order.warehouse;
  number = place;
  item = line.item;
  supply_warehouse = line.supply_warehouse;
  delivery_date = 0;
  quantity = line.quantity;
  amount = pos cents;
}

-- what the head of a purchase needs: the warehouse has its rows, within their bounds, it has begun the purchase, and the
-- customer's number fits its column
pub record CanAddOrder (layout : LayoutState) (order : Purchase) (s : Stored) : Type 0 where
  pub rows : IsOneWarehouse layout.warehouse s.tables
  pub bounds : AreInBounds s.tables
  pub begun : IsBegunPurchase layout.warehouse order
  pub customer : order.customer < 2 ^ 16

-- what the stock of a line needs: the warehouse has a row for each item, at its place, none of them too large for a
-- line more, and the item of the line is there
pub record CanSellLine (layout : LayoutState) (line : PurchaseLine) (s : Stored) : Type 0 where
  pub unique : AreUnique (map stock_key s.tables.stock)
  pub places : KeepsPlaces (own_rows layout) s.tables
  pub bounds : All (IsStockUpTo (max_lines * most_applied)) s.tables.stock
  pub quantity : IsBetween 1 max_quantity line.quantity
  pub number : IsBetween 1 (length layout.load.items) line.item

-- what a line behind so many needs: the warehouse has its rows, at their places and within their bounds, it has begun the
-- purchase, whose head is done, and the item is the one of the line
pub record CanAddLine (layout : LayoutState) (order : Purchase) (lines : ℕ) (line : PurchaseLine) (item : Item)
    (s : Stored) : Type 0 where
  pub rows : IsOneWarehouse layout.warehouse s.tables
  pub stock : AreUnique (map stock_key s.tables.stock)
  pub places : KeepsPlaces (own_rows layout) s.tables
  pub bounds : AreInBounds s.tables
  pub next : All (λ row. 0 < row.next_order) s.tables.districts
  pub begun : IsBegunPurchase layout.warehouse order
  pub few : lines < max_lines
  pub passed : IsBegunLine line
  pub found : find (is_item line.item) layout.load.items ≡ Some item
  pub number : IsBetween 1 (length layout.load.items) line.item
  pub small : line.item ≤ max_items
  pub price : item.price ≤ max_price
