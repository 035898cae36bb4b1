-- New-Order (TPC-C clause 2.4.2.2): what a purchase does at its home warehouse, and what at a warehouse that supplies
-- lines of it.
use Rattle.std.specs.Prelude.{ℕ, pos, ◌+◌, ◌-◌, ◌*◌, ◌/◌, ◌==◌, ◌&&◌, Bool, not, nat_le, if◌then◌else◌, List, [], ◌∷◌, ◌++◌, length, fold, filter}
use Rattle.std.specs.List.{list_all, list_any}
use Rattle.hy_rows.specs.declared.customer.Customer.{Customer}
use Rattle.hy_rows.specs.declared.district.District.{District}
use Rattle.hy_rows.specs.declared.item.Item.{Item}
use Rattle.hy_rows.specs.declared.new_order.NewOrder.{NewOrder}
use Rattle.hy_rows.specs.declared.order.Order.{Order}
use Rattle.hy_rows.specs.declared.order_line.OrderLine.{OrderLine}
use Rattle.hy_rows.specs.declared.stock.Stock.{Stock}
use Rattle.hy_rows.specs.Finding.{first_or, is_customer, is_district, is_warehouse, with_changed}
use Rattle.hy_rows.specs.Rows.{customer_of, district_of, warehouse_of}
use Rattle.hy_rows.specs.Tables.{Tables}
use Rattle.hy_schema.specs.Related.{is_item}
use Rattle.hy_commands.specs.declared.command.Purchase.{Purchase}
use Rattle.hy_commands.specs.declared.command.PurchaseLine.{PurchaseLine}

-- ---- stock

-- whether a row of STOCK has the key (S_W_ID, S_I_ID)
abbrev pub is_stock : ℕ → ℕ → Stock → Bool
is_stock warehouse item row = (row.warehouse == warehouse) && (row.item == item)

-- S_QUANTITY falls by what is ordered where that leaves 10 or more, and else by that and is filled up by 91
abbrev pub quantity_left : ℕ → ℕ → ℕ
quantity_left stock quantity = if nat_le (quantity + 10) stock then stock - quantity else stock + 91 - quantity

-- the row of STOCK after a line of a quantity; a line of another warehouse's purchase is a remote one
abbrev pub sold : Bool → ℕ → Stock → Stock
sold is_remote quantity row = record row {
  quantity = quantity_left row.quantity quantity;
  ytd = row.ytd + quantity;
  order_count = row.order_count + 1;
  remote_count = row.remote_count + (if is_remote then 1 else 0);
}

-- the stock of a warehouse after a line that it supplies
abbrev pub sold_line : ℕ → Purchase → List Stock → PurchaseLine → List Stock
sold_line supplier order stock line =
    with_changed (is_stock supplier line.item) (sold (not (order.warehouse == supplier)) line.quantity) stock

-- what a purchase does to a warehouse that supplies lines of it: their stock, in the order of the lines
abbrev pub supplied : ℕ → Purchase → Tables → Tables
supplied supplier order tables = record tables {
  stock = fold (sold_line supplier order) tables.stock (filter (λ line. line.supply_warehouse == supplier) order.lines);
}

-- ---- the home warehouse

-- the item of a line, and what the line costs
abbrev pub no_item : Item
no_item = record { id = 0; image = 0; name = []; price = 0 }

abbrev pub has_item : List Item → PurchaseLine → Bool
has_item items line = list_any (is_item line.item) items

abbrev pub line_cents : List Item → PurchaseLine → ℕ
line_cents items line = line.quantity * (first_or no_item (is_item line.item) items).price

-- the lines' cents together
abbrev pub purchase_cents : List Item → List PurchaseLine → ℕ
purchase_cents items lines = fold (λ cents line. cents + line_cents items line) 0 lines

-- whether the home warehouse supplies all lines
abbrev pub is_all_local : Purchase → Bool
is_all_local order = list_all (λ line. line.supply_warehouse == order.warehouse) order.lines

-- the rows that are added for a purchase with a number
abbrev pub order_row : Purchase → ℕ → Order
order_row order number = record {
  id = number;
  district = order.district;
  warehouse = order.warehouse;
  customer = order.customer;
  entry_date = order.at;
  carrier = 0;
  line_count = length order.lines;
  all_local = if is_all_local order then 1 else 0;
}

abbrev pub new_order_row : Purchase → ℕ → NewOrder
new_order_row order number = record { order = number; district = order.district; warehouse = order.warehouse }

abbrev pub line_row : List Item → Purchase → ℕ → ℕ → PurchaseLine → OrderLine
line_row items order number place line = record {
  order = number;
  district = order.district;
  warehouse = order.warehouse;
  number = place;
  item = line.item;
  supply_warehouse = line.supply_warehouse;
  delivery_date = 0;
  quantity = line.quantity;
  amount = pos (line_cents items line);
}

-- the rows of the lines, numbered from a place on
abbrev pub line_rows : List Item → Purchase → ℕ → ℕ → List PurchaseLine → List OrderLine
line_rows items order number place [] = []
line_rows items order number place (line ∷ lines) =
    line_row items order number place line ∷ line_rows items order number (place + 1) lines

-- the district of a purchase; the number of the order is its next one
abbrev pub district_of_purchase : Purchase → Tables → District
district_of_purchase order tables =
    first_or (district_of []) (is_district order.warehouse order.district) tables.districts

abbrev pub order_number : Purchase → Tables → ℕ
order_number order tables = (district_of_purchase order tables).next_order

abbrev pub with_next_order : District → District
with_next_order row = record row { next_order = row.next_order + 1 }

-- what a purchase does to its home warehouse, but for the stock
abbrev pub ordered : List Item → Purchase → Tables → Tables
ordered items order tables =
    let number : ℕ = order_number order tables in
    record tables {
      districts = with_changed (is_district order.warehouse order.district) with_next_order tables.districts;
      orders = tables.orders ++ order_row order number ∷ [];
      new_orders = tables.new_orders ++ new_order_row order number ∷ [];
      order_lines = tables.order_lines ++ line_rows items order number 1 order.lines;
    }

-- ---- the total

-- what cents come to with a discount and two taxes in ten-thousandths, rounded to the cent, a half upwards
abbrev pub total_of : ℕ → ℕ → ℕ → ℕ → ℕ
total_of cents discount warehouse_tax district_tax =
    (cents * (10_000 - discount) * (10_000 + warehouse_tax + district_tax) + 50_000_000) / 100_000_000

abbrev pub buyer : Purchase → Tables → Customer
buyer order tables =
    first_or (customer_of []) (is_customer order.warehouse order.district order.customer) tables.customers

abbrev pub purchase_total : List Item → Purchase → Tables → ℕ
purchase_total items order tables =
    total_of (purchase_cents items order.lines) (buyer order tables).discount
    (first_or (warehouse_of []) (is_warehouse order.warehouse) tables.warehouses).tax
    (district_of_purchase order tables).tax
