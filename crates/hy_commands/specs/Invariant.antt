-- What holds of the rows of one warehouse as loaded and after every list of commits.
use Rattle.std.specs.Prelude.{◌≡◌, ◌<◌, ℕ, IsTrue, List, map, All}
use Rattle.std.specs.List.{list_any}
use Rattle.hy_rows.specs.declared.customer.Customer.{Customer}
use Rattle.hy_rows.specs.declared.district.District.{District}
use Rattle.hy_rows.specs.declared.item.Item.{Item}
use Rattle.hy_rows.specs.declared.new_order.NewOrder.{NewOrder}
use Rattle.hy_rows.specs.declared.order.Order.{Order}
use Rattle.hy_rows.specs.declared.order_line.OrderLine.{OrderLine}
use Rattle.hy_rows.specs.declared.stock.Stock.{Stock}
use Rattle.hy_rows.specs.Finding.{is_customer}
use Rattle.hy_rows.specs.Limits.{districts_per_warehouse}
use Rattle.hy_rows.specs.Ranges.{IsBetween}
use Rattle.hy_rows.specs.Tables.{Tables}
use Rattle.hy_schema.specs.Conditions.{condition_1, condition_12, condition_2, condition_3, condition_4, condition_5, condition_6, condition_7, condition_8, condition_9}
use Rattle.hy_schema.specs.Keys.{AreUnique, IsOneWarehouse}
use Rattle.hy_schema.specs.Related.{is_item, is_order, orders_of}
use Rattle.hy_commands.specs.NewOrders.{is_stock}

-- the keys (O_W_ID, O_D_ID, O_ID), (NO_W_ID, NO_D_ID, NO_O_ID) and (OL_W_ID, OL_D_ID, OL_O_ID, OL_NUMBER)
abbrev pub order_key : Order → ℕ × ℕ × ℕ
order_key row = (row.warehouse, row.district, row.id)

abbrev pub new_order_key : NewOrder → ℕ × ℕ × ℕ
new_order_key row = (row.warehouse, row.district, row.order)

abbrev pub line_key : OrderLine → ℕ × ℕ × ℕ × ℕ
line_key row = (row.warehouse, row.district, row.order, row.number)

-- the consistency conditions that speak of one warehouse (TPC-C clauses 3.3.2.1 to 3.3.2.9 and 3.3.2.12)
pub record MeetsOwnConditions (tables : Tables) : Type 0 where
  pub condition_1 : IsTrue (condition_1 tables)
  pub condition_2 : IsTrue (condition_2 tables)
  pub condition_3 : IsTrue (condition_3 tables)
  pub condition_4 : IsTrue (condition_4 tables)
  pub condition_5 : IsTrue (condition_5 tables)
  pub condition_6 : IsTrue (condition_6 tables)
  pub condition_7 : IsTrue (condition_7 tables)
  pub condition_8 : IsTrue (condition_8 tables)
  pub condition_9 : IsTrue (condition_9 tables)
  pub condition_12 : IsTrue (condition_12 tables)

-- an order of the warehouse: its district has one of the ten numbers, its number isn't 0, and its customer is there
pub record IsOwnOrder (number : ℕ) (customers : List Customer) (row : Order) : Type 0 where
  pub warehouse : row.warehouse ≡ number
  pub district : IsBetween 1 districts_per_warehouse row.district
  pub positive : 0 < row.id
  pub customer : IsTrue (list_any (is_customer row.warehouse row.district row.customer) customers)

-- an undelivered order has its order, and an order line its order and its item
abbrev pub HasOrder : List Order → NewOrder → Type 0
HasOrder orders row = IsTrue (list_any (is_order row.warehouse row.district row.order) orders)

abbrev pub HasOrderAndItem : List Item → List Order → OrderLine → Type 0
HasOrderAndItem items orders row =
    IsTrue (list_any (is_order row.warehouse row.district row.order) orders) × IsTrue (list_any (is_item row.item) items)

-- no order, undelivered order or order line has the key of another, and each has the rows that it names
pub record HasOwnOrders (items : List Item) (number : ℕ) (tables : Tables) : Type 0 where
  pub unique_orders : AreUnique (map order_key tables.orders)
  pub unique_new_orders : AreUnique (map new_order_key tables.new_orders)
  pub unique_lines : AreUnique (map line_key tables.order_lines)
  pub next_orders : All (λ row. 0 < row.next_order) tables.districts
  pub orders : All (IsOwnOrder number tables.customers) tables.orders
  pub new_orders : All (HasOrder tables.orders) tables.new_orders
  pub order_lines : All (HasOrderAndItem items tables.orders) tables.order_lines

-- no row of STOCK has the key (S_W_ID, S_I_ID) of another, and each item has its row
abbrev pub stock_key : Stock → ℕ × ℕ
stock_key row = (row.warehouse, row.item)

pub record HasOwnStock (items : List Item) (number : ℕ) (tables : Tables) : Type 0 where
  pub unique : AreUnique (map stock_key tables.stock)
  pub each : All (λ item. IsTrue (list_any (is_stock number item.id) tables.stock)) items

-- the numbers of a district's orders are below its next one
abbrev pub IsBehindOrders : List Order → District → Type 0
IsBehindOrders orders row = All (λ order. order.id < row.next_order) (orders_of row.warehouse row.id orders)

-- the rows are those of one warehouse, its orders and its stock are complete, and they meet the consistency conditions
pub record IsSoundWarehouse (items : List Item) (number : ℕ) (tables : Tables) : Type 0 where
  pub rows : IsOneWarehouse number tables
  pub orders : HasOwnOrders items number tables
  pub numbers : All (IsBehindOrders tables.orders) tables.districts
  pub stock : HasOwnStock items number tables
  pub conditions : MeetsOwnConditions tables
