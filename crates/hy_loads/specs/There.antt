-- Which keys are there: what a set of keys, or a number of rows, says of the rows of a list.
use Rattle.std.specs.Prelude.{◌≡◌, ◌↔◌, ℕ, Bool, List, length, IsTrue}
use Rattle.std.specs.List.{list_any}
use Rattle.indexmap.specs.IndexSet.{IndexSet, contains}
use Rattle.hy_rows.specs.declared.warehouse.Warehouse.{Warehouse}
use Rattle.hy_rows.specs.declared.district.District.{District}
use Rattle.hy_rows.specs.declared.customer.Customer.{Customer}
use Rattle.hy_rows.specs.declared.item.Item.{Item}
use Rattle.hy_rows.specs.declared.order.Order.{Order}
use Rattle.hy_rows.specs.declared.new_order.NewOrder.{NewOrder}
use Rattle.hy_rows.specs.declared.order_line.OrderLine.{OrderLine}
use Rattle.hy_rows.specs.Finding.{is_customer, is_district, is_warehouse}
use Rattle.hy_rows.specs.Limits.{districts_per_warehouse}
use Rattle.hy_rows.specs.Ranges.{IsBetween}
use Rattle.hy_rows.specs.Rows.{IsOrderInRange, IsOrderLineInRange}
use Rattle.hy_schema.specs.Related.{is_item, is_line, is_new_order, is_order}
use Rattle.hy_conditions.specs.declared.keys.CustomerId.{CustomerId}
use Rattle.hy_conditions.specs.declared.keys.OrderId.{OrderId}
use Rattle.hy_conditions.specs.Keys.{same_customer, same_order}
use Rattle.hy_loads.specs.declared.keys.LineId.{LineId}
use Rattle.hy_loads.specs.declared.orders.Customers.{Customers}
use Rattle.hy_loads.specs.declared.orders.OrderLineRule.{OrderLineRule}
use Rattle.hy_loads.specs.declared.orders.Orders.{Orders}

-- the rows with a key
abbrev pub is_customer_by : CustomerId → Customer → Bool
is_customer_by key row = is_customer key.district.warehouse key.district.district key.customer row

abbrev pub is_order_with : OrderId → Order → Bool
is_order_with key row = is_order key.district.warehouse key.district.district key.order row

abbrev pub is_new_order_with : OrderId → NewOrder → Bool
is_new_order_with key row = is_new_order key.district.warehouse key.district.district key.order row

abbrev pub is_line_with : LineId → OrderLine → Bool
is_line_with key row =
    is_line key.order.district.warehouse key.order.district.district key.order.order key.number row

-- a set has exactly the keys of some rows
abbrev pub HasKeys : {Key Row Hasher : Type 0} → (Key → Key → Bool) → (Key → Row → Bool) → IndexSet Key Hasher
    → List Row → Type 0
HasKeys {Key} same is_with keys rows = (key : Key) → contains same keys key ≡ list_any (is_with key) rows

-- there are as many warehouses and items, by number, and the districts of as many warehouses
abbrev pub HasWarehouses : ℕ → List Warehouse → Type 0
HasWarehouses count rows = (number : ℕ) → IsTrue (list_any (is_warehouse number) rows) ↔ IsBetween 1 count number

abbrev pub HasItems : ℕ → List Item → Type 0
HasItems count rows = (number : ℕ) → IsTrue (list_any (is_item number) rows) ↔ IsBetween 1 count number

abbrev pub HasDistricts : ℕ → List District → Type 0
HasDistricts count rows =
    (warehouse number : ℕ) → IsTrue (list_any (is_district warehouse number) rows)
    ↔ (IsBetween 1 count warehouse × IsBetween 1 districts_per_warehouse number)

-- what is known of the districts and customers, and of the orders
pub record HasCustomers (known : Customers) : Type 0 where
  pub districts : HasDistricts known.warehouses known.districts.now
  pub customers : HasKeys same_customer is_customer_by known.keys.now known.rows.now

-- a row of ORDER is in range, and its district and customer are there
abbrev pub IsOrderOf : Customers → Order → Type 0
IsOrderOf known row = IsOrderInRange row × IsTrue (list_any (is_district row.warehouse row.district) known.districts.now)
    × IsTrue (list_any (is_customer row.warehouse row.district row.customer) known.rows.now)

abbrev pub HasOrders : Orders → Type 0
HasOrders known = HasKeys same_order is_order_with known.keys.now known.rows.now

-- what is known where order lines are tested
pub record KnowsLines (rule : OrderLineRule) : Type 0 where
  pub orders : HasOrders rule.orders
  pub warehouses : HasWarehouses (length rule.warehouses.now) rule.warehouses.now
  pub items : HasItems (length rule.items.now) rule.items.now

-- a row of ORDER-LINE is in range, and its order, item and supplying warehouse are there
abbrev pub IsLineOf : OrderLineRule → OrderLine → Type 0
IsLineOf known row = IsOrderLineInRange row × IsTrue (list_any (is_order row.warehouse row.district row.order) known.orders.rows.now)
    × IsTrue (list_any (is_item row.item) known.items.now)
    × IsTrue (list_any (is_warehouse row.supply_warehouse) known.warehouses.now)
