-- Which lists of rows are a load, and where lists that are none have their first fault, in the order of the files:
-- WAREHOUSE, DISTRICT, CUSTOMER, ITEM, STOCK, ORDER, NEW-ORDER, ORDER-LINE, HISTORY, and then the consistency conditions.
-- Places count from 0, the numbers of rows in a fault from 1.
use Rattle.std.specs.Prelude.{◌≡◌, ℕ, ◌+◌, ◌-◌, ◌*◌, ◌/◌, ◌%◌, ◌<◌, ◌≤◌, ◌==◌, ◌⊎◌, ⊤, if◌then◌else◌, List, length, take, Option, None, Some, slice_get, IfSome, MatchOption, IsFalse, IsSomeAnd, IsTrue}
use Rattle.std.specs.List.{list_any}
use Rattle.hy_rows.specs.declared.warehouse.Warehouse.{Warehouse}
use Rattle.hy_rows.specs.declared.district.District.{District}
use Rattle.hy_rows.specs.declared.customer.Customer.{Customer}
use Rattle.hy_rows.specs.declared.item.Item.{Item}
use Rattle.hy_rows.specs.declared.stock.Stock.{Stock}
use Rattle.hy_rows.specs.declared.order.Order.{Order}
use Rattle.hy_rows.specs.declared.new_order.NewOrder.{NewOrder}
use Rattle.hy_rows.specs.declared.order_line.OrderLine.{OrderLine}
use Rattle.hy_rows.specs.declared.history.History.{History}
use Rattle.hy_schema.specs.declared.refusal.LoadFault.{LoadFault}
use Rattle.hy_schema.specs.declared.refusal.LoadFault.TheVariants as faults
use Rattle.hy_rows.specs.declared.catalogue.Table.{Table}
use Rattle.hy_rows.specs.declared.catalogue.Table.TheVariants as table
use Rattle.hy_schema.specs.declared.files.FileEnd.{FileEnd}
use Rattle.hy_schema.specs.declared.files.FileEnd.TheVariants as end
use Rattle.hy_rows.specs.Limits.{districts_per_warehouse}
use Rattle.hy_rows.specs.Finding.{is_customer, is_district, is_warehouse}
use Rattle.hy_rows.specs.Tables.{Lists, Tables, same_for_all}
use Rattle.hy_rows.specs.declared.tables.PerTable.{PerTable}
use Rattle.hy_rows.specs.Rows.{IsWarehouseInRange, IsDistrictInRange, IsCustomerInRange, IsItemInRange, IsStockInRange, IsOrderInRange, IsNewOrderInRange, IsOrderLineInRange, IsHistoryInRange}
use Rattle.hy_schema.specs.Related.{is_item, is_line, is_new_order, is_order}
use Rattle.hy_schema.specs.Conditions.{first_broken}

-- how many rows a list may have
abbrev pub max_rows : ℕ
max_rows = 100_000_000

-- WAREHOUSE: the row at a place has the next number
abbrev pub IsWarehouseAt : ℕ → Warehouse → Type 0
IsWarehouseAt place row = IsWarehouseInRange row × (row.id ≡ place + 1)

-- DISTRICT: `districts_per_warehouse` rows for each warehouse, in rising order of (D_W_ID, D_ID)
abbrev pub IsDistrictAt : ℕ → ℕ → District → Type 0
IsDistrictAt warehouses place row =
    IsDistrictInRange row
    × (row.warehouse ≡ place / districts_per_warehouse + 1) × (row.id ≡ place % districts_per_warehouse + 1)
    × (row.warehouse ≤ warehouses)

-- CUSTOMER: the next district of the same warehouse, or behind the last one district 1 of the next warehouse
abbrev pub IsNextDistrict : Customer → Customer → Type 0
IsNextDistrict before row =
    ((row.warehouse ≡ before.warehouse) × (row.district ≡ before.district + 1))
    ⊎ ((before.district ≡ districts_per_warehouse) × (row.warehouse ≡ before.warehouse + 1) × (row.district ≡ 1))

-- CUSTOMER: behind a customer stands the next number of the same district, or customer 1 of the next district
abbrev pub IsCustomerAfter : Option Customer → Customer → Type 0
IsCustomerAfter None row = (row.warehouse ≡ 1) × (row.district ≡ 1) × (row.id ≡ 1)
IsCustomerAfter (Some before) row =
    ((row.warehouse ≡ before.warehouse) × (row.district ≡ before.district) × (row.id ≡ before.id + 1))
    ⊎ (IsNextDistrict before row × (row.id ≡ 1))

-- the row before a place
abbrev pub row_before : {Row : Type 0} → List Row → ℕ → Option Row
row_before rows place = if place == 0 then None else slice_get rows (place - 1)

-- CUSTOMER: the warehouse is there, and the row is the next one behind the row before it
abbrev pub IsCustomerAt : ℕ → List Customer → ℕ → Customer → Type 0
IsCustomerAt warehouses rows place row =
    IsCustomerInRange row × (row.warehouse ≤ warehouses) × IsCustomerAfter (row_before rows place) row

-- ITEM: the row at a place has the next number
abbrev pub IsItemAt : ℕ → Item → Type 0
IsItemAt place row = IsItemInRange row × (row.id ≡ place + 1)

-- STOCK: one row for each warehouse and item, in rising order of (S_W_ID, S_I_ID)
abbrev pub IsStockAt : ℕ → ℕ → ℕ → Stock → Type 0
IsStockAt warehouses items place row =
    IsStockInRange row
    × (row.warehouse ≡ place / items + 1) × (row.item ≡ place % items + 1) × (row.warehouse ≤ warehouses)

-- ORDER: the key is new; the district and the customer are there
abbrev pub IsOrderAt : List District → List Customer → List Order → ℕ → Order → Type 0
IsOrderAt districts customers rows place row =
    IsOrderInRange row
    × IsFalse (list_any (is_order row.warehouse row.district row.id) (take place rows))
    × IsTrue (list_any (is_district row.warehouse row.district) districts)
    × IsTrue (list_any (is_customer row.warehouse row.district row.customer) customers)

-- NEW-ORDER: the key is new; the order is there
abbrev pub IsNewOrderAt : List Order → List NewOrder → ℕ → NewOrder → Type 0
IsNewOrderAt orders rows place row =
    IsNewOrderInRange row
    × IsFalse (list_any (is_new_order row.warehouse row.district row.order) (take place rows))
    × IsTrue (list_any (is_order row.warehouse row.district row.order) orders)

-- ORDER-LINE: the key is new; the order, the item and the supplying warehouse are there
abbrev pub IsOrderLineAt : List Warehouse → List Item → List Order → List OrderLine → ℕ → OrderLine → Type 0
IsOrderLineAt warehouses items orders rows place row =
    IsOrderLineInRange row
    × IsFalse (list_any (is_line row.warehouse row.district row.order row.number) (take place rows))
    × IsTrue (list_any (is_order row.warehouse row.district row.order) orders)
    × IsTrue (list_any (is_item row.item) items)
    × IsTrue (list_any (is_warehouse row.supply_warehouse) warehouses)

-- HISTORY: the district and the customer are there
abbrev pub IsHistoryAt : List District → List Customer → ℕ → History → Type 0
IsHistoryAt districts customers place row =
    IsHistoryInRange row
    × IsTrue (list_any (is_district row.warehouse row.district) districts)
    × IsTrue (list_any (is_customer row.customer_warehouse row.customer_district row.customer) customers)

-- no row is missing at the end: WAREHOUSE and ITEM have one at least, DISTRICT and STOCK one for each warehouse and
-- district number or item, and CUSTOMER ends with the last district
abbrev pub HasSome : {Row : Type 0} → List Row → Type 0
HasSome rows = 0 < length rows

abbrev pub HasAllDistricts : ℕ → List District → Type 0
HasAllDistricts warehouses rows = districts_per_warehouse * warehouses ≤ length rows

abbrev pub HasAllCustomers : ℕ → List Customer → Type 0
HasAllCustomers warehouses rows =
    IsSomeAnd (row_before rows (length rows))
    (λ row. (row.warehouse ≡ warehouses) × (row.district ≡ districts_per_warehouse))

abbrev pub HasAllStock : ℕ → ℕ → List Stock → Type 0
HasAllStock warehouses items rows = items * warehouses ≤ length rows

-- each row is right at its place, there is room for it, and none is missing at the end
pub record IsRight {Row : Type 0} (right : ℕ → Row → Type 0) (Whole : Type 0) (rows : List Row) : Type 0 where
  pub each : (place : ℕ) → IfSome (slice_get rows place) (right place)
  pub few : length rows ≤ max_rows
  pub whole : Whole

-- the rows before row `number` are right; it is wrong, one too many, or missing at the end
pub record IsFirstFault {Row : Type 0} (right : ℕ → Row → Type 0) (Whole : Type 0) (rows : List Row) (number : ℕ)
    : Type 0 where
  pub before : (place : ℕ) → place + 1 < number → IfSome (slice_get rows place) (right place)
  pub counted : (0 < number) × (number ≤ max_rows + 1)
  pub fault :
      MatchOption (slice_get rows (number - 1)) ((number ≡ length rows + 1) × ¬ Whole)
      (λ row. (number ≡ max_rows + 1) ⊎ ¬ (right (number - 1) row))

-- the first fault of a list: where its file has no header this is row 0, and where it was cut at a record that is no
-- row, that record, behind the rows before it
abbrev pub IsFaultOf : {Row : Type 0} → FileEnd → (ℕ → Row → Type 0) → Type 0 → List Row → ℕ → Type 0
IsFaultOf end.Whole right Whole rows number = IsFirstFault right Whole rows number
IsFaultOf end.BadRecord right Whole rows number = IsFirstFault right ⊥ rows number
IsFaultOf end.BadHeader right Whole rows number = number ≡ 0

-- a fault is the first one of this list, or the list is right and the fault stands in what follows
abbrev pub IsFirstIn : {Row : Type 0} → Table → FileEnd → (ℕ → Row → Type 0) → Type 0 → List Row → LoadFault → Type 0
    → Type 0
IsFirstIn table reached right Whole rows fault Later =
    ((number : ℕ) × (fault ≡ faults.Row table number) × IsFaultOf reached right Whole rows number)
    ⊎ ((reached ≡ end.Whole) × IsRight right Whole rows × Later)

-- each list of a load is right
abbrev pub AreWarehouses : Tables → Type 0
AreWarehouses tables = IsRight IsWarehouseAt (HasSome tables.warehouses) tables.warehouses

abbrev pub AreDistricts : Tables → Type 0
AreDistricts tables =
    let warehouses : ℕ = length tables.warehouses in
    IsRight (IsDistrictAt warehouses) (HasAllDistricts warehouses tables.districts) tables.districts

abbrev pub AreCustomers : Tables → Type 0
AreCustomers tables =
    let warehouses : ℕ = length tables.warehouses in
    IsRight (IsCustomerAt warehouses tables.customers) (HasAllCustomers warehouses tables.customers) tables.customers

abbrev pub AreItems : Lists → Type 0
AreItems lists = IsRight IsItemAt (HasSome lists.items) lists.items

abbrev pub AreStock : Lists → Type 0
AreStock lists =
    let warehouses : ℕ = length lists.tables.warehouses in
    let items : ℕ = length lists.items in
    IsRight (IsStockAt warehouses items) (HasAllStock warehouses items lists.tables.stock) lists.tables.stock

abbrev pub AreOrders : Tables → Type 0
AreOrders tables = IsRight (IsOrderAt tables.districts tables.customers tables.orders) ⊤ tables.orders

abbrev pub AreNewOrders : Tables → Type 0
AreNewOrders tables = IsRight (IsNewOrderAt tables.orders tables.new_orders) ⊤ tables.new_orders

abbrev pub AreOrderLines : Lists → Type 0
AreOrderLines lists =
    let tables : Tables = lists.tables in
    IsRight (IsOrderLineAt tables.warehouses lists.items tables.orders tables.order_lines) ⊤ tables.order_lines

abbrev pub AreHistory : Tables → Type 0
AreHistory tables = IsRight (IsHistoryAt tables.districts tables.customers) ⊤ tables.history

-- the lists are a load: each is right, and the rows meet the consistency conditions (TPC-C clause 3.3.2)
pub record IsLoad (lists : Lists) : Type 0 where
  pub warehouses : AreWarehouses lists.tables
  pub districts : AreDistricts lists.tables
  pub customers : AreCustomers lists.tables
  pub items : AreItems lists
  pub stock : AreStock lists
  pub orders : AreOrders lists.tables
  pub new_orders : AreNewOrders lists.tables
  pub order_lines : AreOrderLines lists
  pub history : AreHistory lists.tables
  pub conditions : first_broken lists.tables ≡ None

-- each file was read to its end
abbrev pub all_whole : PerTable FileEnd
all_whole = same_for_all end.Whole

-- the first fault of lists whose files were read so far. Where all lists up to STOCK are right, it is one of the lists
-- that gain rows, or else the first broken condition
abbrev pub HasFaultInOrders : PerTable FileEnd → Lists → LoadFault → Type 0
HasFaultInOrders ends lists fault =
    let tables : Tables = lists.tables in
    IsFirstIn table.Order ends.orders (IsOrderAt tables.districts tables.customers tables.orders) ⊤ tables.orders fault
    (IsFirstIn table.NewOrder ends.new_orders (IsNewOrderAt tables.orders tables.new_orders) ⊤ tables.new_orders fault
    (IsFirstIn table.OrderLine ends.order_lines
    (IsOrderLineAt tables.warehouses lists.items tables.orders tables.order_lines) ⊤ tables.order_lines fault
    (IsFirstIn table.History ends.history (IsHistoryAt tables.districts tables.customers) ⊤ tables.history fault
    ((number : ℕ) × (fault ≡ faults.Condition number) × (first_broken tables ≡ Some number)))))

abbrev pub HasFault : PerTable FileEnd → Lists → LoadFault → Type 0
HasFault ends lists fault =
    let tables : Tables = lists.tables in
    let warehouses : ℕ = length tables.warehouses in
    let items : ℕ = length lists.items in
    IsFirstIn table.Warehouse ends.warehouses IsWarehouseAt (HasSome tables.warehouses) tables.warehouses fault
    (IsFirstIn table.District ends.districts (IsDistrictAt warehouses) (HasAllDistricts warehouses tables.districts)
    tables.districts fault
    (IsFirstIn table.Customer ends.customers (IsCustomerAt warehouses tables.customers)
    (HasAllCustomers warehouses tables.customers) tables.customers fault
    (IsFirstIn table.Item ends.items IsItemAt (HasSome lists.items) lists.items fault
    (IsFirstIn table.Stock ends.stock (IsStockAt warehouses items) (HasAllStock warehouses items tables.stock)
    tables.stock fault
    (HasFaultInOrders ends lists fault)))))
