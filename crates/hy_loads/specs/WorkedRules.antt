-- Worked examples of the rules of rows, which the checker computes: for each rule a list whose second row breaks it, or
-- is missing, so that the first fault of the list is row 2. A right second row is shown before the wrong ones, which
-- differ from it in one column.
use Rattle.std.specs.Prelude.{ℕ, ◌+◌, ◌<◌, ⊤, pos, Bool, true, IsTrue, ◌&&◌, IfSome, List, [], ◌∷◌, slice_get, codes, refl}
use Rattle.std.proofs.Common.{zero, suc, sym, inl, inr, arith, lit≤, lit<}
use Rattle.std.proofs.lemmas.Bool.{and_from, false≢true}
use Rattle.std.proofs.lemmas.Int.{ints}
use Rattle.hy_rows.specs.declared.warehouse.Warehouse.{Warehouse}
use Rattle.hy_rows.specs.declared.district.District.{District}
use Rattle.hy_rows.specs.declared.customer.Customer.{Customer}
use Rattle.hy_rows.specs.declared.item.Item.{Item}
use Rattle.hy_rows.specs.declared.stock.Stock.{Stock}
use Rattle.hy_rows.specs.declared.order.Order.{Order}
use Rattle.hy_rows.specs.declared.new_order.NewOrder.{NewOrder}
use Rattle.hy_rows.specs.declared.order_line.OrderLine.{OrderLine}
use Rattle.hy_rows.specs.declared.history.History.{History}
use Rattle.hy_rows.specs.Limits.{districts_per_warehouse, max_customers, max_items, max_lines, max_order, max_warehouses}
use Rattle.hy_rows.specs.Ranges.{IsBetween}
use Rattle.hy_rows.specs.Rows.{IsCustomerInRange, IsDistrictInRange, IsHistoryInRange, IsItemInRange, IsNewOrderInRange, IsOrderInRange, IsOrderLineInRange, IsStockInRange, IsWarehouseInRange}
use Rattle.hy_rows.specs.WorkedRows.{fresh_customer, fresh_district, fresh_warehouse}
use Rattle.hy_schema.specs.Loads.{HasAllCustomers, HasAllDistricts, HasAllStock, HasSome, IsCustomerAt, IsDistrictAt, IsFirstFault, IsHistoryAt, IsItemAt, IsNewOrderAt, IsOrderAt, IsOrderLineAt, IsStockAt, IsWarehouseAt}

-- a row of each table by the columns of its key, and a payment of customer 1 in district 1
abbrev warehouse : ℕ → Warehouse
warehouse number = record fresh_warehouse { id = number }

abbrev district : ℕ → ℕ → District
district warehouse number = record (fresh_district 1 (codes "D1")) { warehouse = warehouse; id = number }

abbrev customer : ℕ → ℕ → ℕ → Customer
customer warehouse district number =
    record (fresh_customer 1 1 (codes "F0001") (codes "BARBARBAR"))
    { warehouse = warehouse; district = district; id = number }

abbrev item : ℕ → Item
item number = record { id = number; image = 1; name = codes "ITEM"; price = 100 }

abbrev stock : ℕ → ℕ → Stock
stock warehouse item =
    record { item = item; warehouse = warehouse; quantity = 20; ytd = 0; order_count = 0; remote_count = 0 }

abbrev order : ℕ → Order
order number = record {
  id = number;
  district = 1;
  warehouse = 1;
  customer = 1;
  entry_date = 1;
  carrier = 0;
  line_count = 5;
  all_local = 1;
}

abbrev new_order : ℕ → NewOrder
new_order order = record { order = order; district = 1; warehouse = 1 }

abbrev line : ℕ → OrderLine
line number = record {
  order = 1;
  district = 1;
  warehouse = 1;
  number = number;
  item = 2;
  supply_warehouse = 1;
  delivery_date = 0;
  quantity = 1;
  amount = pos 100;
}

abbrev payment : History
payment = record {
  customer = 1;
  customer_district = 1;
  customer_warehouse = 1;
  district = 1;
  warehouse = 1;
  date = 1;
  amount = pos 1_000;
  information = codes "W1    D1";
}

-- each is in range where its key is: the values behind the key are numbers and texts, which compute
both : {one other : Bool} → IsTrue one → IsTrue other → IsTrue (one && other)
both {one} {other} first second = and_from one other first second

warehouse-in_range : (number : ℕ) → IsBetween 1 max_warehouses number → IsWarehouseInRange (warehouse number)
warehouse-in_range number between = both between refl

district-in_range : (warehouse number : ℕ) → IsBetween 1 max_warehouses warehouse
    → IsBetween 1 districts_per_warehouse number → IsDistrictInRange (district warehouse number)
district-in_range warehouse number warehouse_between between = both between (both warehouse_between refl)

customer-in_range : (warehouse district number : ℕ) → IsBetween 1 max_warehouses warehouse
    → IsBetween 1 districts_per_warehouse district → IsBetween 1 max_customers number
    → IsCustomerInRange (customer warehouse district number)
customer-in_range warehouse district number warehouse_between district_between between =
    both between (both district_between (both warehouse_between refl))

item-in_range : (number : ℕ) → IsBetween 1 max_items number → IsItemInRange (item number)
item-in_range number between = both between refl

stock-in_range : (warehouse item : ℕ) → IsBetween 1 max_warehouses warehouse → IsBetween 1 max_items item
    → IsStockInRange (stock warehouse item)
stock-in_range warehouse item warehouse_between between = both between (both warehouse_between refl)

order-in_range : (number : ℕ) → IsBetween 1 max_order number → IsOrderInRange (order number)
order-in_range number between = both between refl

new_order-in_range : (number : ℕ) → IsBetween 1 max_order number → IsNewOrderInRange (new_order number)
new_order-in_range number between = both between refl

line-in_range : (number : ℕ) → IsBetween 1 max_lines number → IsOrderLineInRange (line number)
line-in_range number between = both {one = true} refl (both {one = true} refl (both {one = true} refl (both between refl)))

payment-in_range : IsHistoryInRange payment
payment-in_range = refl

-- the second of two rows is the first fault where it is wrong, or missing
only_first : {Row : Type 0} (right : ℕ → Row → Type 0) (first : Row) (rows : List Row) → right 0 first
    → (place : ℕ) → place + 1 < 2 → IfSome (slice_get (first ∷ rows) place) (right place)
only_first right first rows good zero less = good
only_first right first rows good (suc place) less = absurd (omega (arith, less))

second_wrong : {Row : Type 0} {right : ℕ → Row → Type 0} {Whole : Type 0} {first second : Row}
    → right 0 first → ¬ (right 1 second) → IsFirstFault right Whole (first ∷ second ∷ []) 2
second_wrong {Row} {right} {Whole} {first} {second} good wrong = record {
  before = only_first right first (second ∷ []) good;
  counted = (lit< tt, lit≤ tt);
  fault = inr wrong;
}

second_missing : {Row : Type 0} {right : ℕ → Row → Type 0} {Whole : Type 0} {first : Row}
    → right 0 first → ¬ Whole → IsFirstFault right Whole (first ∷ []) 2
second_missing {Row} {right} {Whole} {first} good missing = record {
  before = only_first right first [] good;
  counted = (lit< tt, lit≤ tt);
  fault = (refl, missing);
}

-- a list without rows has its first fault at row 1, where it must have some
first_missing : {Row : Type 0} {right : ℕ → Row → Type 0} {Whole : Type 0} → ¬ Whole → IsFirstFault right Whole [] 1
first_missing missing = record {
  before = λ place less. absurd (omega (arith, less));
  counted = (lit< tt, lit≤ tt);
  fault = (refl, missing);
}

-- WAREHOUSE: behind warehouse 1 stands warehouse 2
abbrev WarehouseFault : List Warehouse → ℕ → Type 0
WarehouseFault rows number = IsFirstFault IsWarehouseAt (HasSome rows) rows number

warehouse_1-right : IsWarehouseAt 0 (warehouse 1)
warehouse_1-right = (warehouse-in_range 1 refl, refl)

pub warehouse_2-right : IsWarehouseAt 1 (warehouse 2)
warehouse_2-right = (warehouse-in_range 2 refl, refl)

-- and neither warehouse 3 nor warehouse 1 again; one warehouse must be there
pub warehouse-gap : WarehouseFault (warehouse 1 ∷ warehouse 3 ∷ []) 2
warehouse-gap = second_wrong warehouse_1-right (λ right. omega (arith, right.1))

pub warehouse-twice : WarehouseFault (warehouse 1 ∷ warehouse 1 ∷ []) 2
warehouse-twice = second_wrong warehouse_1-right (λ right. omega (arith, right.1))

pub warehouse-missing : WarehouseFault [] 1
warehouse-missing = first_missing (λ whole. omega (arith, whole))

-- DISTRICT, in a load of one warehouse: behind district 1 stands district 2
abbrev DistrictFault : List District → ℕ → Type 0
DistrictFault rows number = IsFirstFault (IsDistrictAt 1) (HasAllDistricts 1 rows) rows number

district_1-right : IsDistrictAt 1 0 (district 1 1)
district_1-right = (district-in_range 1 1 refl refl, refl, refl, lit≤ tt)

pub district_2-right : IsDistrictAt 1 1 (district 1 2)
district_2-right = (district-in_range 1 2 refl refl, refl, refl, lit≤ tt)

-- and neither district 3, nor a district of warehouse 2, nor none
pub district-gap : DistrictFault (district 1 1 ∷ district 1 3 ∷ []) 2
district-gap = second_wrong district_1-right (λ right. omega (arith, right.2))

pub district-elsewhere : DistrictFault (district 1 1 ∷ district 2 2 ∷ []) 2
district-elsewhere = second_wrong district_1-right (λ right. omega (arith, right.1))

pub district-missing : DistrictFault (district 1 1 ∷ []) 2
district-missing = second_missing district_1-right (λ whole. omega (arith, whole))

-- behind ten districts stands district 1 of warehouse 2, where there are two warehouses, and nothing where there is one
pub district-next_warehouse : IsDistrictAt 2 10 (district 2 1)
district-next_warehouse = (district-in_range 2 1 refl refl, refl, refl, lit≤ tt)

pub district-no_warehouse : ¬ (IsDistrictAt 1 10 (district 2 1))
district-no_warehouse right = omega (arith, right.3)

-- CUSTOMER, in a load of one warehouse: behind customer 1 of district 1 stands customer 2, or customer 1 of district 2
abbrev CustomerFault : List Customer → ℕ → Type 0
CustomerFault rows number = IsFirstFault (IsCustomerAt 1 rows) (HasAllCustomers 1 rows) rows number

customer_1-right : (rows : List Customer) → IsCustomerAt 1 (customer 1 1 1 ∷ rows) 0 (customer 1 1 1)
customer_1-right rows = (customer-in_range 1 1 1 refl refl refl, lit≤ tt, (refl, refl, refl))

pub customer_2-right : IsCustomerAt 1 (customer 1 1 1 ∷ customer 1 1 2 ∷ []) 1 (customer 1 1 2)
customer_2-right = (customer-in_range 1 1 2 refl refl refl, lit≤ tt, inl (refl, refl, refl))

pub customer-next_district : IsCustomerAt 1 (customer 1 1 1 ∷ customer 1 2 1 ∷ []) 1 (customer 1 2 1)
customer-next_district = (customer-in_range 1 2 1 refl refl refl, lit≤ tt, inr (inl (refl, refl), refl))

-- and neither customer 3, nor customer 2 of district 2, nor a customer of district 3, nor none
pub customer-gap : CustomerFault (customer 1 1 1 ∷ customer 1 1 3 ∷ []) 2
customer-gap = second_wrong (customer_1-right (customer 1 1 3 ∷ [])) (λ right. elim (right.2) [
  | inl same ↦ omega (arith, same.2)
  | inr next ↦ omega (arith, next.1)
])

pub customer-not_first : CustomerFault (customer 1 1 1 ∷ customer 1 2 2 ∷ []) 2
customer-not_first = second_wrong (customer_1-right (customer 1 2 2 ∷ [])) (λ right. elim (right.2) [
  | inl same ↦ omega (arith, same.1)
  | inr next ↦ omega (arith, next.1)
])

pub customer-district_gap : CustomerFault (customer 1 1 1 ∷ customer 1 3 1 ∷ []) 2
customer-district_gap = second_wrong (customer_1-right (customer 1 3 1 ∷ [])) (λ right. elim (right.2) [
  | inl same ↦ omega (arith, same.1)
  | inr next ↦ elim (next.0) [
    | inl district ↦ omega (arith, district.1)
    | inr district ↦ omega (arith, district.0)
  ]
])

pub customer-missing : CustomerFault (customer 1 1 1 ∷ []) 2
customer-missing = second_missing (customer_1-right []) (λ whole. omega (arith, whole.1))

-- behind a customer of the last district stands customer 1 of warehouse 2, where there are two warehouses
pub customer-next_warehouse : IsCustomerAt 2 (customer 1 10 1 ∷ customer 2 1 1 ∷ []) 1 (customer 2 1 1)
customer-next_warehouse = (customer-in_range 2 1 1 refl refl refl, lit≤ tt, inr (inr (refl, refl, refl), refl))

pub customer-no_warehouse : ¬ (IsCustomerAt 1 (customer 1 10 1 ∷ customer 2 1 1 ∷ []) 1 (customer 2 1 1))
customer-no_warehouse right = omega (arith, right.1)

-- ITEM: behind item 1 stands item 2
abbrev ItemFault : List Item → ℕ → Type 0
ItemFault rows number = IsFirstFault IsItemAt (HasSome rows) rows number

item_1-right : IsItemAt 0 (item 1)
item_1-right = (item-in_range 1 refl, refl)

pub item_2-right : IsItemAt 1 (item 2)
item_2-right = (item-in_range 2 refl, refl)

-- and not item 3; one item must be there
pub item-gap : ItemFault (item 1 ∷ item 3 ∷ []) 2
item-gap = second_wrong item_1-right (λ right. omega (arith, right.1))

pub item-missing : ItemFault [] 1
item-missing = first_missing (λ whole. omega (arith, whole))

-- STOCK, in a load of one warehouse and two items: behind the stock of item 1 stands that of item 2
abbrev StockFault : List Stock → ℕ → Type 0
StockFault rows number = IsFirstFault (IsStockAt 1 2) (HasAllStock 1 2 rows) rows number

stock_1-right : IsStockAt 1 2 0 (stock 1 1)
stock_1-right = (stock-in_range 1 1 refl refl, refl, refl, lit≤ tt)

pub stock_2-right : IsStockAt 1 2 1 (stock 1 2)
stock_2-right = (stock-in_range 1 2 refl refl, refl, refl, lit≤ tt)

-- and neither that of item 1 again, nor that of item 2 in warehouse 2, nor none
pub stock-twice : StockFault (stock 1 1 ∷ stock 1 1 ∷ []) 2
stock-twice = second_wrong stock_1-right (λ right. omega (arith, right.2))

pub stock-elsewhere : StockFault (stock 1 1 ∷ stock 2 2 ∷ []) 2
stock-elsewhere = second_wrong stock_1-right (λ right. omega (arith, right.1))

pub stock-missing : StockFault (stock 1 1 ∷ []) 2
stock-missing = second_missing stock_1-right (λ whole. omega (arith, whole))

-- behind the stock of both stands that of item 1 in warehouse 2, where there are two warehouses, and nothing where
-- there is one
pub stock-next_warehouse : IsStockAt 2 2 2 (stock 2 1)
stock-next_warehouse = (stock-in_range 2 1 refl refl, refl, refl, lit≤ tt)

pub stock-no_warehouse : ¬ (IsStockAt 1 2 2 (stock 2 1))
stock-no_warehouse right = omega (arith, right.3)

-- ORDER, in a load with district 1 and customer 1 of it and of district 2: behind order 1 stands order 2
abbrev districts : List District
districts = district 1 1 ∷ []

abbrev customers : List Customer
customers = customer 1 1 1 ∷ customer 1 2 1 ∷ []

abbrev OrderFault : List Order → ℕ → Type 0
OrderFault rows number = IsFirstFault (IsOrderAt districts customers rows) ⊤ rows number

order_1-right : (rows : List Order) → IsOrderAt districts customers (order 1 ∷ rows) 0 (order 1)
order_1-right rows = (order-in_range 1 refl, refl, refl, refl)

pub order_2-right : IsOrderAt districts customers (order 1 ∷ order 2 ∷ []) 1 (order 2)
order_2-right = (order-in_range 2 refl, refl, refl, refl)

-- and neither order 1 again, nor order 2 of district 2, which isn't there, nor that of customer 2, who isn't
pub order-twice : OrderFault (order 1 ∷ order 1 ∷ []) 2
order-twice = second_wrong (order_1-right (order 1 ∷ [])) (λ right. false≢true (sym right.1))

pub order-no_district : OrderFault (order 1 ∷ record (order 2) { district = 2 } ∷ []) 2
order-no_district = second_wrong (order_1-right (record (order 2) { district = 2 } ∷ [])) (λ right. false≢true right.2)

pub order-no_customer : OrderFault (order 1 ∷ record (order 2) { customer = 2 } ∷ []) 2
order-no_customer = second_wrong (order_1-right (record (order 2) { customer = 2 } ∷ [])) (λ right. false≢true right.3)

-- NEW-ORDER, in a load with orders 1 and 2: behind new order 1 stands new order 2
abbrev orders : List Order
orders = order 1 ∷ order 2 ∷ []

abbrev NewOrderFault : List NewOrder → ℕ → Type 0
NewOrderFault rows number = IsFirstFault (IsNewOrderAt orders rows) ⊤ rows number

new_order_1-right : (rows : List NewOrder) → IsNewOrderAt orders (new_order 1 ∷ rows) 0 (new_order 1)
new_order_1-right rows = (new_order-in_range 1 refl, refl, refl)

pub new_order_2-right : IsNewOrderAt orders (new_order 1 ∷ new_order 2 ∷ []) 1 (new_order 2)
new_order_2-right = (new_order-in_range 2 refl, refl, refl)

-- and neither new order 1 again, nor one of order 3, which isn't there
pub new_order-twice : NewOrderFault (new_order 1 ∷ new_order 1 ∷ []) 2
new_order-twice = second_wrong (new_order_1-right (new_order 1 ∷ [])) (λ right. false≢true (sym right.1))

pub new_order-no_order : NewOrderFault (new_order 1 ∷ new_order 3 ∷ []) 2
new_order-no_order = second_wrong (new_order_1-right (new_order 3 ∷ [])) (λ right. false≢true right.2)

-- ORDER-LINE, in a load with warehouse 1, items 1 and 2, and orders 1 and 2: behind line 1 stands line 2
abbrev OrderLineFault : List OrderLine → ℕ → Type 0
OrderLineFault rows number =
    IsFirstFault (IsOrderLineAt (warehouse 1 ∷ []) (item 1 ∷ item 2 ∷ []) orders rows) ⊤ rows number

line_1-right : (rows : List OrderLine)
    → IsOrderLineAt (warehouse 1 ∷ []) (item 1 ∷ item 2 ∷ []) orders (line 1 ∷ rows) 0 (line 1)
line_1-right rows = (line-in_range 1 refl, refl, refl, refl, refl)

pub line_2-right : IsOrderLineAt (warehouse 1 ∷ []) (item 1 ∷ item 2 ∷ []) orders (line 1 ∷ line 2 ∷ []) 1 (line 2)
line_2-right = (line-in_range 2 refl, refl, refl, refl, refl)

-- and neither line 1 again, nor a line of order 3, of item 3 or from warehouse 2, which aren't there
pub line-twice : OrderLineFault (line 1 ∷ line 1 ∷ []) 2
line-twice = second_wrong (line_1-right (line 1 ∷ [])) (λ right. false≢true (sym right.1))

pub line-no_order : OrderLineFault (line 1 ∷ record (line 2) { order = 3 } ∷ []) 2
line-no_order = second_wrong (line_1-right (record (line 2) { order = 3 } ∷ [])) (λ right. false≢true right.2)

pub line-no_item : OrderLineFault (line 1 ∷ record (line 2) { item = 3 } ∷ []) 2
line-no_item = second_wrong (line_1-right (record (line 2) { item = 3 } ∷ [])) (λ right. false≢true right.3)

pub line-no_supplier : OrderLineFault (line 1 ∷ record (line 2) { supply_warehouse = 2 } ∷ []) 2
line-no_supplier =
    second_wrong (line_1-right (record (line 2) { supply_warehouse = 2 } ∷ [])) (λ right. false≢true right.4)

-- HISTORY, in a load with the districts and customers of ORDER: the same payment may stand there twice
abbrev HistoryFault : List History → ℕ → Type 0
HistoryFault rows number = IsFirstFault (IsHistoryAt districts customers) ⊤ rows number

pub payment-right : (place : ℕ) → IsHistoryAt districts customers place payment
payment-right place = (payment-in_range, refl, refl)

-- but none in district 2, which isn't there, nor by customer 2, who isn't
pub payment-no_district : HistoryFault (payment ∷ record payment { district = 2 } ∷ []) 2
payment-no_district = second_wrong (payment-right 0) (λ right. false≢true right.1)

pub payment-no_customer : HistoryFault (payment ∷ record payment { customer = 2 } ∷ []) 2
payment-no_customer = second_wrong (payment-right 0) (λ right. false≢true right.2)
