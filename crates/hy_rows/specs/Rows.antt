-- The rows of each table: the values of a row in the order of its table's columns, the row with some values, the bytes of
-- a row and the row that bytes say, and whether a load may have a row.
use Rattle.std.specs.Prelude.{ℕ, ℤ, pos, nat_abs, slice_index_or, List, [], ◌∷◌, IsTrue}
use Rattle.hy_rows.specs.Catalogue.{columns_of}
use Rattle.hy_rows.specs.Columns.{are_allowed, row_bytes, values_in}
use Rattle.hy_rows.specs.declared.catalogue.Table.TheVariants as tables
use Rattle.hy_rows.specs.declared.value.Value.{Value}
use Rattle.hy_rows.specs.declared.value.Value.TheVariants.{Text, Whole}
use Rattle.hy_rows.specs.declared.warehouse.Warehouse.{Warehouse}
use Rattle.hy_rows.specs.declared.district.District.{District}
use Rattle.hy_rows.specs.declared.customer.Customer.{Customer}
use Rattle.hy_rows.specs.declared.history.History.{History}
use Rattle.hy_rows.specs.declared.new_order.NewOrder.{NewOrder}
use Rattle.hy_rows.specs.declared.order.Order.{Order}
use Rattle.hy_rows.specs.declared.order_line.OrderLine.{OrderLine}
use Rattle.hy_rows.specs.declared.stock.Stock.{Stock}
use Rattle.hy_rows.specs.declared.item.Item.{Item}

abbrev pub number : ℕ → Value
number value = Whole (pos value)

-- the value at a place of a row
abbrev pub value_at : List Value → ℕ → Value
value_at row place = slice_index_or row place (number 0)

-- the number that a value is, and its text
abbrev pub whole_in : Value → ℤ
whole_in (Whole number) = number
whole_in (Text text) = pos 0

abbrev pub text_in : Value → List ℕ
text_in (Whole number) = []
text_in (Text text) = text

-- those at a place of a row
abbrev pub number_of : List Value → ℕ → ℕ
number_of row place = nat_abs (whole_in (value_at row place))

abbrev pub signed_of : List Value → ℕ → ℤ
signed_of row place = whole_in (value_at row place)

abbrev pub text_of : List Value → ℕ → List ℕ
text_of row place = text_in (value_at row place)

-- WAREHOUSE
abbrev pub warehouse_values : Warehouse → List Value
warehouse_values row = number row.id ∷ Text row.name ∷ number row.tax ∷ Whole row.ytd ∷ []

abbrev pub warehouse_with : List Value → Warehouse
warehouse_with row = record {
  id = number_of row 0;
  name = text_of row 1;
  tax = number_of row 2;
  ytd = signed_of row 3;
}

abbrev pub warehouse_bytes : Warehouse → List ℕ
warehouse_bytes row = row_bytes (columns_of tables.Warehouse) (warehouse_values row)

abbrev pub warehouse_of : List ℕ → Warehouse
warehouse_of bytes = warehouse_with (values_in (columns_of tables.Warehouse) bytes)

abbrev pub IsWarehouseInRange : Warehouse → Type 0
IsWarehouseInRange row = IsTrue (are_allowed (columns_of tables.Warehouse) (warehouse_values row))

-- DISTRICT
abbrev pub district_values : District → List Value
district_values row = number row.id ∷ number row.warehouse ∷ Text row.name ∷ number row.tax ∷ Whole row.ytd ∷
    number row.next_order ∷ []

abbrev pub district_with : List Value → District
district_with row = record {
  id = number_of row 0;
  warehouse = number_of row 1;
  name = text_of row 2;
  tax = number_of row 3;
  ytd = signed_of row 4;
  next_order = number_of row 5;
}

abbrev pub district_bytes : District → List ℕ
district_bytes row = row_bytes (columns_of tables.District) (district_values row)

abbrev pub district_of : List ℕ → District
district_of bytes = district_with (values_in (columns_of tables.District) bytes)

abbrev pub IsDistrictInRange : District → Type 0
IsDistrictInRange row = IsTrue (are_allowed (columns_of tables.District) (district_values row))

-- CUSTOMER
abbrev pub customer_values : Customer → List Value
customer_values row = number row.id ∷ number row.district ∷ number row.warehouse ∷ Text row.first ∷ Text row.middle ∷
    Text row.last ∷ Text row.credit ∷ number row.discount ∷ Whole row.balance ∷ Whole row.ytd_payment ∷
    number row.payment_count ∷ number row.delivery_count ∷ Text row.information ∷ []

abbrev pub customer_with : List Value → Customer
customer_with row = record {
  id = number_of row 0;
  district = number_of row 1;
  warehouse = number_of row 2;
  first = text_of row 3;
  middle = text_of row 4;
  last = text_of row 5;
  credit = text_of row 6;
  discount = number_of row 7;
  balance = signed_of row 8;
  ytd_payment = signed_of row 9;
  payment_count = number_of row 10;
  delivery_count = number_of row 11;
  information = text_of row 12;
}

abbrev pub customer_bytes : Customer → List ℕ
customer_bytes row = row_bytes (columns_of tables.Customer) (customer_values row)

abbrev pub customer_of : List ℕ → Customer
customer_of bytes = customer_with (values_in (columns_of tables.Customer) bytes)

abbrev pub IsCustomerInRange : Customer → Type 0
IsCustomerInRange row = IsTrue (are_allowed (columns_of tables.Customer) (customer_values row))

-- HISTORY
abbrev pub history_values : History → List Value
history_values row = number row.customer ∷ number row.customer_district ∷ number row.customer_warehouse ∷
    number row.district ∷ number row.warehouse ∷ number row.date ∷ Whole row.amount ∷ Text row.information ∷ []

abbrev pub history_with : List Value → History
history_with row = record {
  customer = number_of row 0;
  customer_district = number_of row 1;
  customer_warehouse = number_of row 2;
  district = number_of row 3;
  warehouse = number_of row 4;
  date = number_of row 5;
  amount = signed_of row 6;
  information = text_of row 7;
}

abbrev pub history_bytes : History → List ℕ
history_bytes row = row_bytes (columns_of tables.History) (history_values row)

abbrev pub history_of : List ℕ → History
history_of bytes = history_with (values_in (columns_of tables.History) bytes)

abbrev pub IsHistoryInRange : History → Type 0
IsHistoryInRange row = IsTrue (are_allowed (columns_of tables.History) (history_values row))

-- NEW-ORDER
abbrev pub new_order_values : NewOrder → List Value
new_order_values row = number row.order ∷ number row.district ∷ number row.warehouse ∷ []

abbrev pub new_order_with : List Value → NewOrder
new_order_with row = record {
  order = number_of row 0;
  district = number_of row 1;
  warehouse = number_of row 2;
}

abbrev pub new_order_bytes : NewOrder → List ℕ
new_order_bytes row = row_bytes (columns_of tables.NewOrder) (new_order_values row)

abbrev pub new_order_of : List ℕ → NewOrder
new_order_of bytes = new_order_with (values_in (columns_of tables.NewOrder) bytes)

abbrev pub IsNewOrderInRange : NewOrder → Type 0
IsNewOrderInRange row = IsTrue (are_allowed (columns_of tables.NewOrder) (new_order_values row))

-- ORDER
abbrev pub order_values : Order → List Value
order_values row = number row.id ∷ number row.district ∷ number row.warehouse ∷ number row.customer ∷
    number row.entry_date ∷ number row.carrier ∷ number row.line_count ∷ number row.all_local ∷ []

abbrev pub order_with : List Value → Order
order_with row = record {
  id = number_of row 0;
  district = number_of row 1;
  warehouse = number_of row 2;
  customer = number_of row 3;
  entry_date = number_of row 4;
  carrier = number_of row 5;
  line_count = number_of row 6;
  all_local = number_of row 7;
}

abbrev pub order_bytes : Order → List ℕ
order_bytes row = row_bytes (columns_of tables.Order) (order_values row)

abbrev pub order_of : List ℕ → Order
order_of bytes = order_with (values_in (columns_of tables.Order) bytes)

abbrev pub IsOrderInRange : Order → Type 0
IsOrderInRange row = IsTrue (are_allowed (columns_of tables.Order) (order_values row))

-- ORDER-LINE
abbrev pub order_line_values : OrderLine → List Value
order_line_values row = number row.order ∷ number row.district ∷ number row.warehouse ∷ number row.number ∷
    number row.item ∷ number row.supply_warehouse ∷ number row.delivery_date ∷ number row.quantity ∷
    Whole row.amount ∷ []

abbrev pub order_line_with : List Value → OrderLine
order_line_with row = record {
  order = number_of row 0;
  district = number_of row 1;
  warehouse = number_of row 2;
  number = number_of row 3;
  item = number_of row 4;
  supply_warehouse = number_of row 5;
  delivery_date = number_of row 6;
  quantity = number_of row 7;
  amount = signed_of row 8;
}

abbrev pub order_line_bytes : OrderLine → List ℕ
order_line_bytes row = row_bytes (columns_of tables.OrderLine) (order_line_values row)

abbrev pub order_line_of : List ℕ → OrderLine
order_line_of bytes = order_line_with (values_in (columns_of tables.OrderLine) bytes)

abbrev pub IsOrderLineInRange : OrderLine → Type 0
IsOrderLineInRange row = IsTrue (are_allowed (columns_of tables.OrderLine) (order_line_values row))

-- STOCK
abbrev pub stock_values : Stock → List Value
stock_values row = number row.item ∷ number row.warehouse ∷ number row.quantity ∷ number row.ytd ∷
    number row.order_count ∷ number row.remote_count ∷ []

abbrev pub stock_with : List Value → Stock
stock_with row = record {
  item = number_of row 0;
  warehouse = number_of row 1;
  quantity = number_of row 2;
  ytd = number_of row 3;
  order_count = number_of row 4;
  remote_count = number_of row 5;
}

abbrev pub stock_bytes : Stock → List ℕ
stock_bytes row = row_bytes (columns_of tables.Stock) (stock_values row)

abbrev pub stock_of : List ℕ → Stock
stock_of bytes = stock_with (values_in (columns_of tables.Stock) bytes)

abbrev pub IsStockInRange : Stock → Type 0
IsStockInRange row = IsTrue (are_allowed (columns_of tables.Stock) (stock_values row))

-- ITEM
abbrev pub item_values : Item → List Value
item_values row = number row.id ∷ number row.image ∷ Text row.name ∷ number row.price ∷ []

abbrev pub item_with : List Value → Item
item_with row = record {
  id = number_of row 0;
  image = number_of row 1;
  name = text_of row 2;
  price = number_of row 3;
}

abbrev pub IsItemInRange : Item → Type 0
IsItemInRange row = IsTrue (are_allowed (columns_of tables.Item) (item_values row))
