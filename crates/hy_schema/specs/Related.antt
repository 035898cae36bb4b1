-- Which rows belong together: each by the columns that name another row's key (TPC-C clause 1.3).
use Rattle.std.specs.Prelude.{ℕ, Bool, ◌==◌, ◌&&◌, not, List, filter}
use Rattle.std.specs.List.{flat_map, list_any}
use Rattle.hy_rows.specs.declared.customer.Customer.{Customer}
use Rattle.hy_rows.specs.declared.history.History.{History}
use Rattle.hy_rows.specs.declared.item.Item.{Item}
use Rattle.hy_rows.specs.declared.new_order.NewOrder.{NewOrder}
use Rattle.hy_rows.specs.declared.order.Order.{Order}
use Rattle.hy_rows.specs.declared.order_line.OrderLine.{OrderLine}

-- whether an item has the number
abbrev pub is_item : ℕ → Item → Bool
is_item number row = row.id == number

-- whether an order, an undelivered order or an order line has the key: (O_W_ID, O_D_ID, O_ID); (NO_W_ID, NO_D_ID,
-- NO_O_ID); (OL_W_ID, OL_D_ID, OL_O_ID, OL_NUMBER)
abbrev pub is_order : ℕ → ℕ → ℕ → Order → Bool
is_order warehouse district number row =
    (row.warehouse == warehouse) && (row.district == district) && (row.id == number)

abbrev pub is_new_order : ℕ → ℕ → ℕ → NewOrder → Bool
is_new_order warehouse district order row =
    (row.warehouse == warehouse) && (row.district == district) && (row.order == order)

abbrev pub is_line : ℕ → ℕ → ℕ → ℕ → OrderLine → Bool
is_line warehouse district order number row =
    (row.warehouse == warehouse) && (row.district == district) && (row.order == order) && (row.number == number)

-- the orders, the undelivered orders and the order lines of a district, by D_W_ID and D_ID
abbrev pub orders_of : ℕ → ℕ → List Order → List Order
orders_of warehouse district orders = filter (λ row. (row.warehouse == warehouse) && (row.district == district)) orders

abbrev pub new_orders_of : ℕ → ℕ → List NewOrder → List NewOrder
new_orders_of warehouse district rows = filter (λ row. (row.warehouse == warehouse) && (row.district == district)) rows

abbrev pub lines_of_district : ℕ → ℕ → List OrderLine → List OrderLine
lines_of_district warehouse district lines =
    filter (λ row. (row.warehouse == warehouse) && (row.district == district)) lines

-- the lines of an order
abbrev pub is_line_of : Order → OrderLine → Bool
is_line_of order row = (row.warehouse == order.warehouse) && (row.district == order.district) && (row.order == order.id)

abbrev pub lines_of : Order → List OrderLine → List OrderLine
lines_of order lines = filter (is_line_of order) lines

-- whether an order is undelivered: it has a row of NEW-ORDER
abbrev pub is_new_order_of : Order → NewOrder → Bool
is_new_order_of order row =
    (row.warehouse == order.warehouse) && (row.district == order.district) && (row.order == order.id)

abbrev pub is_undelivered : List NewOrder → Order → Bool
is_undelivered rows order = list_any (is_new_order_of order) rows

-- the orders of a customer
abbrev pub is_order_by : Customer → Order → Bool
is_order_by customer row =
    (row.warehouse == customer.warehouse) && (row.district == customer.district) && (row.customer == customer.id)

abbrev pub orders_by : Customer → List Order → List Order
orders_by customer orders = filter (is_order_by customer) orders

-- whether an order line was delivered: OL_DELIVERY_D isn't null
abbrev pub is_delivered : OrderLine → Bool
is_delivered row = not (row.delivery_date == 0)

-- the order lines that were delivered to a customer
abbrev pub delivered_to : Customer → List Order → List OrderLine → List OrderLine
delivered_to customer orders lines = filter is_delivered (flat_map (λ order. lines_of order lines) (orders_by customer orders))

-- the payments that were made in a warehouse, in a district of it, and by a customer wherever
abbrev pub payments_in : ℕ → List History → List History
payments_in warehouse rows = filter (λ row. row.warehouse == warehouse) rows

abbrev pub payments_in_district : ℕ → ℕ → List History → List History
payments_in_district warehouse district rows =
    filter (λ row. (row.warehouse == warehouse) && (row.district == district)) rows

abbrev pub is_payment_by : Customer → History → Bool
is_payment_by customer row =
    (row.customer_warehouse == customer.warehouse) && (row.customer_district == customer.district)
    && (row.customer == customer.id)

abbrev pub payments_by : Customer → List History → List History
payments_by customer rows = filter (is_payment_by customer) rows
