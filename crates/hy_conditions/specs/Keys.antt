-- The keys of rows, and which keys are the same.
use Rattle.std.specs.Prelude.{List, filter, Bool, ◌==◌, ◌&&◌}
use Rattle.hy_rows.specs.declared.customer.Customer.{Customer}
use Rattle.hy_rows.specs.declared.district.District.{District}
use Rattle.hy_rows.specs.declared.history.History.{History}
use Rattle.hy_rows.specs.declared.new_order.NewOrder.{NewOrder}
use Rattle.hy_rows.specs.declared.order.Order.{Order}
use Rattle.hy_rows.specs.declared.order_line.OrderLine.{OrderLine}
use Rattle.hy_conditions.specs.declared.keys.DistrictId.{DistrictId}
use Rattle.hy_conditions.specs.declared.keys.OrderId.{OrderId}
use Rattle.hy_conditions.specs.declared.keys.CustomerId.{CustomerId}

abbrev pub same_district : DistrictId → DistrictId → Bool
same_district key other = (key.warehouse == other.warehouse) && (key.district == other.district)

abbrev pub same_order : OrderId → OrderId → Bool
same_order key other = same_district key.district other.district && (key.order == other.order)

abbrev pub same_customer : CustomerId → CustomerId → Bool
same_customer key other = same_district key.district other.district && (key.customer == other.customer)

-- (D_W_ID, D_ID)
abbrev pub key_of_district : District → DistrictId
key_of_district row = record { warehouse = row.warehouse; district = row.id }

-- (O_W_ID, O_D_ID, O_ID), and the same of a row of NEW-ORDER and of ORDER-LINE
abbrev pub key_of_order : Order → OrderId
key_of_order row = record { district = record { warehouse = row.warehouse; district = row.district }; order = row.id }

abbrev pub key_of_new_order : NewOrder → OrderId
key_of_new_order row =
    record { district = record { warehouse = row.warehouse; district = row.district }; order = row.order }

abbrev pub key_of_line : OrderLine → OrderId
key_of_line row = record { district = record { warehouse = row.warehouse; district = row.district }; order = row.order }

-- (C_W_ID, C_D_ID, C_ID), and the customer of an order and of a payment
abbrev pub key_of_customer : Customer → CustomerId
key_of_customer row =
    record { district = record { warehouse = row.warehouse; district = row.district }; customer = row.id }

abbrev pub customer_of_order : Order → CustomerId
customer_of_order row =
    record { district = record { warehouse = row.warehouse; district = row.district }; customer = row.customer }

abbrev pub customer_of_payment : History → CustomerId
customer_of_payment row = record {
  district = record { warehouse = row.customer_warehouse; district = row.customer_district };
  customer = row.customer;
}

-- the rows of NEW-ORDER and the lines of an order, by its key
abbrev pub new_orders_with : OrderId → List NewOrder → List NewOrder
new_orders_with key rows = filter (λ row. same_order (key_of_new_order row) key) rows

abbrev pub lines_with : OrderId → List OrderLine → List OrderLine
lines_with key lines = filter (λ row. same_order (key_of_line row) key) lines

-- the orders of a customer and the payments by a customer, by the customer's key
abbrev pub orders_with : CustomerId → List Order → List Order
orders_with key orders = filter (λ row. same_customer (customer_of_order row) key) orders

abbrev pub payments_with : CustomerId → List History → List History
payments_with key rows = filter (λ row. same_customer (customer_of_payment row) key) rows
