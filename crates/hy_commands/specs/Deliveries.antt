-- Delivery (TPC-C clause 2.7.4.2): in each district the oldest undelivered order is delivered.
use Rattle.std.specs.Prelude.{ℕ, ◌+◌, ℤ, ◌+ℤ◌, ◌==◌, not, if◌then◌else◌, List, [], fold, map, filter}
use Rattle.hy_rows.specs.declared.customer.Customer.{Customer}
use Rattle.hy_rows.specs.declared.order.Order.{Order}
use Rattle.hy_rows.specs.declared.order_line.OrderLine.{OrderLine}
use Rattle.hy_rows.specs.Finding.{first_or, is_customer, with_changed}
use Rattle.hy_rows.specs.Rows.{order_of}
use Rattle.hy_rows.specs.Tables.{Tables}
use Rattle.hy_schema.specs.Conditions.{column_sum, least}
use Rattle.hy_schema.specs.Keys.{district_numbers}
use Rattle.hy_schema.specs.Related.{is_line_of, is_new_order, is_order, lines_of, new_orders_of}
use Rattle.hy_commands.specs.declared.command.Delivery.{Delivery}
use Rattle.hy_commands.specs.Sorting.{with_all_changed}

-- the oldest undelivered order of a district, by its number; 0 where there is none
abbrev pub oldest : ℕ → ℕ → Tables → ℕ
oldest warehouse district tables = least (map (λ row. row.order) (new_orders_of warehouse district tables.new_orders))

-- O_CARRIER_ID and OL_DELIVERY_D of a delivered order and its lines
abbrev pub carried : ℕ → Order → Order
carried carrier row = record row { carrier = carrier }

abbrev pub delivered_line : ℕ → OrderLine → OrderLine
delivered_line moment row = record row { delivery_date = moment }

-- the customer after an order of some cents was delivered
abbrev pub customer_delivered : ℤ → Customer → Customer
customer_delivered cents row = record row {
  balance = row.balance +ℤ cents;
  delivery_count = row.delivery_count + 1;
}

-- what the lines of an order come to, in cents
abbrev pub order_cents : Order → List OrderLine → ℤ
order_cents order lines = column_sum (λ row. row.amount) (lines_of order lines)

-- what the delivery of an order does: it is no longer undelivered, it and all its lines are marked, and its customer owes
-- what they cost
abbrev pub with_delivered : Delivery → Order → Tables → Tables
with_delivered delivery order tables = record tables {
  new_orders = filter (λ row. not (is_new_order order.warehouse order.district order.id row)) tables.new_orders;
  orders = with_changed (is_order order.warehouse order.district order.id) (carried delivery.carrier) tables.orders;
  order_lines = with_all_changed (is_line_of order) (delivered_line delivery.at) tables.order_lines;
  customers =
      with_changed (is_customer order.warehouse order.district order.customer)
      (customer_delivered (order_cents order tables.order_lines)) tables.customers;
}

-- what a delivery does in one district: nothing, where there is no undelivered order
abbrev pub delivered_in : Delivery → Tables → ℕ → Tables
delivered_in delivery tables district =
    let number : ℕ = oldest delivery.warehouse district tables in
    if number == 0 then tables
    else with_delivered delivery
    (first_or (order_of []) (is_order delivery.warehouse district number) tables.orders) tables

-- what it does in all districts, one after the other
abbrev pub delivered : Delivery → Tables → Tables
delivered delivery tables = fold (delivered_in delivery) tables district_numbers

-- the orders that are delivered, 0 for a district without one
abbrev pub deliveries : Delivery → Tables → List ℕ
deliveries delivery tables = map (λ district. oldest delivery.warehouse district tables) district_numbers
