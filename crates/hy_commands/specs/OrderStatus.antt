-- Order-Status (TPC-C clause 2.6.2.2): a customer's last order.
use Rattle.std.specs.Prelude.{nat_lt, Bool, if◌then◌else◌, Option, None, Some, List, fold}
use Rattle.std.specs.Option.{option_map}
use Rattle.hy_rows.specs.declared.customer.Customer.{Customer}
use Rattle.hy_rows.specs.declared.order.Order.{Order}
use Rattle.hy_rows.specs.declared.order_line.OrderLine.{OrderLine}
use Rattle.hy_rows.specs.Tables.{Tables}
use Rattle.hy_schema.specs.Related.{lines_of, orders_by}
use Rattle.hy_commands.specs.declared.reply.PlacedOrder.{PlacedOrder}
use Rattle.hy_commands.specs.Sorting.{sorted}

-- of two orders the one with the greater number
abbrev pub later_of : Option Order → Order → Option Order
later_of None order = Some order
later_of (Some before) order = if nat_lt before.id order.id then Some order else Some before

-- the order with the greatest number
abbrev pub last_order : List Order → Option Order
last_order orders = fold later_of None orders

abbrev pub is_lesser_line : OrderLine → OrderLine → Bool
is_lesser_line one other = nat_lt one.number other.number

-- an order with its lines, by OL_NUMBER
abbrev pub placed : List OrderLine → Order → PlacedOrder
placed lines order = record {
  number = order.id;
  entry_date = order.entry_date;
  carrier = order.carrier;
  lines = sorted is_lesser_line (lines_of order lines);
}

-- a customer's last order
abbrev pub last_placed : Customer → Tables → Option PlacedOrder
last_placed customer tables = option_map (placed tables.order_lines) (last_order (orders_by customer tables.orders))
