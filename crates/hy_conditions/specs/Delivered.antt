-- What was delivered of an order and to a customer, and such a sum in two parts.
use Rattle.std.specs.Prelude.{ℤ, pos, ◌+ℤ◌, ◌^◌, ◌==◌, if◌then◌else◌, List, filter, int_div, int_rem}
use Rattle.std.specs.List.{flat_map}
use Rattle.std.proofs.Common.{◌*ℤ◌}
use Rattle.hy_rows.specs.declared.order.Order.{Order}
use Rattle.hy_rows.specs.declared.order_line.OrderLine.{OrderLine}
use Rattle.hy_schema.specs.Conditions.{column_sum}
use Rattle.hy_schema.specs.Related.{is_delivered}
use Rattle.hy_conditions.specs.declared.customers.Delivered.{Delivered}
use Rattle.hy_conditions.specs.declared.keys.CustomerId.{CustomerId}
use Rattle.hy_conditions.specs.Groups.{sum_at}
use Rattle.hy_conditions.specs.Keys.{key_of_order, lines_with, orders_with, same_customer}

-- what was delivered of a line, and of some lines
abbrev pub line_amount : OrderLine → ℤ
line_amount row = if row.delivery_date == 0 then pos 0 else row.amount

abbrev pub delivered_of : List OrderLine → ℤ
delivered_of lines = column_sum (λ line. line.amount) (filter is_delivered lines)

-- what was delivered to a customer
abbrev pub delivered_with : CustomerId → List Order → List OrderLine → ℤ
delivered_with key orders lines =
    delivered_of (flat_map (λ order. lines_with (key_of_order order) lines) (orders_with key orders))

-- a sum in two parts: its quotient and its remainder by 2 ^ 63
abbrev pub high_part : ℤ → ℤ
high_part sum = int_div sum (pos (2 ^ 63))

abbrev pub low_part : ℤ → ℤ
low_part sum = int_rem sum (pos (2 ^ 63))

abbrev pub of_parts : ℤ → ℤ → ℤ
of_parts high low = pos (2 ^ 63) *ℤ high +ℤ low

-- what two maps of parts have for a customer
abbrev pub delivered_at : Delivered → CustomerId → ℤ
delivered_at delivered key =
    of_parts (sum_at same_customer delivered.high key) (sum_at same_customer delivered.low key)
