use Rattle.std.proofs.Common.{◌∙◌, sym}
use Rattle.hy_rows.specs.declared.order.Order.{Order}
use Rattle.hy_schema.specs.Conditions.{column_sum}
use Rattle.hy_schema.specs.Related.{is_delivered}
use Rattle.hy_rows.specs.declared.order_line.OrderLine.{OrderLine}
use Rattle.hy_conditions.specs.Delivered.{of_parts}
use Rattle.hy_conditions.specs.Groups.{sum_at}
use Rattle.hy_conditions.specs.Keys.{key_of_order, lines_with, orders_with, same_order}
use Rattle.hy_conditions.proofs.DeliveredLaws.{column_sum-flat_map, column_sum-parts}
use Rattle.hy_conditions.proofs.customers.delivered_by_customer.Goals as goal

-- the parts come to the sums of the orders, and these to the sum of the lines
pub returns : goal.returns
returns c = λ key.
    let orders = orders_with key c.args.orders.now in
    (λ i. of_parts (c.in_ok-high.ensures key i) (c.in_ok-low.ensures key i))
    ∙ column_sum-parts (λ (row : Order). sum_at same_order c.in_ok-by_order.by_order (key_of_order row)) orders
    ∙ (λ i. column_sum (λ row. c.in_ok-by_order.ensures.sums (key_of_order row) i) orders)
    ∙ sym (column_sum-flat_map (λ (line : OrderLine). line.amount) is_delivered
    (λ (row : Order). lines_with (key_of_order row) c.args.lines.now) orders)
