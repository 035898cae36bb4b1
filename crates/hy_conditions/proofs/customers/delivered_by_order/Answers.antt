use Rattle.std.proofs.Common.{◌==◌, ◌∙◌, ℤ}
use Rattle.hy_rows.specs.declared.order_line.OrderLine.{OrderLine}
use Rattle.hy_conditions.specs.declared.keys.OrderId.{OrderId}
use Rattle.hy_conditions.specs.Delivered.{line_amount}
use Rattle.hy_conditions.specs.Keys.{key_of_line, lines_with, same_order}
use Rattle.hy_conditions.proofs.ColumnLaws.{column_sum-filter}
use Rattle.hy_conditions.proofs.GroupLaws.{IfOk-sums}
use Rattle.hy_conditions.proofs.customers.delivered_by_order.Goals as goal

pub returns-clause-sums : goal.returns-clause-sums
returns-clause-sums c =
    let entry_of : OrderLine → OrderId × ℤ = λ row. (key_of_line row, line_amount row) in
    IfOk-sums same_order c.args.lines.now entry_of c.deref.result.now
    (c.deref.ensures.value ∙ c.in_ok-entries.ensures) c.sums_by_key.result c.sums_by_key.ensures.sums _
    (λ key. column_sum-filter (λ (line : OrderLine). line.delivery_date == 0) (λ line. line.amount)
    (lines_with key c.args.lines.now))
