use Rattle.std.proofs.Common.{◌∙◌, ℤ, pos}
use Rattle.hy_rows.specs.declared.order_line.OrderLine.{OrderLine}
use Rattle.hy_conditions.specs.declared.keys.OrderId.{OrderId}
use Rattle.hy_conditions.specs.Keys.{key_of_line, lines_with, same_order}
use Rattle.hy_conditions.proofs.ColumnLaws.{column_sum-length}
use Rattle.hy_conditions.proofs.GroupLaws.{IfOk-sums}
use Rattle.hy_conditions.proofs.orders.lines_by_order.Goals as goal

pub returns : goal.returns
returns c =
    let entry_of : OrderLine → OrderId × ℤ = λ row. (key_of_line row, pos 1) in
    IfOk-sums same_order c.args.lines.now entry_of c.deref.result.now
    (c.deref.ensures.value ∙ c.in_ok-entries.ensures) c.sums_by_key.result c.sums_by_key.ensures.sums _
    (λ key. column_sum-length (lines_with key c.args.lines.now))
