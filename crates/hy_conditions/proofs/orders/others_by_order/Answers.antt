use Rattle.std.proofs.Common.{◌∙◌, ℤ, refl}
use Rattle.hy_rows.specs.declared.order_line.OrderLine.{OrderLine}
use Rattle.hy_conditions.specs.declared.keys.OrderId.{OrderId}
use Rattle.hy_conditions.specs.Keys.{key_of_line, same_order}
use Rattle.hy_conditions.specs.Lines.{is_other}
use Rattle.hy_conditions.proofs.GroupLaws.{IfOk-sums}
use Rattle.hy_conditions.proofs.orders.others_by_order.Goals as goal

pub returns : goal.returns
returns c =
    let entry_of : OrderLine → OrderId × ℤ = λ row. (key_of_line row, is_other c.args.undelivered row) in
    IfOk-sums same_order c.args.lines.now entry_of c.deref.result.now
    (c.deref.ensures.value ∙ c.in_ok-entries.ensures) c.sums_by_key.result c.sums_by_key.ensures.sums _
    (λ key. refl)
