use Rattle.std.proofs.Common.{◌==◌, ◌∙◌, ap, sym, false}
use Rattle.std.specs.List.{list_all}
use Rattle.hy_rows.specs.declared.order.Order.{Order}
use Rattle.hy_schema.specs.Conditions.{is_delivered_with_lines}
use Rattle.hy_schema.specs.Related.{lines_of}
use Rattle.hy_conditions.specs.Keys.{key_of_order}
use Rattle.hy_conditions.specs.Lines.{disagreeing}
use Rattle.hy_conditions.proofs.LineLaws.{none-disagreeing}
use Rattle.hy_conditions.proofs.orders.meets_condition_7.Goals as goal

-- all lines of an order agree with its carrier where none disagrees
pub returns : goal.returns
returns c =
    let agrees = λ (row : Order).
    none-disagreeing (row.carrier == 0) _ _ (lines_of row c.list.result.now)
    (c.in_ok-delivered.ensures (key_of_order row))
    (c.in_ok-undelivered.ensures (key_of_order row) ∙ ap (λ lines. disagreeing false (lines_of row lines))
    (c.list-2.ensures ∙ sym c.list.ensures))
    ∙ ap (λ lines. is_delivered_with_lines lines row) c.list.ensures in
    c.are_delivered_with_lines.ensures ∙ (λ i. list_all (λ row. agrees row i) (c.list-orders.ensures i))
