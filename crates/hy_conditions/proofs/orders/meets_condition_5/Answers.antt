use Rattle.std.proofs.Common.{◌==◌, ◌∙◌, ap, not, pos, int_eq}
use Rattle.std.specs.List.{list_all}
use Rattle.hy_rows.specs.declared.order.Order.{Order}
use Rattle.hy_schema.specs.Conditions.{agree}
use Rattle.hy_schema.specs.Related.{is_new_order_of, is_undelivered}
use Rattle.hy_conditions.specs.Keys.{key_of_order}
use Rattle.hy_conditions.proofs.ColumnLaws.{list_any-count}
use Rattle.hy_conditions.proofs.orders.meets_condition_5.Goals as goal

-- an order is undelivered where its rows of NEW-ORDER are not none
pub returns : goal.returns
returns c =
    let is_new = λ (row : Order).
    ap (λ count. not (int_eq count (pos 0))) (c.in_ok-news.ensures (key_of_order row))
    ∙ list_any-count (is_new_order_of row) c.list.result.now
    ∙ ap (λ news. is_undelivered news row) c.list.ensures in
    c.are_carried_or_new.ensures ∙
    (λ i. list_all (λ row. agree (row.carrier == 0) (is_new row i)) (c.list-orders.ensures i))
