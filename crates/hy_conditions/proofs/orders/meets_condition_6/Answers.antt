use Rattle.std.proofs.Common.{◌∙◌, pos, length, refl}
use Rattle.std.specs.List.{list_all}
use Rattle.hy_rows.specs.declared.order.Order.{Order}
use Rattle.hy_schema.specs.Conditions.{counts_its_lines}
use Rattle.hy_schema.specs.Related.{lines_of}
use Rattle.hy_conditions.specs.Groups.{sum_at}
use Rattle.hy_conditions.specs.Keys.{key_of_order, same_order}
use Rattle.hy_conditions.proofs.ColumnLaws.{list_all-counts}
use Rattle.hy_conditions.proofs.orders.meets_condition_6.Goals as goal

-- where sums of natural numbers are compared, the numbers are
pub returns : goal.returns
returns c =
    c.count_their_lines.ensures
    ∙ list_all-counts (λ (row : Order). pos row.line_count)
    (λ row. sum_at same_order c.in_ok-lines.lines (key_of_order row))
    (λ row. row.line_count) (λ row. length (lines_of row c.list.result.now))
    (λ row. refl) (λ row. c.in_ok-lines.ensures (key_of_order row)) c.list-orders.result.now
    ∙ (λ i. list_all (counts_its_lines (c.list.ensures i)) (c.list-orders.ensures i))
