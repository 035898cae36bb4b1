use Rattle.std.proofs.Common.{◌∙◌, map, length}
use Rattle.std.specs.List.{sum, list_all}
use Rattle.hy_rows.specs.declared.district.District.{District}
use Rattle.hy_schema.specs.Conditions.{has_all_lines}
use Rattle.hy_schema.specs.Related.{lines_of_district, orders_of}
use Rattle.hy_conditions.specs.Groups.{sum_at}
use Rattle.hy_conditions.specs.Keys.{key_of_district, same_district}
use Rattle.hy_conditions.proofs.ColumnLaws.{list_all-counts}
use Rattle.hy_conditions.proofs.districts.meets_condition_4.Goals as goal

-- where sums of natural numbers are compared, the numbers are
pub returns : goal.returns
returns c =
    c.have_all_lines.ensures
    ∙ list_all-counts (λ row. sum_at same_district c.in_ok-counted.counted (key_of_district row))
    (λ row. sum_at same_district c.in_ok-lines.lines (key_of_district row))
    (λ (row : District). sum (map (λ order. order.line_count) (orders_of row.warehouse row.id c.list.result.now)))
    (λ (row : District). length (lines_of_district row.warehouse row.id c.list-2.result.now))
    (λ row. c.in_ok-counted.ensures (key_of_district row))
    (λ row. c.in_ok-lines.ensures (key_of_district row)) c.list-districts.result.now
    ∙ (λ i. list_all (has_all_lines (c.list.ensures i) (c.list-2.ensures i)) (c.list-districts.ensures i))
