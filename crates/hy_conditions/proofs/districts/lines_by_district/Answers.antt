use Rattle.std.proofs.Common.{◌∙◌, ℤ, pos}
use Rattle.hy_rows.specs.declared.order_line.OrderLine.{OrderLine}
use Rattle.hy_schema.specs.Related.{lines_of_district}
use Rattle.hy_conditions.specs.declared.keys.DistrictId.{DistrictId}
use Rattle.hy_conditions.specs.Keys.{same_district}
use Rattle.hy_conditions.proofs.ColumnLaws.{column_sum-length}
use Rattle.hy_conditions.proofs.GroupLaws.{IfOk-sums}
use Rattle.hy_conditions.proofs.districts.lines_by_district.Goals as goal

pub returns : goal.returns
returns c =
    let entry_of : OrderLine → DistrictId
    × ℤ = λ row. (record { warehouse = row.warehouse; district = row.district }, pos 1) in
    IfOk-sums same_district c.args.lines.now entry_of c.deref.result.now
    (c.deref.ensures.value ∙ c.in_ok-entries.ensures) c.sums_by_key.result c.sums_by_key.ensures.sums _
    (λ key. column_sum-length (lines_of_district key.warehouse key.district c.args.lines.now))
