use Rattle.std.proofs.Common.{◌∙◌, ℤ, pos}
use Rattle.hy_rows.specs.declared.order.Order.{Order}
use Rattle.hy_schema.specs.Related.{orders_of}
use Rattle.hy_conditions.specs.declared.keys.DistrictId.{DistrictId}
use Rattle.hy_conditions.specs.Keys.{same_district}
use Rattle.hy_conditions.proofs.ColumnLaws.{column_sum-pos}
use Rattle.hy_conditions.proofs.GroupLaws.{IfOk-sums}
use Rattle.hy_conditions.proofs.districts.line_counts_by_district.Goals as goal

pub returns : goal.returns
returns c =
    let entry_of : Order → DistrictId
    × ℤ = λ row. (record { warehouse = row.warehouse; district = row.district }, pos row.line_count) in
    IfOk-sums same_district c.args.orders.now entry_of c.deref.result.now
    (c.deref.ensures.value ∙ c.in_ok-entries.ensures) c.sums_by_key.result c.sums_by_key.ensures.sums _
    (λ key. column_sum-pos (λ (row : Order). row.line_count) (orders_of key.warehouse key.district c.args.orders.now))
