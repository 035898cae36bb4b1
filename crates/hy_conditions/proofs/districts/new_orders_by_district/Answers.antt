use Rattle.std.proofs.Common.{◌∙◌, ℕ}
use Rattle.hy_rows.specs.declared.new_order.NewOrder.{NewOrder}
use Rattle.hy_conditions.specs.declared.keys.DistrictId.{DistrictId}
use Rattle.hy_conditions.specs.Keys.{same_district}
use Rattle.hy_conditions.proofs.NumberLaws.{IfOk-numbers}
use Rattle.hy_conditions.proofs.districts.new_orders_by_district.Goals as goal

pub returns : goal.returns
returns c =
    let entry_of : NewOrder → DistrictId
    × ℕ = λ row. (record { warehouse = row.warehouse; district = row.district }, row.order) in
    IfOk-numbers same_district c.args.news.now entry_of c.deref.result.now
    (c.deref.ensures.value ∙ c.in_ok-entries.ensures) c.numbers_by_key.result c.numbers_by_key.ensures
