use Rattle.std.proofs.Common.{◌∙◌, ℤ, refl}
use Rattle.hy_rows.specs.declared.history.History.{History}
use Rattle.hy_conditions.specs.declared.keys.DistrictId.{DistrictId}
use Rattle.hy_conditions.specs.Keys.{same_district}
use Rattle.hy_conditions.proofs.GroupLaws.{IfOk-sums}
use Rattle.hy_conditions.proofs.districts.paid_by_district.Goals as goal

pub returns : goal.returns
returns c =
    let entry_of : History → DistrictId
    × ℤ = λ row. (record { warehouse = row.warehouse; district = row.district }, row.amount) in
    IfOk-sums same_district c.args.history.now entry_of c.deref.result.now
    (c.deref.ensures.value ∙ c.in_ok-entries.ensures) c.sums_by_key.result c.sums_by_key.ensures.sums _
    (λ key. refl)
