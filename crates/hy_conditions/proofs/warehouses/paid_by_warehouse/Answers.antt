use Rattle.std.proofs.Common.{nat_eq, ℕ, ℤ, refl, ◌∙◌}
use Rattle.hy_rows.specs.declared.history.History.{History}
use Rattle.hy_conditions.proofs.GroupLaws.{IfOk-sums}
use Rattle.hy_conditions.proofs.warehouses.paid_by_warehouse.Goals as goal

pub returns : goal.returns
returns c =
    let entry_of : History → ℕ × ℤ = λ row. (row.warehouse, row.amount) in
    IfOk-sums nat_eq c.args.history.now entry_of c.deref.result.now
    (c.deref.ensures.value ∙ c.in_ok-entries.ensures) c.sums_by_key.result c.sums_by_key.ensures.sums _
    (λ key. refl)
