use Rattle.std.proofs.Common.{◌∙◌, ℤ, refl}
use Rattle.hy_rows.specs.declared.history.History.{History}
use Rattle.hy_conditions.specs.declared.keys.CustomerId.{CustomerId}
use Rattle.hy_conditions.specs.Keys.{customer_of_payment, same_customer}
use Rattle.hy_conditions.proofs.GroupLaws.{IfOk-sums}
use Rattle.hy_conditions.proofs.customers.paid_by_customer.Goals as goal

pub returns-clause-sums : goal.returns-clause-sums
returns-clause-sums c =
    let entry_of : History → CustomerId × ℤ = λ row. (customer_of_payment row, row.amount) in
    IfOk-sums same_customer c.args.history.now entry_of c.deref.result.now
    (c.deref.ensures.value ∙ c.in_ok-entries.ensures) c.sums_by_key.result c.sums_by_key.ensures.sums _
    (λ key. refl)
