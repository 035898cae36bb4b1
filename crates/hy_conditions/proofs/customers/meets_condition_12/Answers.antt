use Rattle.std.proofs.Common.{◌∙◌, ◌+ℤ◌, int_eq}
use Rattle.std.specs.List.{list_all}
use Rattle.hy_rows.specs.declared.customer.Customer.{Customer}
use Rattle.hy_conditions.specs.Keys.{key_of_customer}
use Rattle.hy_conditions.proofs.customers.meets_condition_12.Goals as goal

pub returns : goal.returns
returns c =
    let delivered = λ (row : Customer). c.requires (key_of_customer row) in
    c.are_balanced.ensures ∙ (λ i. list_all (λ row. int_eq (row.balance +ℤ row.ytd_payment) (delivered row i))
    (c.list-customers.ensures i))
