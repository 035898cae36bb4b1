use Rattle.std.proofs.Common.{◌∙◌, ◌+ℤ◌, int_eq}
use Rattle.std.specs.List.{list_all}
use Rattle.hy_rows.specs.declared.customer.Customer.{Customer}
use Rattle.hy_schema.specs.Conditions.{delivered_amount, paid_amount}
use Rattle.hy_schema.specs.Related.{payments_by}
use Rattle.hy_conditions.specs.Keys.{key_of_customer, payments_with}
use Rattle.hy_conditions.proofs.DeliveredLaws.{balance-less}
use Rattle.hy_conditions.proofs.customers.meets_condition_10.Goals as goal

-- a balance with what was paid is what was delivered, where the balance is what was delivered less that
pub returns : goal.returns
returns c =
    let delivered = λ (row : Customer). c.requires (key_of_customer row) in
    let paid = λ (row : Customer).
    c.in_ok-paid.ensures.sums (key_of_customer row) ∙
    (λ i. paid_amount (payments_with (key_of_customer row) (c.list.ensures i))) in
    let less = λ (row : Customer).
    balance-less row.balance (paid_amount (payments_by row c.args.tables.now.history))
    (delivered_amount c.args.tables.now.orders c.args.tables.now.order_lines row) in
    c.are_delivered_less_paid.ensures
    ∙ (λ i. list_all (λ row. int_eq (row.balance +ℤ paid row i) (delivered row i)) (c.list-customers.ensures i))
    ∙ (λ i. list_all (λ row. less row i) c.args.tables.now.customers)
