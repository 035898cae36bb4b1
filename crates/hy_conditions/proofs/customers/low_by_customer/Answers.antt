use Rattle.std.proofs.Common.{◌∙◌, ℤ, refl}
use Rattle.hy_rows.specs.declared.order.Order.{Order}
use Rattle.hy_conditions.specs.declared.keys.CustomerId.{CustomerId}
use Rattle.hy_conditions.specs.Delivered.{low_part}
use Rattle.hy_conditions.specs.Groups.{sum_at}
use Rattle.hy_conditions.specs.Keys.{customer_of_order, key_of_order, same_customer, same_order}
use Rattle.hy_conditions.proofs.GroupLaws.{IfOk-sums}
use Rattle.hy_conditions.proofs.customers.low_by_customer.Goals as goal

pub returns : goal.returns
returns c =
    let entry_of : Order → CustomerId
    × ℤ = λ row. (customer_of_order row, low_part (sum_at same_order c.args.delivered.now (key_of_order row))) in
    IfOk-sums same_customer c.args.orders.now entry_of c.deref.result.now
    (c.deref.ensures.value ∙ c.in_ok-entries.ensures) c.sums_by_key.result c.sums_by_key.ensures.sums _
    (λ key. refl)
