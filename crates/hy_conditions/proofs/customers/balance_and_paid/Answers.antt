use Rattle.std.proofs.Common.{◌≡◌, ◌∙◌, ap, rules, arith}
use Rattle.std.proofs.lemmas.Int.{ints}
use Rattle.std.specs.Int.{w64}
use Rattle.std.specs.Int.RustNames.{FitsSigned}
use Rattle.hy_conditions.specs.Groups.{sum_at}
use Rattle.hy_conditions.specs.Keys.{key_of_customer, same_customer}
use Rattle.hy_conditions.proofs.customers.balance_and_paid.Goals as goal

-- the sum fits
pub overflow_add-result : goal.overflow_add-result
overflow_add-result c =
    let fits : FitsSigned w64 c.args.row.now.balance = search rules in
    let sum : c.sum_at-sum.result ≡ sum_at same_customer c.args.paid.now
    (key_of_customer c.args.row.now) = c.sum_at-sum.ensures ∙ ap
    (sum_at same_customer c.args.paid.now) c.key_of.ensures in
    omega (arith, ints, c.requires.above, c.requires.below)

pub returns : goal.returns
returns c =
    let fits : FitsSigned w64 c.args.row.now.balance = search rules in
    let sum : c.sum_at-sum.result ≡ sum_at same_customer c.args.paid.now
    (key_of_customer c.args.row.now) = c.sum_at-sum.ensures ∙ ap
    (sum_at same_customer c.args.paid.now) c.key_of.ensures in
    omega (arith, ints, c.requires.above, c.requires.below)
