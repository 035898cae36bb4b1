use Rattle.std.proofs.Common.{◌≡◌, ◌∙◌, ◌+ℤ◌, ◌-ℤ◌, ap, sym, int_eq, pos, to_z, of_z, rules, arith}
use Rattle.std.proofs.lemmas.Int.{ints}
use Rattle.std.specs.Int.{w128}
use Rattle.std.specs.Int.RustNames.{FitsSigned}
use Rattle.hy_conditions.specs.Delivered.{of_parts}
use Rattle.hy_conditions.proofs.DeliveredLaws.{parts-apart, parts-same}
use Rattle.hy_conditions.proofs.customers.is_of_parts.Goals as goal

-- the remainders differ by no multiple
pub returns-then-rest_low-ne0 : goal.returns-then-rest_low-ne0
returns-then-rest_low-ne0 c =
    let amount = c.parts-amount_high in
    let low = c.parts-low_high in
    let rest = c.parts-rest_high in
    let amount_is : c.args.amount ≡ of_parts amount.result.0 amount.result.1 = omega
    (arith, ints, amount.ensures.whole) in
    let low_is : c.args.low ≡ of_parts low.result.0 low.result.1 = omega (arith, ints, low.ensures.whole) in
    let rest_is : amount.result.1 -ℤ low.result.1 ≡ of_parts rest.result.0 rest.result.1 =
    omega (
      arith,
      ints,
      rest.ensures.whole,
      amount.ensures.above,
      amount.ensures.below,
      low.ensures.above,
      low.ensures.below,
    ) in
    sym (parts-apart c.args.amount c.args.high c.args.low amount.result.0 amount.result.1 low.result.0 low.result.1
    rest.result.0 rest.result.1
    amount_is low_is rest_is rest.ensures.above rest.ensures.below
    (λ none. c.if-rest_low-ne0.true (ap (of_z w128) none)))

pub overflow_sub-amount_high : goal.overflow_sub-amount_high
overflow_sub-amount_high c =
    let amount = c.parts-amount_high.ensures in
    let low = c.parts-low_high.ensures in
    omega (arith, ints, amount.least, amount.greatest, low.least, low.greatest)

pub overflow_add-amount_high : goal.overflow_add-amount_high
overflow_add-amount_high c =
    let amount = c.parts-amount_high.ensures in
    let low = c.parts-low_high.ensures in
    let rest = c.parts-rest_high.ensures in
    omega (arith, ints, amount.least, amount.greatest, low.least, low.greatest, rest.least, rest.greatest)

-- the remainders differ by a multiple
pub returns : goal.returns
returns c =
    let amount = c.parts-amount_high in
    let low = c.parts-low_high in
    let rest = c.parts-rest_high in
    let amount_is : c.args.amount ≡ of_parts amount.result.0 amount.result.1 = omega
    (arith, ints, amount.ensures.whole) in
    let low_is : c.args.low ≡ of_parts low.result.0 low.result.1 = omega (arith, ints, low.ensures.whole) in
    let rest_is : amount.result.1 -ℤ low.result.1 ≡ of_parts rest.result.0 rest.result.1 =
    omega (
      arith,
      ints,
      rest.ensures.whole,
      amount.ensures.above,
      amount.ensures.below,
      low.ensures.above,
      low.ensures.below,
    ) in
    let none : rest.result.1 ≡ pos 0 = omega
    (arith, ints, rest.ensures.above, rest.ensures.below, ap (to_z w128) c.if-rest_low-ne0.false) in
    let fits : FitsSigned w128 (amount.result.0 -ℤ low.result.0) = omega
    (arith, ints, amount.ensures.least, amount.ensures.greatest, low.ensures.least, low.ensures.greatest) in
    let sum_fits : FitsSigned w128 (amount.result.0 -ℤ low.result.0 +ℤ rest.result.0) =
    omega (
      arith,
      ints,
      amount.ensures.least,
      amount.ensures.greatest,
      low.ensures.least,
      low.ensures.greatest,
      rest.ensures.least,
      rest.ensures.greatest,
    ) in
    let same : c.are_same.result ≡ int_eq
    (amount.result.0 -ℤ low.result.0 +ℤ rest.result.0) c.args.high = search rules in
    same ∙ parts-same c.args.amount c.args.high c.args.low amount.result.0 amount.result.1 low.result.0 low.result.1
    rest.result.0 rest.result.1
    amount_is low_is rest_is rest.ensures.above rest.ensures.below none
