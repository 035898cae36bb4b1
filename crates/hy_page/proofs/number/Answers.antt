use Rattle.std.proofs.Common.{ap, ◌∙◌, ◌≡◌, drop, arith}
use Rattle.hy_page.specs.Bytes.{AreBytes, number_of}
use Rattle.hy_page.proofs.ByteLaws.{number_of-below, number_of-drop-below}
use Rattle.hy_page.proofs.number.Goals as goal

pub overflow_mul-number : goal.overflow_mul-number
overflow_mul-number c =
    let are_bytes : AreBytes c.args.bytes.now = λ k. omega (arith, c.type_inv.bytes k) in
    omega (arith, number_of-drop-below c.args.bytes.now c.loop-i.i are_bytes c.requires c.loop-i-test.true)

pub overflow_add-number : goal.overflow_add-number
overflow_add-number c =
    let are_bytes : AreBytes c.args.bytes.now = λ k. omega (arith, c.type_inv.bytes k) in
    omega (arith, number_of-drop-below c.args.bytes.now c.loop-i.i are_bytes c.requires c.loop-i-test.true)

pub returns-clause-range : goal.returns-clause-range
returns-clause-range c =
    let are_bytes : AreBytes c.args.bytes.now = λ k. omega (arith, c.type_inv.bytes k) in
    let none : c.loop-i.i ≡ 0 = omega arith in
    let all : c.loop-i.number ≡ number_of c.args.bytes.now = c.loop-i.invariant.1 ∙ ap (λ n. number_of (drop n c.args.bytes.now)) none in
    omega (arith, number_of-below c.args.bytes.now are_bytes)
