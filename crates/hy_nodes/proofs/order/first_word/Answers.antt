use Rattle.std.proofs.Common.{◌≡◌, suc, ◌+◌, ◌-◌, ◌*◌, ◌<◌, ◌≤◌, ◌^◌, drop, sym, ap, ◌∙◌, arith}
use Rattle.std.proofs.Math.Nat.{pow-le-pow_right, pow-suc}
use Rattle.hy_nodes.specs.Words.{word_from}
use Rattle.hy_nodes.proofs.WordLaws.{word_from-next}
use Rattle.hy_nodes.proofs.order.first_word.Goals as goal

pub overflow_mul-number : goal.overflow_mul-number
overflow_mul-number c =
    let few : c.loop-place.place ≤ 7 = omega (arith, c.loop-place-test.true) in
    let some : 0 < 256 = omega arith in
    let room : 256 ^ c.loop-place.place ≤ 256 ^ 7 = pow-le-pow_right some few in
    omega (arith, room, c.loop-place.invariant.range)

pub overflow_add-number : goal.overflow_add-number
overflow_add-number c =
    let few : c.loop-place.place ≤ 7 = omega (arith, c.loop-place-test.true) in
    let some : 0 < 256 = omega arith in
    let room : 256 ^ c.loop-place.place ≤ 256 ^ 7 = pow-le-pow_right some few in
    omega (arith, room, c.loop-place.invariant.range, c.byte_or_zero.ensures.small)

pub loop-place-preserved : goal.loop-place-preserved
loop-place-preserved c = record {
  value = ap (λ byte. word_from (8 - (c.loop-place.place + 1)) (c.loop-place.number * 256 + byte) (drop (c.loop-place.place + 1) c.args.key.now)) c.byte_or_zero.ensures.value
      ∙ sym (word_from-next c.loop-place.place c.loop-place.number c.args.key.now c.loop-place-test.true)
      ∙ c.loop-place.invariant.value;
  range = omega (arith, ap (λ n. 256 ^ n) (let next : c.loop-place.place + 1 ≡ suc c.loop-place.place = omega arith in next), pow-suc 256 c.loop-place.place, c.loop-place.invariant.range, c.byte_or_zero.ensures.small);
}
