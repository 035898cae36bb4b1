use Rattle.std.proofs.Common.{◌∙◌, rules, arith}
use Rattle.std.proofs.lemmas.Str.Parse.{digit_at}
use Rattle.hy_decimal.proofs.NumberLaws.{all_digits, first_digits, not_written}
use Rattle.hy_decimal.proofs.number.Goals as goal
use Rattle.hy_decimal.proofs.number.Goals.{then-is_empty-via-then-is_empty, then-is_empty-via-else-is_empty+then-text-eq48, then-text-gt1, else-text-gt1}

pub returns-then-is_empty : goal.returns-then-is_empty
returns-then-is_empty c = not_written c.args.text.now (λ written. elim c.then-is_empty.branch [
  | then-is_empty-via-then-is_empty w ↦ search (rules, written.some)
  | then-is_empty-via-else-is_empty+then-text-eq48 w ↦ elim w.if-text-gt1.branch [
    | then-text-gt1 v ↦ search (rules, written.no_zero)
    | else-text-gt1 v ↦ search rules
  ]
])

pub returns-then-not-is_ascii_digit : goal.returns-then-not-is_ascii_digit
returns-then-not-is_ascii_digit c = not_written c.args.text.now (λ written.
    let digit = digit_at c.args.text.now c.loop-byte.byte-index written.digits c.loop-byte-test.true in
    search (rules, digit))

pub returns-in_err-checked_mul : goal.returns-in_err-checked_mul
returns-in_err-checked_mul c = c.from_residual.ensures ∙ not_written c.args.text.now (λ written.
    let digit = digit_at c.args.text.now c.loop-byte.byte-index written.digits c.loop-byte-test.true in
    let first = first_digits c.args.text.now c.loop-byte.byte-index c.loop-byte.number c.loop-byte-test.true digit
    c.loop-byte.invariant.0 in
    c.in_err-checked_mul.ensures (omega (arith, first, written.fits)))

pub returns-in_err-number : goal.returns-in_err-number
returns-in_err-number c = c.from_residual-in_err-number.ensures ∙ not_written c.args.text.now (λ written.
    let digit = digit_at c.args.text.now c.loop-byte.byte-index written.digits c.loop-byte-test.true in
    let first = first_digits c.args.text.now c.loop-byte.byte-index c.loop-byte.number c.loop-byte-test.true digit
    c.loop-byte.invariant.0 in
    c.in_err-number.ensures (omega (arith, first, written.fits, c.in_ok-checked_mul.ensures, c.into.ensures)))

pub returns : goal.returns
returns c = all_digits c.args.text.now c.loop-byte.byte-index c.loop-byte.number (search rules) (search rules)
    (λ first. elim c.if-text-gt1.branch [ then-text-gt1 v ↦ search (rules, first) | else-text-gt1 v ↦ search rules ])
    c.loop-byte.invariant.0 c.loop-byte.invariant.1 c.loop-byte.invariant.2
