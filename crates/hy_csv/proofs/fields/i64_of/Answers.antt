use Rattle.std.proofs.Common.{◌≡◌, ◌∙◌, Some, None, sym, ap}
use Rattle.std.specs.Prelude.{option_and_then}
use Rattle.hy_decimal.specs.Numbers.{number_of}
use Rattle.hy_csv.specs.inside.Signs.{below_zero}
use Rattle.hy_csv.proofs.FieldLaws.{above_zero, ok-above_zero, signed-cut, signed-uncut}
use Rattle.hy_csv.proofs.fields.i64_of.Goals as goal

pub returns-in_err-number-in-Some : goal.returns-in_err-number-in-Some
returns-in_err-number-in-Some c =
    let read : None ≡ number_of 64 c.in-Some.digits.now = sym c.in_err-number-in-Some.was ∙ c.number.ensures in
    c.from_residual.ensures ∙ ap (λ read. option_and_then below_zero read) read
    ∙ sym (signed-cut c.args.field.now c.in-Some.digits.now c.in-Some.ensures.cases.0 c.in-Some.ensures.cases.1)

pub returns-in_err-number-in-None : goal.returns-in_err-number-in-None
returns-in_err-number-in-None c =
    let read : None ≡ number_of 64 c.args.field.now = sym c.in_err-number-in-None.was ∙ c.number-in-None.ensures in
    c.from_residual-in_err-number-in-None.ensures ∙ ap (λ read. option_and_then above_zero read) read
    ∙ sym (signed-uncut c.args.field.now c.in-None.ensures.cases)

pub returns-in_ok-number-in-Some : goal.returns-in_ok-number-in-Some
returns-in_ok-number-in-Some c =
    let read : Some c.in_ok-number-in-Some.field-0 ≡ number_of 64 c.in-Some.digits.now =
    sym c.in_ok-number-in-Some.was ∙ c.number.ensures in
    c.negated.ensures ∙ ap (λ read. option_and_then below_zero read) read
    ∙ sym (signed-cut c.args.field.now c.in-Some.digits.now c.in-Some.ensures.cases.0 c.in-Some.ensures.cases.1)

pub returns-in_ok-number-in-None : goal.returns-in_ok-number-in-None
returns-in_ok-number-in-None c =
    let read : Some c.in_ok-number-in-None.field-0 ≡ number_of 64 c.args.field.now =
    sym c.in_ok-number-in-None.was ∙ c.number-in-None.ensures in
    c.ok.ensures.value ∙ ok-above_zero c.in_ok-number-in-None.field-0 c.try_from.result c.try_from.ensures
    ∙ ap (λ read. option_and_then above_zero read) read ∙ sym (signed-uncut c.args.field.now c.in-None.ensures.cases)
