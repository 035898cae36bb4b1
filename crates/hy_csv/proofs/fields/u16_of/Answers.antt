use Rattle.std.proofs.Common.{arith, ◌≡◌, ◌∙◌, Some, None, sym, ap}
use Rattle.hy_decimal.specs.Numbers.{number_of}
use Rattle.hy_decimal.proofs.NumberLaws.{narrowed, number-narrowed}
use Rattle.hy_csv.proofs.FieldLaws.{ok-narrowed}
use Rattle.hy_csv.proofs.fields.u16_of.Goals as goal

pub returns-in_err-number : goal.returns-in_err-number
returns-in_err-number c =
    let read : None ≡ number_of 64 c.args.field.now = sym c.in_err-number.was ∙ c.number.ensures in
    c.from_residual.ensures ∙ sym (number-narrowed 16 c.args.field.now (omega arith) ∙ ap (narrowed 16) (sym read))

pub returns : goal.returns
returns c =
    let read : Some c.in_ok-number.field-0 ≡ number_of 64 c.args.field.now =
    sym c.in_ok-number.was ∙ c.number.ensures in
    let whole = number-narrowed 16 c.args.field.now (omega arith) ∙ ap (narrowed 16) (sym read) in
    c.ok.ensures.value ∙ ok-narrowed 16 c.in_ok-number.field-0 c.try_from.result c.try_from.ensures ∙ sym whole
