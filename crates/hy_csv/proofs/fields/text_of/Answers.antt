use Rattle.std.proofs.Common.{arith, ◌∙◌, sym}
use Rattle.hy_csv.proofs.FieldLaws.{text-fits, text-long, text-refused, text-taken}
use Rattle.hy_csv.proofs.fields.text_of.Goals as goal
use Rattle.hy_csv.proofs.fields.text_of.Goals.{else-field-width-via-then-field-width+else-is_printable, else-field-width-via-else-field-width}

pub returns-then-is_printable-clause-said : goal.returns-then-is_printable-clause-said
returns-then-is_printable-clause-said c =
    text-taken c.args.width c.args.field.now c.if-field-width.true (sym c.is_printable.ensures ∙ c.if-is_printable.true)

pub returns-then-is_printable-clause-fits : goal.returns-then-is_printable-clause-fits
returns-then-is_printable-clause-fits c =
    text-fits c.args.width c.args.field.now c.if-field-width.true (sym c.is_printable.ensures ∙ c.if-is_printable.true)

pub returns-else-field-width-clause-said : goal.returns-else-field-width-clause-said
returns-else-field-width-clause-said c = elim c.else-field-width.branch [
  | else-field-width-via-then-field-width+else-is_printable w ↦
      text-refused c.args.width c.args.field.now (sym w.is_printable.ensures ∙ w.if-is_printable.false)
  | else-field-width-via-else-field-width w ↦
      text-long c.args.width c.args.field.now (omega (arith, w.if-field-width.false))
]
