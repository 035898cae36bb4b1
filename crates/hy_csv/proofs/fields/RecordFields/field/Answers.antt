use Rattle.std.proofs.Common.{◌∙◌, arith}
use Rattle.csv.specs.Records.{fields_of}
use Rattle.hy_csv.proofs.LackingLaws.{field-empty, field-none, field-own}
use Rattle.hy_csv.proofs.fields.RecordFields.field.Goals as goal

pub returns-then-place-count : goal.returns-then-place-count
returns-then-place-count c =
    c.get.ensures.value
    ∙ field-own (fields_of c.args.self.now.fields.now) c.args.self.now.lacking c.args.place
    (omega (arith, c.len-count.ensures, c.if-place-count.true))

pub returns-then-place-count-2 : goal.returns-then-place-count-2
returns-then-place-count-2 c =
    field-empty (fields_of c.args.self.now.fields.now) c.args.self.now.lacking c.args.place
    (omega (arith, c.len-count.ensures, c.if-place-count.false))
    (omega (arith, c.len-count.ensures, c.if-place-count-2.true))

pub returns-else-place-count-2 : goal.returns-else-place-count-2
returns-else-place-count-2 c =
    field-none (fields_of c.args.self.now.fields.now) c.args.self.now.lacking c.args.place
    (omega (arith, c.len-count.ensures, c.if-place-count.false))
    (omega (arith, c.len-count.ensures, c.if-place-count-2.false))
