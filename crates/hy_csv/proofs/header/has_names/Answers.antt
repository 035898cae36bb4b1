use Rattle.std.proofs.Common.{◌∙◌, sym}
use Rattle.std.proofs.lemmas.Bool.{and_left, not-false, not-true}
use Rattle.csv.specs.Records.{fields_of}
use Rattle.hy_csv.proofs.HeaderLaws.{and_true, has_step, other_count}
use Rattle.hy_csv.proofs.header.has_names.Goals as goal

pub returns-then-len-columns : goal.returns-then-len-columns
returns-then-len-columns c =
    other_count (fields_of c.args.fields.now) c.args.columns.now (λ same. c.if-len-columns.true (c.len.ensures ∙ same))

pub returns-then-ne : goal.returns-then-ne
returns-then-ne c =
    let step = has_step (fields_of c.args.fields.now) c.args.columns.now c.loop-place.place _ c.get.result
    c.loop-place-test.true c.loop-place.invariant.0 c.get.ensures.value in
    let other = not-true _ (sym c.ne.ensures ∙ c.if-ne.true) in
    sym (c.loop-place.invariant.1 ∙ step ∙ and_left _ _ other)

pub loop-place-preserved : goal.loop-place-preserved
loop-place-preserved c =
    let step = has_step (fields_of c.args.fields.now) c.args.columns.now c.loop-place.place _ c.get.result
    c.loop-place-test.true c.loop-place.invariant.0 c.get.ensures.value in
    let same = not-false _ (sym c.ne.ensures ∙ c.if-ne.false) in
    (c.loop-place.invariant.0, c.loop-place.invariant.1 ∙ step ∙ and_true _ _ same)
