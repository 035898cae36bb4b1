use Rattle.std.proofs.Common.{◌∙◌, sym}
use Rattle.hy_scenarios.proofs.MarkLaws.{body-more}
use Rattle.hy_scenarios.proofs.marks.body_of.Goals as goal

pub loop-place-preserved : goal.loop-place-preserved
loop-place-preserved c = body-more c.args.later.now c.loop-place.place _ c.loop-place-test.true
    (sym c.is_head.ensures ∙ c.if-is_head.false) c.loop-place.invariant
