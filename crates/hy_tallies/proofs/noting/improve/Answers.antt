use Rattle.std.proofs.Common.{◌∙◌}
use Rattle.std.proofs.lemmas.Result.{on_ok_weaker}
use Rattle.hy_tallies.proofs.StepLaws.{best-kept, best-set}
use Rattle.hy_tallies.proofs.noting.improve.Goals as goal

pub returns-then-is_better : goal.returns-then-is_better
returns-then-is_better c =
    on_ok_weaker c.set.result
    (λ set. set ∙ best-set c.args.extreme c.args.column.now c.args.number c.args.value.now c.value.result c.is_better.result
    c.requires c.value.ensures c.is_better.ensures c.if-is_better.true) c.set.ensures

pub returns : goal.returns
returns c =
    best-kept c.args.extreme c.args.column.now c.args.number c.args.value.now c.value.result c.is_better.result
    c.requires c.value.ensures c.is_better.ensures c.if-is_better.false
