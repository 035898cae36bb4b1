-- One step more, and the ends.
use Rattle.std.proofs.Common.{◌∙◌, sym, arith}
use Rattle.hy_sound.proofs.SoundLaws.{leads-then, sound-batch, sound-from}
use Rattle.hy_sound.proofs.looking.look_at.Goals as goal

pub new-merge-requires : goal.new-merge-requires
new-merge-requires c =
    omega (arith, c.if-len-count.false, c.len.ensures, c.count.ensures.few)

pub steps-preserved : goal.steps-preserved
steps-preserved c =
    leads-then c.args.known.now c.args.before c.steps.last c.in-Passed.number c.new-merge.result c.steps.merge
    c.take_step.new.merge c.steps.invariant c.in-Passed.ensures.1

pub returns-in-AtEnd : goal.returns-in-AtEnd
returns-in-AtEnd c =
    sound-batch c.args.known.now c.args.before c.steps.last c.args.batch.now c.new-merge.result
    c.new-merge.ensures.count c.new-merge.ensures.left
    (sym c.len.ensures ∙ c.if-len-count.false ∙ c.count.ensures.count)
    (c.steps.invariant.back c.steps.last c.in-AtEnd.ensures)

pub returns-in-Unsound : goal.returns-in-Unsound
returns-in-Unsound c = λ after sound.
    c.in-Unsound.ensures after (c.steps.invariant.forth after
    (sound-from c.args.known.now c.args.before after c.args.batch.now c.new-merge.result c.new-merge.ensures.count
    c.new-merge.ensures.left sound))
