-- Nothing is cut off while they are no more than may be kept.
use Rattle.std.proofs.Common.{arith}
use Rattle.hy_sound.proofs.ListLaws.{item-there}
use Rattle.hy_recovery.proofs.JoinedLaws.{joined-next, joined-then}
use Rattle.hy_recovery.proofs.counting.count_all.Goals as goal

pub loop-number-preserved : goal.loop-number-preserved
loop-number-preserved c fits =
    let at = item-there c.args.batches.now c.loop-number.number c.batch.result.now _
    (omega (arith, c.loop-number-test.true, c.count-number-end.ensures)) c.batch.ensures in
    let next = joined-then c.args.batches.now c.loop-number.number c.args.place c.batch.result.now at in
    let less = joined-next c.args.batches.now c.loop-number.number c.args.place c.batch.result.now at in
    let before = c.loop-number.invariant fits in
    omega (arith, next, less, before, fits, c.count_at.ensures, c.saturating_add-sum.ensures)
