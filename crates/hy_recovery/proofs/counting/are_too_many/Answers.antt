-- The commits of a batch don't fit the room.
use Rattle.std.proofs.Common.{◌<◌, length, refl, arith}
use Rattle.hy_sound.proofs.ListLaws.{item-there}
use Rattle.hy_recovery.specs.Recovering.{joined}
use Rattle.hy_recovery.proofs.JoinedLaws.{joined-next}
use Rattle.hy_recovery.proofs.counting.are_too_many.Goals as goal

pub returns-then-room-count : goal.returns-then-room-count
returns-then-room-count c =
    let at = item-there c.args.batches.now c.loop-number.number c.batch.result.now _
    (omega (arith, c.loop-number-test.true, c.count-number-end.ensures)) c.batch.ensures in
    let less = joined-next c.args.batches.now c.loop-number.number c.args.place c.batch.result.now at in
    let more : c.args.most < length (joined c.args.batches.now c.args.place) =
    omega (arith, less, c.loop-number.invariant, c.if-room-count.true, c.count_at-count.ensures) in
    (λ is. more, λ is. refl)
