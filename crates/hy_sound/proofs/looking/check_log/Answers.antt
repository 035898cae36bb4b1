-- A batch more, or the first that isn't sound.
use Rattle.std.proofs.Common.{arith}
use Rattle.hy_sound.proofs.ListLaws.{item-there}
use Rattle.hy_sound.proofs.LogLaws.{found-is, sound-next, unsound-at}
use Rattle.hy_sound.proofs.looking.check_log.Goals as goal

pub returns-in-None : goal.returns-in-None
returns-in-None c =
    let at = item-there c.args.batches.now c.loop-place.place c.batch.result.now _
    (omega (arith, c.loop-place-test.true, c.count-place-end.ensures)) c.batch.ensures in
    unsound-at c.args.load.now c.loop-place.last c.loop-place.place c.args.batches.now c.batch.result.now
    c.place_of.result at c.loop-place.invariant
    (found-is c.new-known.result c.args.load.now c.loop-place.last c.batch.result.now c.look_at.result _
    c.new-known.ensures c.in-None.is c.look_at.ensures)
    c.place_of.ensures

pub loop-place-preserved : goal.loop-place-preserved
loop-place-preserved c =
    let at = item-there c.args.batches.now c.loop-place.place c.batch.result.now _
    (omega (arith, c.loop-place-test.true, c.count-place-end.ensures)) c.batch.ensures in
    sound-next c.args.load.now c.loop-place.last c.in-Some.after c.loop-place.place c.args.batches.now c.batch.result.now
    at c.loop-place.invariant
    (found-is c.new-known.result c.args.load.now c.loop-place.last c.batch.result.now c.look_at.result _
    c.new-known.ensures c.in-Some.is c.look_at.ensures)
