use Rattle.std.proofs.Common.{arith, take}
use Rattle.hy_frames.specs.FrameTable.{occurrences}
use Rattle.hy_space.proofs.UserLaws.{same, DropsUsers-one, DropsUsers-then, occurrences_more, occurrences_next}
use Rattle.hy_space.proofs.users.drop_each.Goals as goal

-- the next frame still has a user
pub drop_one-requires : goal.drop_one-requires
drop_one-requires g c =
    let f = c.number-item.result in
    (omega arith, omega (arith, occurrences_next c.args.numbers.now c.loop-number.number-index f (omega arith) c.number-item.is, c.loop-number.invariant.counts f, c.requires f))

pub loop-number-preserved : goal.loop-number-preserved
loop-number-preserved g c =
    let f = c.number-item.result in
    let numbers = c.args.numbers.now in
    let i = c.loop-number.number-index in
    let one = DropsUsers-one c.loop-number.frames c.drop_one.new.self f (omega (arith, occurrences_next numbers i f (omega arith) c.number-item.is, c.loop-number.invariant.counts f, c.requires f)) c.drop_one.ensures.last c.drop_one.ensures.more c.drop_one.ensures.freed c.drop_one.ensures.kept in
    DropsUsers-then c.args.frames.now c.loop-number.frames c.drop_one.new.self (λ n. occurrences n (take i numbers)) (λ n. same f n) _ c.loop-number.invariant one (λ n. occurrences_more numbers i f (omega arith) c.number-item.is n)
