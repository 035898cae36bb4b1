use Rattle.std.proofs.Common.{arith, ap, take}
use Rattle.hy_frames.specs.FrameTable.{occurrences}
use Rattle.hy_space.specs.Space.{times}
use Rattle.hy_space.proofs.UserLaws.{times_next}
use Rattle.hy_space.proofs.users.drop_table.Goals as goal

-- the frames of the next segment still have that many users
pub drop_each-requires : goal.drop_each-requires
drop_each-requires g c =
    let items = c.segments-segment-items.result.now in
    let i = c.loop-segment.segment-index in (
      omega arith,
      λ f. omega (
        arith,
        times_next items i c.segment-item.result (omega arith) c.segment-item.is f,
        ap (occurrences f) c.frames.ensures,
        ap (times f) c.segments-segment-items.ensures,
        ap (λ table. times f (take i table)) c.segments-segment-items.ensures,
        c.loop-segment.invariant.counts f,
        c.requires f,
      ),
    )
