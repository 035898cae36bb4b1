use Rattle.std.proofs.Common.{◌≡◌, ◌<◌, ◌≤◌, length, slice_index, arith}
use Rattle.hy_space.specs.Space.{page_count}
use Rattle.hy_undo.proofs.RollBackLaws.{page_count-ahead, cut_more}
use Rattle.hy_undo.proofs.PrivatePageLaws.{GivesUpPages-then}
use Rattle.hy_undo.proofs.Undo.cut_grown.Goals as goal

pub cut_segment-requires : goal.cut_segment-requires
cut_segment-requires g c =
    let now = c.loop-segment.space in
    let segment = c.loop-segment.segment in
    let segments = c.loop-segment.invariant.gives_up.fewer.segments in
    let ahead = page_count-ahead c.args.space.now now c.args.self.now.counts segment c.loop-segment.invariant.bytes in
    let there : segment < length now.owner = omega arith in
    let counted : length c.args.self.now.counts ≡ length now.owner = omega arith in
    let within : slice_index c.args.self.now.counts segment ≤ page_count now segment = omega (arith, c.requires.counts segment) in
    (omega arith, (omega arith, (there, (counted, (within, c.loop-segment.invariant.private)))))

pub loop-segment-preserved : goal.loop-segment-preserved
loop-segment-preserved g c =
    let before = c.loop-segment.invariant in
    let cut = c.cut_segment.ensures in
    let counted : c.loop-segment.segment < length c.args.self.now.counts = omega arith in
    record {
      bytes = cut_more c.args.space.now c.loop-segment.space c.cut_segment.new.space c.args.self.now.counts c.loop-segment.segment counted before.bytes cut.bytes;
      gives_up = GivesUpPages-then c.args.space.now c.loop-segment.space c.cut_segment.new.space before.gives_up cut.gives_up;
      private = cut.private;
    }
