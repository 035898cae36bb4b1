use Rattle.std.proofs.Common.{lit<, ◌≡◌, ◌-◌, ◌<◌, ℕ, List, get_or, length, sym, ap, ◌∙◌, arith}
use Rattle.std.proofs.lemmas.List.{get_or_read}
use Rattle.hy_undo.specs.UndoLog.{Image, UndoLog}
use Rattle.hy_undo.proofs.ChildBackLaws.{none, turn, may_write, back_more, back_skip}
use Rattle.hy_undo.proofs.Undo.put_back_in_child.Goals as goal

-- the count that was read is that of the log
count_read : (log : UndoLog) (counts : List ℕ) (images : List Image) (segment count : ℕ) → record { counts = counts; images = images } ≡ log → segment < length log.counts → count ≡ get_or counts segment count → count ≡ get_or log.counts segment 0
count_read log counts images segment count is within read =
    let inside : segment < length counts = omega (arith, ap (λ (all : UndoLog). length all.counts) is) in
    get_or_read counts segment count inside read 0 ∙ ap (λ (all : UndoLog). get_or all.counts segment 0) is

pub loop-left-preserved-then-image-index : goal.loop-left-preserved-then-image-index
loop-left-preserved-then-image-index g c =
    let log = c.args.self.now in
    let image : Image = record { segment = c.image-image.result.segment; page = c.image-image.result.page; offset = c.image-image.result.offset; bytes = c.image-image.result.bytes.now } in
    let i = c.loop-left.left - 1 in
    let read : get_or log.images i none ≡ image = ap (λ (all : UndoLog). get_or all.images i none) (sym c.self.view_is) ∙ c.image-image.ensures in
    let this = turn g.row.N log c.args.space.now c.loop-left.space c.args.child c.loop-left.left c.loop-left.end image (omega arith) c.requires.images c.loop-left.invariant.back c.loop-left.invariant.end read in
    record {
      back = back_more g.row.N log c.args.space.now c.loop-left.space c.args.child i image this.within read c.requires.is_open this.writable this.before c.child_write.new.self c.child_write.ensures.bytes c.child_write.ensures.only;
      end = this.ends;
    }

pub loop-left-preserved : goal.loop-left-preserved
loop-left-preserved g c =
    let log = c.args.self.now in
    let image : Image = record { segment = c.image-image.result.segment; page = c.image-image.result.page; offset = c.image-image.result.offset; bytes = c.image-image.result.bytes.now } in
    let i = c.loop-left.left - 1 in
    let read : get_or log.images i none ≡ image = ap (λ (all : UndoLog). get_or all.images i none) (sym c.self.view_is) ∙ c.image-image.ensures in
    let this = turn g.row.N log c.args.space.now c.loop-left.space c.args.child c.loop-left.left c.loop-left.end image (omega arith) c.requires.images c.loop-left.invariant.back c.loop-left.invariant.end read in
    let is = count_read log c.self.inside.counts.items _ image.segment c.index.result.now c.self.view_is this.writable.segment c.index.ensures in
    record {
      back = back_skip g.row.N log c.args.space.now c.loop-left.space c.args.child i image this.within read c.requires.is_open this.writable this.before (omega (arith, is));
      end = this.ends;
    }

pub child_write-requires : goal.child_write-requires
child_write-requires g c =
    let log = c.args.self.now in
    let image : Image = record { segment = c.image-image.result.segment; page = c.image-image.result.page; offset = c.image-image.result.offset; bytes = c.image-image.result.bytes.now } in
    let i = c.loop-left.left - 1 in
    let read : get_or log.images i none ≡ image = ap (λ (all : UndoLog). get_or all.images i none) (sym c.self.view_is) ∙ c.image-image.ensures in
    let this = turn g.row.N log c.args.space.now c.loop-left.space c.args.child c.loop-left.left c.loop-left.end image (omega arith) c.requires.images c.loop-left.invariant.back c.loop-left.invariant.end read in
    let is = count_read log c.self.inside.counts.items _ image.segment c.index.result.now c.self.view_is this.writable.segment c.index.ensures in
    let may = may_write g.row.N log c.args.space.now c.loop-left.space c.args.child i image this.within read c.requires.is_open this.writable this.before (omega (arith, is)) in
    (lit< tt, (may.0, (may.1, this.writable.within)))
