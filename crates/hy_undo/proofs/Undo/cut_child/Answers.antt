use Rattle.std.proofs.Common.{◌≡◌, ◌<◌, ◌≤◌, ℕ, [], drop, get_or, length, ap, ◌∙◌, subst, arith}
use Rattle.std.proofs.lemmas.List.{get_or_read}
use Rattle.std.specs.Option.{option_map}
use Rattle.hy_frames.specs.FrameTable.{occurrences}
use Rattle.hy_space.specs.Space.{DropsUsers, page_count, child_table, child_bytes, with_first_frames, with_first_pages}
use Rattle.hy_undo.specs.UndoLog.{UndoLog}
use Rattle.hy_undo.specs.inside.Fork.{rows_of}
use Rattle.hy_undo.proofs.CutLaws.{cut_next}
use Rattle.hy_undo.proofs.Undo.cut_child.Goals as goal

pub loop-segment-preserved : goal.loop-segment-preserved
loop-segment-preserved g c =
    let log = c.args.self.now in
    let begin = c.args.space.now in
    let now = c.loop-segment.space in
    let next = c.child_cut.new.self in
    let child = c.args.child in
    let k = c.loop-segment.segment in
    let before = c.loop-segment.invariant in
    let cut = c.child_cut.ensures in
    let table = before.changes.owner.table in
    let there : k < length now.owner = omega (arith, ap length table) in
    let counted : k < length log.counts = omega (arith, ap length table, c.requires.counts) in
    let few : get_or log.counts k 0 ≤ page_count now k = omega (arith, c.requires.within k, ap (λ all. length (get_or all k [])) table) in
    let inside : k < length c.self.inside.counts.items = omega (arith, ap (λ (all : UndoLog). length all.counts) c.self.view_is) in
    let is : c.index.result.now ≡ get_or log.counts k 0 = get_or_read c.self.inside.counts.items k c.index.result.now inside c.index.ensures 0 ∙ ap (λ (all : UndoLog). get_or all.counts k 0) c.self.view_is in
    cut_next log begin now next child k there counted few
    (subst (λ (n : ℕ). child_table next child ≡ option_map (λ t. with_first_frames t k n) (child_table now child)) is cut.table)
    (subst (λ (n : ℕ). child_bytes next child ≡ option_map (λ all. with_first_pages all k n) (child_bytes now child)) is cut.bytes)
    cut.owner cut.others
    (subst (λ (n : ℕ). DropsUsers now.frames next.frames (λ f. occurrences f (drop n (get_or (rows_of now child) k [])))) is cut.users)
    before
