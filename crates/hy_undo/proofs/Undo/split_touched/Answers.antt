use Rattle.std.proofs.Common.{lit<, ◌+◌, ◌&&◌, not, drop, List, ℕ, ◌≡◌, ◌<◌, ◌≤◌, true, false, length, sym, ap, ◌∙◌, subst, arith}
use Rattle.hy_frames.specs.FrameTable.{count_of}
use Rattle.hy_space.specs.Space.{SpaceState, HasChildPage, MovesChildPage, child_frame_no}
use Rattle.std.specs.List.{list_any}
use Rattle.hy_undo.specs.UndoLog.{UndoLog}
use Rattle.hy_undo.specs.Touched.{PageAddress, was_there, is_same_address}
use Rattle.hy_undo.specs.inside.Fork.{addresses, address_at}
use Rattle.hy_undo.proofs.SplitLaws.{IsSplitUpTo, is_last, split_skip, split_more, split_end, shared_here, has_child_page, has_two_users, page_there, HasPage-same}
use Rattle.hy_undo.proofs.Undo.split_touched.Goals as goal
use Rattle.hy_undo.proofs.Undo.split_touched.Goals.{then-is_last_touched+in_ok-child_own, else-is_last_touched}

pub child_own-requires : goal.child_own-requires
child_own-requires g c =
    let log = c.args.self.now in
    let now = c.loop-i.space in
    let child = c.args.child in
    let i = c.loop-i.i in
    let before = c.loop-i.invariant in
    let within : i < length log.images = omega (arith, ap (λ (all : UndoLog). length all.images) c.self.view_is) in
    let q = address_at log.images i in
    let there = HasPage-same c.args.space.now now q.segment q.page before.changes.owner.table (page_there c.args.space.now log.images i c.requires.images within) in
    let shared = shared_here log c.args.space.now now child i within before in
    let back = sym (c.piece-piece.ensures ∙ ap (λ (all : UndoLog). address_at all.images i) c.self.view_is) in (
      lit< tt,
      (
        subst (λ (p : PageAddress). HasChildPage now child p.segment p.page) back (has_child_page log.counts now child q.segment q.page before.beside before.shares there),
        subst (λ (p : PageAddress). 1 < count_of now.frames (child_frame_no now child p.segment p.page)) back (has_two_users log.counts now child q.segment q.page before.beside before.shares there shared),
      ),
    )

pub loop-i-preserved : goal.loop-i-preserved
loop-i-preserved g c =
    let log = c.args.self.now in
    let begin = c.args.space.now in
    let now = c.loop-i.space in
    let child = c.args.child in
    let i = c.loop-i.i in
    let before = c.loop-i.invariant in
    let within : i < length log.images = omega (arith, ap (λ (all : UndoLog). length all.images) c.self.view_is) in
    let q = address_at log.images i in
    let there = HasPage-same begin now q.segment q.page before.changes.owner.table (page_there begin log.images i c.requires.images within) in
    let test = λ (counts : List ℕ). was_there counts (address_at c.self.inside.images i) && not (list_any (is_same_address (address_at c.self.inside.images i)) (drop (i + 1) (addresses c.self.inside.images))) in
    let is : c.is_last_touched.result ≡ is_last log i = c.is_last_touched.ensures ∙ ap test c.as_slice.ensures.value ∙ ap (λ (all : UndoLog). is_last all i) c.self.view_is in
    elim c.if-is_last_touched.branch [
      | then-is_last_touched+in_ok-child_own w ↦
          let next = w.child_own.new.self in
          let last : is_last log i ≡ true = sym is ∙ w.if-is_last_touched.true in
          let own = w.in_ok-child_own.ensures in
          let moves = subst (λ (p : PageAddress). MovesChildPage now next child p.segment p.page) (w.piece-piece.ensures ∙ ap (λ (all : UndoLog). address_at all.images i) c.self.view_is) own.moves in
          subst (λ (s : SpaceState). IsSplitUpTo log begin s child (i + 1)) (sym w.space-is)
          (split_more log begin now child i within before next last there moves own.owner own.others own.bytes)
      | else-is_last_touched w ↦
          let not_last : is_last log i ≡ false = sym is ∙ w.if-is_last_touched.false in
          subst (λ (s : SpaceState). IsSplitUpTo log begin s child (i + 1)) (sym w.space-is) (split_skip log begin now child i within before not_last)
    ]

pub returns-clause-split : goal.returns-clause-split
returns-clause-split g c =
    let past : length c.args.self.now.images ≤ c.loop-i.i = omega (arith, ap (λ (all : UndoLog). length all.images) c.self.view_is) in
    (split_end c.args.self.now c.args.space.now c.loop-i.space c.args.child c.loop-i.i past c.loop-i.invariant).0
