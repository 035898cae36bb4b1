use Rattle.std.proofs.Common.{◌≡◌, ap, sym, ◌∙◌, subst, false}
use Rattle.hy_page.specs.Bytes.{overwritten}
use Rattle.hy_frames.specs.FrameTable.{Sets, page_of}
use Rattle.hy_space.specs.Space.{SpaceState, HasPage, IsOwn, WritesPage, page_bytes, frame_no}
use Rattle.hy_space.proofs.TableLaws.{page_at-table_bytes}
use Rattle.hy_space.proofs.SpaceLaws.{written, MakesPrivate-written}
use Rattle.hy_space.proofs.space.Space.write_in_place.Goals as goal

pub returns-clause-writes : goal.returns-clause-writes
returns-clause-writes g c =
    let s : SpaceState = record { owner = c.self.inside.owner; children = c.self.inside.children.items; frames = c.self.inside.frames } in
    let is : s ≡ c.args.self.now = c.self.view_is in
    let new : SpaceState = record s { frames = c.write.new.self } in
    let f = c.frame-frame.result in
    let place : HasPage s c.args.segment c.args.page = subst (λ now. HasPage now c.args.segment c.args.page) (sym is) c.requires.there in
    let is_f : f ≡ frame_no s c.args.segment c.args.page = c.frame-frame.ensures in
    let own : IsOwn s c.args.segment c.args.page = subst (λ now. IsOwn now c.args.segment c.args.page) (sym is) c.requires.private.own in
    let bytes = overwritten (page_of s.frames f) c.args.offset c.args.bytes.now in
    let content : bytes ≡ overwritten (page_bytes s c.args.segment c.args.page) c.args.offset c.args.bytes.now =
    ap (λ page. overwritten page c.args.offset c.args.bytes.now) (ap (page_of s.frames) is_f ∙ sym (page_at-table_bytes s.frames s.owner c.args.segment c.args.page place.1))
    in
    let sets = subst (λ n. Sets s.frames c.write.new.self n (record { count = 1; bytes = bytes; lent = false })) is_f c.write.ensures.set in
    let done = written g.row.N s c.self.invariant c.args.segment c.args.page place own c.write.new.self bytes sets c.write.ensures.free in
    subst (λ now. WritesPage now new c.args.segment c.args.page (overwritten (page_bytes now c.args.segment c.args.page) c.args.offset c.args.bytes.now)) is
    (subst (λ b. WritesPage s new c.args.segment c.args.page b) content done)

pub returns-clause-kept : goal.returns-clause-kept
returns-clause-kept g c = (MakesPrivate-written c.args.self.now _ c.args.segment c.args.page _ c.requires.private.own (returns-clause-writes g c)).kept
