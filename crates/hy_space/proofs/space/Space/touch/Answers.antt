use Rattle.std.proofs.Common.{◌≡◌, ap, sym, ◌∙◌, subst, false, ℕ}
use Rattle.hy_frames.specs.FrameTable.{Sets, count_of, page_of}
use Rattle.hy_space.specs.Space.{SpaceState, HasPage, IsOwn, MakesPrivate, frame_no}
use Rattle.hy_space.proofs.SpaceLaws.{written, MakesPrivate-written}
use Rattle.hy_space.proofs.space.Space.touch.Goals as goal

-- the owner's own page is taken back where it stands
pub returns-then-count-eq1-clause-made : goal.returns-then-count-eq1-clause-made
returns-then-count-eq1-clause-made g c =
    let s : SpaceState = record { owner = c.self.inside.owner; children = c.self.inside.children.items; frames = c.self.inside.frames } in
    let is : s ≡ c.args.self.now = c.self.view_is in
    let new = c.take_back.new.self in
    let segment = c.args.segment in
    let page = c.args.page in
    let f = c.frame-frame.result in
    let place = subst (λ now. HasPage now segment page) (sym is) c.requires in
    let is_f : f ≡ frame_no s segment page = c.frame-frame.ensures in
    let one : count_of s.frames f ≡ 1 = sym c.count.ensures ∙ c.if-count-eq1.true in
    let own : IsOwn s segment page = ap (count_of s.frames) (sym is_f) ∙ one in
    let at_f = subst (λ (n : ℕ). Sets s.frames new f (record { count = n; bytes = page_of s.frames f; lent = false })) one c.in_ok-take_back.ensures.set in
    let sets = subst (λ n. Sets s.frames new n (record { count = 1; bytes = page_of s.frames f; lent = false })) is_f at_f in
    let done = written g.row.N s c.self.invariant segment page place own new (page_of s.frames f) sets c.in_ok-take_back.ensures.free in
    subst (λ now. MakesPrivate now (record s { frames = new }) segment page) is (MakesPrivate-written s (record s { frames = new }) segment page (page_of s.frames f) own done)
