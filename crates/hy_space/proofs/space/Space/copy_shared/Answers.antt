use Rattle.std.proofs.Common.{◌≡◌, ◌≢◌, ◌<◌, ◌-◌, ℕ, List, ap, sym, ◌∙◌, subst, arith}
use Rattle.hy_frames.specs.FrameTable.{Frame, Sets, count_of, page_of, lent_at}
use Rattle.hy_space.specs.Space.{SpaceState, HasPage, owner_bytes, table_bytes, with_page, MakesPrivate, frame_no, page_bytes, DropsUsers}
use Rattle.hy_space.proofs.UserLaws.{same, DropsUsers-one}
use Rattle.hy_space.proofs.TableLaws.{page_at-table_bytes, with_page_same}
use Rattle.hy_space.proofs.SpaceLaws.{TakesOne-from, IsKept, replaced, copied}
use Rattle.hy_space.proofs.space.Space.copy_shared.Goals as goal
use Rattle.hy_space.proofs.space.Space.copy_shared.Given as given

-- the page stands in the fresh frame
after_kept : (g : given.Over) (c : goal.After-replace g) → (IsKept g.row.N (record { owner = c.self.inside.owner; children = c.self.inside.children.items; frames = c.self.inside.frames }) (record { owner = c.replace.new.self; children = c.self.inside.children.items; frames = c.drop_one.new.self })) × (table_bytes c.drop_one.new.self c.replace.new.self ≡ owner_bytes (record { owner = c.self.inside.owner; children = c.self.inside.children.items; frames = c.self.inside.frames }))
after_kept g c =
    let s : SpaceState = record { owner = c.self.inside.owner; children = c.self.inside.children.items; frames = c.self.inside.frames } in
    let is : s ≡ c.args.self.now = c.self.view_is in
    let new = c.drop_one.new.self in
    let fresh = c.in_ok-fresh.fresh in
    let f = c.frame-shared.result in
    let bytes = page_of s.frames f in
    let is_f : f ≡ frame_no s c.args.segment c.args.page = c.frame-shared.ensures in
    let place = subst (λ now. HasPage now c.args.segment c.args.page) (sym is) c.requires.there in
    let shared : 1 < count_of s.frames (frame_no s c.args.segment c.args.page) = subst (λ now. 1 < count_of now.frames (frame_no now c.args.segment c.args.page)) (sym is) c.requires.shared in
    let takes = TakesOne-from s.frames c.take_copy.new.self fresh bytes c.in_ok-fresh.ensures.takes.unused c.in_ok-fresh.ensures.takes.set in
    let used : 0 < count_of c.take_copy.new.self f = omega (arith, takes.counts f, ap (count_of s.frames) is_f) in
    let drops = subst (λ n. DropsUsers c.take_copy.new.self new (λ h. same n h)) is_f (DropsUsers-one c.take_copy.new.self new f used c.drop_one.ensures.last c.drop_one.ensures.more c.drop_one.ensures.freed c.drop_one.ensures.kept) in
    let done = replaced g.row.N s c.self.invariant c.args.segment c.args.page fresh bytes c.take_copy.new.self new place shared c.in_ok-fresh.ensures.takes.unused takes drops in
    let content : bytes ≡ page_bytes s c.args.segment c.args.page = ap (page_of s.frames) is_f ∙ sym (page_at-table_bytes s.frames s.owner c.args.segment c.args.page place.1) in
    let same_bytes : with_page (owner_bytes s) c.args.segment c.args.page bytes ≡ owner_bytes s = ap (with_page (owner_bytes s) c.args.segment c.args.page) content ∙ with_page_same (owner_bytes s) c.args.segment c.args.page in
    subst (λ owner. (IsKept g.row.N s (record { owner = owner; children = s.children; frames = new })) × (table_bytes new owner ≡ owner_bytes s)) (sym c.replace.ensures) (done.0, done.1 ∙ same_bytes)

pub invariant_of-self-2 : goal.invariant_of-self-2
invariant_of-self-2 g c = (after_kept g c).0.counted

pub returns-clause-bytes : goal.returns-clause-bytes
returns-clause-bytes g c = (after_kept g c).1 ∙ ap owner_bytes c.self.view_is

pub returns-clause-made : goal.returns-clause-made
returns-clause-made g c =
    let s : SpaceState = record { owner = c.self.inside.owner; children = c.self.inside.children.items; frames = c.self.inside.frames } in
    let is : s ≡ c.args.self.now = c.self.view_is in
    let mid = c.take_copy.new.self in
    let new = c.drop_one.new.self in
    let segment = c.args.segment in
    let page = c.args.page in
    let fresh = c.in_ok-fresh.fresh in
    let f = c.frame-shared.result in
    let takes = c.in_ok-fresh.ensures.takes in
    let is_f : f ≡ frame_no s segment page = c.frame-shared.ensures in
    let place = subst (λ now. HasPage now segment page) (sym is) c.requires.there in
    let shared : 1 < count_of s.frames (frame_no s segment page) = subst (λ now. 1 < count_of now.frames (frame_no now segment page)) (sym is) c.requires.shared in
    let apart : f ≢ fresh = λ e. absurd (omega (arith, takes.unused, ap (count_of s.frames) e, ap (count_of s.frames) is_f)) in
    let more : 1 < count_of mid f = omega (arith, ap (λ (x : Frame). x.count) (takes.set.others f apart), ap (count_of s.frames) is_f) in
    let after = λ (owner : List (List ℕ)). let now : SpaceState = record { owner = owner; children = s.children; frames = new } in now in
    let kept = subst (λ owner. IsKept g.row.N s (after owner)) c.replace.ensures (after_kept g c).0 in
    let sets = subst (λ n. Sets mid new n (record { count = count_of mid n - 1; bytes = page_of mid n; lent = lent_at mid n })) is_f (c.drop_one.ensures.more more) in
    let done = copied g.row.N s c.self.invariant segment page fresh (page_of s.frames f) mid new place shared takes sets (c.drop_one.ensures.kept more) kept in
    subst (λ now. MakesPrivate now (after c.replace.new.self) segment page) is (subst (λ owner. MakesPrivate s (after owner) segment page) (sym c.replace.ensures) done)
