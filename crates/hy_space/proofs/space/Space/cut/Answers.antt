use Rattle.std.proofs.Common.{◌≡◌, ◌<◌, ◌-◌, [], length, take, drop, get_or, ap, sym, ◌∙◌, subst, arith}
use Rattle.std.proofs.lemmas.List.{take_rest, get_or_read}
use Rattle.hy_frames.specs.FrameTable.{occurrences}
use Rattle.hy_space.specs.Space.{SpaceState, owner_bytes, table_bytes, with_first_pages, child_bytes, KeepsOwn}
use Rattle.hy_space.specs.Space.{DropsUsers}
use Rattle.hy_space.proofs.TableLaws.{occurrences-drop-le}
use Rattle.hy_space.proofs.SpaceLaws.{IsKept, trimmed, cut_keeps}
use Rattle.hy_space.proofs.space.Space.cut.Goals as goal
use Rattle.hy_space.proofs.space.Space.cut.Given as given

-- the slice of frames that are given up is the segment's end
ending : (g : given.Over) (c : goal.After-drop_each-arg-2-1 g) → take (length c.frames-numbers.result.now - c.args.pages) (drop c.args.pages c.frames-numbers.result.now) ≡ drop c.args.pages (get_or c.self.inside.owner c.args.segment [])
ending g c =
    let s : SpaceState = record { owner = c.self.inside.owner; children = c.self.inside.children.items; frames = c.self.inside.frames } in
    let is : s ≡ c.args.self.now = c.self.view_is in
    let there : c.args.segment < length s.owner = subst (λ now. c.args.segment < length now.owner) (sym is) c.requires.there in
    let row : c.index-segments-segment.result ≡ get_or s.owner c.args.segment [] = get_or_read c.segments.result.now c.args.segment c.index-segments-segment.result (omega (arith, ap length c.segments.ensures)) c.index-segments-segment.is [] ∙ ap (λ rows. get_or rows c.args.segment []) c.segments.ensures in
    take_rest c.frames-numbers.result.now c.args.pages ∙ ap (drop c.args.pages) (c.frames-numbers.ensures ∙ row)

pub drop_each-requires : goal.drop_each-requires
drop_each-requires g c =
    let s : SpaceState = record { owner = c.self.inside.owner; children = c.self.inside.children.items; frames = c.self.inside.frames } in
    let is : s ≡ c.args.self.now = c.self.view_is in
    let there : c.args.segment < length s.owner = subst (λ now. c.args.segment < length now.owner) (sym is) c.requires.there in
    (omega arith, λ f. omega (arith, ap (occurrences f) (ending g c), occurrences-drop-le f s.owner c.args.segment c.args.pages there, c.self.invariant.exact f))

there : (g : given.Over) (c : goal.After-truncate g) → c.args.segment < length c.self.inside.owner
there g c = subst (λ now. c.args.segment < length now.owner) (sym c.self.view_is) c.requires.there

-- the frames of the segment's end lose their user
drops : (g : given.Over) (c : goal.After-truncate g) → DropsUsers c.self.inside.frames c.drop_each.new.frames (λ f. occurrences f (drop c.args.pages (get_or c.self.inside.owner c.args.segment [])))
drops g c =
    let s : SpaceState = record { owner = c.self.inside.owner; children = c.self.inside.children.items; frames = c.self.inside.frames } in
    let row : c.index-segments-segment.result ≡ get_or s.owner c.args.segment [] = get_or_read c.segments.result.now c.args.segment c.index-segments-segment.result (omega (arith, ap length c.segments.ensures, there g c)) c.index-segments-segment.is [] ∙ ap (λ rows. get_or rows c.args.segment []) c.segments.ensures in
    let end = take_rest c.frames-numbers.result.now c.args.pages ∙ ap (drop c.args.pages) (c.frames-numbers.ensures ∙ row) in
    subst (λ numbers. DropsUsers s.frames c.drop_each.new.frames (λ f. occurrences f numbers)) end c.drop_each.ensures

after : (g : given.Over) (c : goal.After-truncate g) → (IsKept g.row.N (record { owner = c.self.inside.owner; children = c.self.inside.children.items; frames = c.self.inside.frames }) (record { owner = c.truncate.new.self; children = c.self.inside.children.items; frames = c.drop_each.new.frames })) × (table_bytes c.drop_each.new.frames c.truncate.new.self ≡ with_first_pages (owner_bytes (record { owner = c.self.inside.owner; children = c.self.inside.children.items; frames = c.self.inside.frames })) c.args.segment c.args.pages)
after g c =
    let s : SpaceState = record { owner = c.self.inside.owner; children = c.self.inside.children.items; frames = c.self.inside.frames } in
    let done = trimmed g.row.N s c.self.invariant c.args.segment c.args.pages c.drop_each.new.frames (there g c) (drops g c) in
    subst (λ owner. (IsKept g.row.N s (record { owner = owner; children = s.children; frames = c.drop_each.new.frames })) × (table_bytes c.drop_each.new.frames owner ≡ with_first_pages (owner_bytes s) c.args.segment c.args.pages)) (sym c.truncate.ensures) done

pub invariant_of-self : goal.invariant_of-self
invariant_of-self g c = (after g c).0.counted

pub returns-clause-bytes : goal.returns-clause-bytes
returns-clause-bytes g c = (after g c).1 ∙ ap (λ now. with_first_pages (owner_bytes now) c.args.segment c.args.pages) c.self.view_is

pub returns-clause-children : goal.returns-clause-children
returns-clause-children g c = record {
  tables = ap (λ now. now.children) c.self.view_is;
  bytes = λ child. (after g c).0.children child ∙ ap (λ now. child_bytes now child) c.self.view_is;
}

pub returns-clause-kept : goal.returns-clause-kept
returns-clause-kept g c =
    let s : SpaceState = record { owner = c.self.inside.owner; children = c.self.inside.children.items; frames = c.self.inside.frames } in
    let keeps = cut_keeps g.row.N s c.self.invariant c.args.segment c.args.pages c.drop_each.new.frames (there g c) (drops g c) in
    subst (λ now. KeepsOwn now (record { owner = c.truncate.new.self; children = s.children; frames = c.drop_each.new.frames })) c.self.view_is (subst (λ owner. KeepsOwn s (record { owner = owner; children = s.children; frames = c.drop_each.new.frames })) (sym c.truncate.ensures) keeps)
