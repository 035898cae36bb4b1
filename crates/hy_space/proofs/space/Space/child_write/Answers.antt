use Rattle.std.proofs.Common.{◌≡◌, ◌<◌, ℕ, List, [], length, get_or, Some, None, false, ap, sym, ◌∙◌, subst, arith, unwrap_or, rules, inl, inr}
use Rattle.std.specs.Option.{option_map}
use Rattle.hy_page.specs.Bytes.{overwritten}
use Rattle.hy_frames.specs.FrameTable.{Frame, count_of, page_of, lent_at, Sets, free_of}
use Rattle.std.proofs.lemmas.Bool.{cases_eq}
use Rattle.hy_space.specs.Space.{SpaceState, HasChildPage, child_frame_no, child_table, child_bytes, table_bytes, owner_bytes, with_page, page_at, IsChildPrivate}
use Rattle.hy_space.proofs.TableLaws.{page_at-table_bytes}
use Rattle.hy_space.proofs.ChildLaws.{opened, child_written, IsChildKept}
use Rattle.hy_space.proofs.space.Space.child_write.Goals as goal
use Rattle.hy_space.proofs.space.Space.child_write.Given as given

-- what is known of the child's table
abbrev known : ℕ → ℕ → List (List ℕ) → Type 0
known segment page table = (segment < length table) × (page < length (get_or table segment []))

pub write-requires : goal.write-requires
write-requires g c =
    let s : SpaceState = record { owner = c.self.inside.owner; children = c.self.inside.children.items; frames = c.self.inside.frames } in
    let is : s ≡ c.args.self.now = c.self.view_is in
    let there = subst (λ now. HasChildPage now c.args.child c.args.segment c.args.page) (sym is) c.requires.there in
    let found = opened s.children c.args.child (known c.args.segment c.args.page) c.index.result.now c.in-Some.table there c.index.ensures c.in-Some.is in
    let place : child_frame_no s c.args.child c.args.segment c.args.page ≡ c.frame-frame.result = ap (λ o. get_or (get_or (unwrap_or o []) c.args.segment []) c.args.page 0) found.0 ∙ sym c.frame-frame.ensures in
    let private = subst (λ now. IsChildPrivate now c.args.child c.args.segment c.args.page) (sym is) c.requires.private in
    (omega arith, (ap (count_of s.frames) (sym place) ∙ private.own, (ap (lent_at s.frames) (sym place) ∙ private.not_lent, search rules)))

found : (g : given.Over) (c : goal.After-write g) → (get_or c.self.inside.children.items c.args.child None ≡ Some c.in-Some.table) × known c.args.segment c.args.page c.in-Some.table
found g c =
    let s : SpaceState = record { owner = c.self.inside.owner; children = c.self.inside.children.items; frames = c.self.inside.frames } in
    let there = subst (λ now. HasChildPage now c.args.child c.args.segment c.args.page) (sym c.self.view_is) c.requires.there in
    opened s.children c.args.child (known c.args.segment c.args.page) c.index.result.now c.in-Some.table there c.index.ensures c.in-Some.is

-- the bytes that are written
written : (g : given.Over) (c : goal.After-write g) → List ℕ
written g c = overwritten (page_of c.self.inside.frames c.frame-frame.result) c.args.offset c.args.bytes.now

after : (g : given.Over) (c : goal.After-write g) → (IsChildKept g.row.N (record { owner = c.self.inside.owner; children = c.self.inside.children.items; frames = c.self.inside.frames }) (record { owner = c.self.inside.owner; children = c.self.inside.children.items; frames = c.write.new.self }) c.args.child) × (table_bytes c.write.new.self c.in-Some.table ≡ with_page (table_bytes c.self.inside.frames c.in-Some.table) c.args.segment c.args.page (overwritten (page_of c.self.inside.frames c.frame-frame.result) c.args.offset c.args.bytes.now)) × ((f : ℕ) → count_of c.write.new.self f ≡ count_of c.self.inside.frames f)
after g c =
    let s : SpaceState = record { owner = c.self.inside.owner; children = c.self.inside.children.items; frames = c.self.inside.frames } in
    let f = found g c in
    let private = subst (λ now. IsChildPrivate now c.args.child c.args.segment c.args.page) (sym c.self.view_is) c.requires.private in
    let place : child_frame_no s c.args.child c.args.segment c.args.page ≡ get_or (get_or c.in-Some.table c.args.segment []) c.args.page 0 = ap (λ o. get_or (get_or (unwrap_or o []) c.args.segment []) c.args.page 0) f.0 in
    let bytes = overwritten (page_of s.frames c.frame-frame.result) c.args.offset c.args.bytes.now in
    let sets = subst (λ n. Sets s.frames c.write.new.self n (record { count = 1; bytes = bytes; lent = false })) c.frame-frame.ensures c.write.ensures.set in
    child_written g.row.N s c.self.invariant c.args.child c.in-Some.table f.0 c.args.segment c.args.page f.1.0 f.1.1 c.write.new.self bytes (ap (count_of s.frames) (sym place) ∙ private.own) sets

pub invariant_of-self : goal.invariant_of-self
invariant_of-self g c = (after g c).0.counted

pub returns-clause-bytes : goal.returns-clause-bytes
returns-clause-bytes g c =
    let s : SpaceState = record { owner = c.self.inside.owner; children = c.self.inside.children.items; frames = c.self.inside.frames } in
    let f = found g c in
    let table = c.in-Some.table in
    let page = page_at (table_bytes s.frames table) c.args.segment c.args.page in
    let content : page_of s.frames c.frame-frame.result ≡ page = ap (page_of s.frames) c.frame-frame.ensures ∙ sym (page_at-table_bytes s.frames table c.args.segment c.args.page f.1.1) in
    let change = λ (pages : List (List (List ℕ))). with_page pages c.args.segment c.args.page (overwritten (page_at pages c.args.segment c.args.page) c.args.offset c.args.bytes.now) in
    ap (option_map (table_bytes c.write.new.self)) f.0
    ∙ ap Some ((after g c).1 ∙ ap (λ bytes. with_page (table_bytes s.frames table) c.args.segment c.args.page (overwritten bytes c.args.offset c.args.bytes.now)) content)
    ∙ ap (λ o. option_map change (option_map (table_bytes s.frames) o)) (sym f.0)
    ∙ ap (λ now. option_map change (child_bytes now c.args.child)) c.self.view_is

-- no page is lent that was not
lent : (g : given.Over) (c : goal.After-write g) → (f : ℕ) → lent_at c.write.new.self f ≡ lent_at c.self.inside.frames f
lent g c f =
    let s : SpaceState = record { owner = c.self.inside.owner; children = c.self.inside.children.items; frames = c.self.inside.frames } in
    let from = c.frame-frame.result in
    let private = subst (λ now. IsChildPrivate now c.args.child c.args.segment c.args.page) (sym c.self.view_is) c.requires.private in
    let place : child_frame_no s c.args.child c.args.segment c.args.page ≡ get_or (get_or c.in-Some.table c.args.segment []) c.args.page 0 = ap (λ o. get_or (get_or (unwrap_or o []) c.args.segment []) c.args.page 0) (found g c).0 in
    let was : lent_at s.frames from ≡ false = ap (lent_at s.frames) (c.frame-frame.ensures ∙ sym place) ∙ private.not_lent in
    elim (cases_eq f from) [
      | inl here ↦ ap (lent_at c.write.new.self) here ∙ ap (λ (x : Frame). x.lent) c.write.ensures.set.here ∙ sym was ∙ ap (lent_at s.frames) (sym here)
      | inr apart ↦ ap (λ (x : Frame). x.lent) (c.write.ensures.set.others f apart)
    ]

pub returns-clause-only : goal.returns-clause-only
returns-clause-only g c = record {
  tables = ap (λ now. now.children) c.self.view_is;
  owner = record { table = ap (λ now. now.owner) c.self.view_is; bytes = (after g c).0.owner ∙ ap owner_bytes c.self.view_is };
  others = record {
    tables = λ other apart. (after g c).0.tables other apart ∙ ap (λ now. child_table now other) c.self.view_is;
    bytes = λ other apart. (after g c).0.others other apart ∙ ap (λ now. child_bytes now other) c.self.view_is;
  };
  counts = λ f. (after g c).2 f ∙ ap (λ now. count_of now.frames f) c.self.view_is;
  lent = λ f. lent g c f ∙ ap (λ now. lent_at now.frames f) c.self.view_is;
  free = c.write.ensures.free ∙ ap (λ now. free_of now.frames) c.self.view_is;
  limit = c.write.ensures.set.limit ∙ ap (λ now. now.frames.max) c.self.view_is;
}
