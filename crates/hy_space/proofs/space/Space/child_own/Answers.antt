use Rattle.std.proofs.Common.{◌≡◌, ◌<◌, ℕ, List, [], length, get_or, set, Some, None, ap, sym, ◌∙◌, subst, arith, unwrap_or}
use Rattle.std.specs.Option.{option_map}
use Rattle.std.proofs.lemmas.List.{get_or-set_same, set-get_or}
use Rattle.hy_frames.specs.FrameTable.{count_of}
use Rattle.hy_space.specs.Space.{SpaceState, HasChildPage, child_frame_no, child_table, child_bytes, table_bytes, owner_bytes, with_frame, MovesUser, MovesChildPage}
use Rattle.hy_space.proofs.ChildLaws.{opened, open_within, set-set, child_moved, frame-with_frame, IsChildKept}
use Rattle.hy_space.specs.inside.Users.{IsCounted}
use Rattle.hy_space.proofs.space.Space.child_own.Goals as goal
use Rattle.hy_space.proofs.space.Space.child_own.Given as given

-- what is known of the child's table
abbrev known : ℕ → ℕ → List (List ℕ) → Type 0
known segment page table = (segment < length table) × (page < length (get_or table segment []))

pub own_page-requires : goal.own_page-requires
own_page-requires g c =
    let s : SpaceState = record { owner = c.self.inside.owner; children = c.self.inside.children.items; frames = c.self.inside.frames } in
    let is : s ≡ c.args.self.now = c.self.view_is in
    let there = subst (λ now. HasChildPage now c.args.child c.args.segment c.args.page) (sym is) c.requires.there in
    let found = opened s.children c.args.child (known c.args.segment c.args.page) c.index_mut.result.now c.in-Some.table there c.index_mut.ensures.value (sym c.in-Some.ensures.value) in
    let shared = subst (λ now. 1 < count_of now.frames (child_frame_no now c.args.child c.args.segment c.args.page)) (sym is) c.requires.shared in
    let place : child_frame_no s c.args.child c.args.segment c.args.page ≡ get_or (get_or c.in-Some.table c.args.segment []) c.args.page 0 = ap (λ o. get_or (get_or (unwrap_or o []) c.args.segment []) c.args.page 0) found.0 in
    (omega arith, (found.1.0, (found.1.1, omega (arith, shared, ap (count_of s.frames) place))))

-- the page stands in the fresh frame
found : (g : given.Over) (c : goal.Joined-index_mut g) → (get_or c.self.inside.children.items c.args.child None ≡ Some c.in-Some.table) × known c.args.segment c.args.page c.in-Some.table
found g c =
    let s : SpaceState = record { owner = c.self.inside.owner; children = c.self.inside.children.items; frames = c.self.inside.frames } in
    let there = subst (λ now. HasChildPage now c.args.child c.args.segment c.args.page) (sym c.self.view_is) c.requires.there in
    opened s.children c.args.child (known c.args.segment c.args.page) c.index_mut.result.now c.in-Some.table there c.index_mut.ensures.value (sym c.in-Some.ensures.value)

after : (g : given.Over) (c : goal.Joined-index_mut g) → (IsChildKept g.row.N (record { owner = c.self.inside.owner; children = c.self.inside.children.items; frames = c.self.inside.frames }) (record { owner = c.self.inside.owner; children = set (set c.self.inside.children.items c.args.child c.take.new.self) c.args.child (Some c.own_page.new.table); frames = c.own_page.new.frames }) c.args.child) × (table_bytes c.own_page.new.frames c.own_page.new.table ≡ table_bytes c.self.inside.frames c.in-Some.table)
after g c =
    let s : SpaceState = record { owner = c.self.inside.owner; children = c.self.inside.children.items; frames = c.self.inside.frames } in
    let f = found g c in
    let done = child_moved g.row.N s c.self.invariant c.args.child c.in-Some.table f.0 c.args.segment c.args.page f.1.0 f.1.1 c.in-Ok.field-0 c.own_page.new.frames c.in-Ok.ensures.users in
    let put = subst (λ table. (IsChildKept g.row.N s (record { owner = s.owner; children = set s.children c.args.child (Some table); frames = c.own_page.new.frames }) c.args.child) × (table_bytes c.own_page.new.frames table ≡ table_bytes s.frames c.in-Some.table)) (sym c.in-Ok.ensures.table) done in
    subst (λ all. (IsChildKept g.row.N s (record { owner = s.owner; children = all; frames = c.own_page.new.frames }) c.args.child) × (table_bytes c.own_page.new.frames c.own_page.new.table ≡ table_bytes s.frames c.in-Some.table)) (sym (set-set s.children c.args.child c.take.new.self (Some c.own_page.new.table))) put

-- the child's new table
read : (g : given.Over) (c : goal.Joined-index_mut g) → get_or (set (set c.self.inside.children.items c.args.child c.take.new.self) c.args.child (Some c.own_page.new.table)) c.args.child None ≡ Some c.own_page.new.table
read g c =
    let s : SpaceState = record { owner = c.self.inside.owner; children = c.self.inside.children.items; frames = c.self.inside.frames } in
    ap (λ all. get_or all c.args.child None) (set-set s.children c.args.child c.take.new.self (Some c.own_page.new.table)) ∙ get_or-set_same s.children c.args.child (Some c.own_page.new.table) None (open_within s.children c.args.child c.in-Some.table (found g c).0)

pub invariant_of-self : goal.invariant_of-self
invariant_of-self g c = (after g c).0.counted

pub returns-in-Ok-clause-bytes : goal.returns-in-Ok-clause-bytes
returns-in-Ok-clause-bytes g c =
    ap (option_map (table_bytes c.own_page.new.frames)) (read g c) ∙ ap Some (after g c).1
    ∙ ap (option_map (table_bytes c.self.inside.frames)) (sym (found g c).0) ∙ ap (λ now. child_bytes now c.args.child) c.self.view_is

pub returns-in-Ok-clause-owner : goal.returns-in-Ok-clause-owner
returns-in-Ok-clause-owner g c = record { table = ap (λ now. now.owner) c.self.view_is; bytes = (after g c).0.owner ∙ ap owner_bytes c.self.view_is }

pub returns-in-Ok-clause-others : goal.returns-in-Ok-clause-others
returns-in-Ok-clause-others g c = record {
  tables = λ other apart. (after g c).0.tables other apart ∙ ap (λ now. child_table now other) c.self.view_is;
  bytes = λ other apart. (after g c).0.others other apart ∙ ap (λ now. child_bytes now other) c.self.view_is;
}

pub returns-in-Ok-clause-moves : goal.returns-in-Ok-clause-moves
returns-in-Ok-clause-moves g c =
    let s : SpaceState = record { owner = c.self.inside.owner; children = c.self.inside.children.items; frames = c.self.inside.frames } in
    let new : SpaceState = record { owner = s.owner; children = set (set s.children c.args.child c.take.new.self) c.args.child (Some c.own_page.new.table); frames = c.own_page.new.frames } in
    let table = c.in-Some.table in
    let f = found g c in
    let from = get_or (get_or table c.args.segment []) c.args.page 0 in
    let was : child_frame_no s c.args.child c.args.segment c.args.page ≡ from = ap (λ o. get_or (get_or (unwrap_or o []) c.args.segment []) c.args.page 0) f.0 in
    let is_now : child_frame_no new c.args.child c.args.segment c.args.page ≡ c.in-Ok.field-0 =
    ap (λ o. get_or (get_or (unwrap_or o []) c.args.segment []) c.args.page 0) (read g c)
    ∙ ap (λ t. get_or (get_or t c.args.segment []) c.args.page 0) c.in-Ok.ensures.table
    ∙ frame-with_frame table c.args.segment c.args.page c.in-Ok.field-0 f.1.0 f.1.1
    in
    subst (λ now. MovesChildPage now new c.args.child c.args.segment c.args.page) c.self.view_is (record {
      table =
          read g c ∙ ap Some (c.in-Ok.ensures.table ∙ ap (with_frame table c.args.segment c.args.page) (sym is_now))
          ∙ ap (option_map (λ t. with_frame t c.args.segment c.args.page (child_frame_no new c.args.child c.args.segment c.args.page))) (sym f.0);
      users = subst (λ n. MovesUser s.frames new.frames n (child_frame_no new c.args.child c.args.segment c.args.page)) (sym was) (subst (MovesUser s.frames new.frames from) (sym is_now) c.in-Ok.ensures.users);
    })

-- a refusal puts the table back as it was
back : (g : given.Over) (c : goal.Joined-index_mut-2 g) → set (set c.self.inside.children.items c.args.child c.take.new.self) c.args.child (Some c.own_page.new.table) ≡ c.self.inside.children.items
back g c =
    let s : SpaceState = record { owner = c.self.inside.owner; children = c.self.inside.children.items; frames = c.self.inside.frames } in
    let there = subst (λ now. HasChildPage now c.args.child c.args.segment c.args.page) (sym c.self.view_is) c.requires.there in
    let found = opened s.children c.args.child (known c.args.segment c.args.page) c.index_mut.result.now c.in-Some.table there c.index_mut.ensures.value (sym c.in-Some.ensures.value) in
    set-set s.children c.args.child c.take.new.self (Some c.own_page.new.table)
    ∙ ap (λ table. set s.children c.args.child (Some table)) c.in-Err.ensures.err ∙ ap (set s.children c.args.child) (sym found.0)
    ∙ set-get_or s.children c.args.child None

pub invariant_of-self-in-Err : goal.invariant_of-self-in-Err
invariant_of-self-in-Err g c =
    let s : SpaceState = record { owner = c.self.inside.owner; children = c.self.inside.children.items; frames = c.self.inside.frames } in
    subst (λ all. IsCounted g.row.N (record { owner = s.owner; children = all; frames = c.own_page.new.frames })) (sym (back g c)) (subst (λ frames. IsCounted g.row.N (record { owner = s.owner; children = s.children; frames = frames })) (sym c.in-Err.ensures.err_frames) c.self.invariant)

pub returns-in-Err-clause-err : goal.returns-in-Err-clause-err
returns-in-Err-clause-err g c =
    let s : SpaceState = record { owner = c.self.inside.owner; children = c.self.inside.children.items; frames = c.self.inside.frames } in
    ap (λ all. record { owner = s.owner; children = all; frames = c.own_page.new.frames }) (back g c) ∙ ap (λ frames. record { owner = s.owner; children = s.children; frames = frames }) c.in-Err.ensures.err_frames ∙ c.self.view_is
