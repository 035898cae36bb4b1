use Rattle.std.proofs.Common.{◌≡◌, ◌<◌, ◌≤◌, ℕ, List, [], length, get_or, set, drop, Some, None, ap, sym, ◌∙◌, subst, arith, unwrap_or, IsSomeAnd}
use Rattle.std.specs.Option.{option_map}
use Rattle.std.proofs.lemmas.List.{get_or-set_same, take_rest, get_or_read}
use Rattle.hy_frames.specs.FrameTable.{occurrences}
use Rattle.hy_space.specs.Space.{SpaceState, child_table, child_bytes, table_bytes, owner_bytes, with_first_frames, with_first_pages, DropsUsers, child_times}
use Rattle.hy_space.proofs.TableLaws.{occurrences-drop-le, child_in_sum}
use Rattle.hy_space.proofs.ChildLaws.{opened, open_within, set-set, child_trimmed, IsChildKept}
use Rattle.hy_space.proofs.space.Space.child_cut.Goals as goal
use Rattle.hy_space.proofs.space.Space.child_cut.Given as given

-- what is known of the child's table
abbrev known : ℕ → ℕ → List (List ℕ) → Type 0
known segment pages table = (segment < length table) × (pages ≤ length (get_or table segment []))

pub drop_each-requires : goal.drop_each-requires
drop_each-requires g c =
    let s : SpaceState = record { owner = c.self.inside.owner; children = c.self.inside.children.items; frames = c.self.inside.frames } in
    let is : s ≡ c.args.self.now = c.self.view_is in
    let there = subst (λ now. IsSomeAnd (child_table now c.args.child) (known c.args.segment c.args.pages)) (sym is) c.requires.there in
    let found = opened s.children c.args.child (known c.args.segment c.args.pages) c.index_mut.result.now c.in-Some.table there c.index_mut.ensures.value (sym c.in-Some.ensures.value) in
    let table = c.in-Some.table in
    let row : c.index-segments-segment.result ≡ get_or table c.args.segment [] = get_or_read c.segments.result.now c.args.segment c.index-segments-segment.result (omega (arith, ap length c.segments.ensures, found.1.0)) c.index-segments-segment.is [] ∙ ap (λ rows. get_or rows c.args.segment []) c.segments.ensures in
    let end = take_rest c.frames-numbers.result.now c.args.pages ∙ ap (drop c.args.pages) (c.frames-numbers.ensures ∙ row) in
    (omega arith, λ f. omega (arith, ap (occurrences f) end, occurrences-drop-le f table c.args.segment c.args.pages found.1.0, c.self.invariant.exact f, child_in_sum f s.children c.args.child, ap (child_times f) found.0))

found : (g : given.Over) (c : goal.Joined-index_mut g) → (get_or c.self.inside.children.items c.args.child None ≡ Some c.in-Some.table) × known c.args.segment c.args.pages c.in-Some.table
found g c =
    let s : SpaceState = record { owner = c.self.inside.owner; children = c.self.inside.children.items; frames = c.self.inside.frames } in
    let there = subst (λ now. IsSomeAnd (child_table now c.args.child) (known c.args.segment c.args.pages)) (sym c.self.view_is) c.requires.there in
    opened s.children c.args.child (known c.args.segment c.args.pages) c.index_mut.result.now c.in-Some.table there c.index_mut.ensures.value (sym c.in-Some.ensures.value)

drops : (g : given.Over) (c : goal.Joined-index_mut g) → DropsUsers c.self.inside.frames c.drop_each.new.frames (λ f. occurrences f (drop c.args.pages (get_or c.in-Some.table c.args.segment [])))
drops g c =
    let s : SpaceState = record { owner = c.self.inside.owner; children = c.self.inside.children.items; frames = c.self.inside.frames } in
    let table = c.in-Some.table in
    let row : c.index-segments-segment.result ≡ get_or table c.args.segment [] = get_or_read c.segments.result.now c.args.segment c.index-segments-segment.result (omega (arith, ap length c.segments.ensures, (found g c).1.0)) c.index-segments-segment.is [] ∙ ap (λ rows. get_or rows c.args.segment []) c.segments.ensures in
    let end = take_rest c.frames-numbers.result.now c.args.pages ∙ ap (drop c.args.pages) (c.frames-numbers.ensures ∙ row) in
    subst (λ numbers. DropsUsers s.frames c.drop_each.new.frames (λ f. occurrences f numbers)) end c.drop_each.ensures

after : (g : given.Over) (c : goal.Joined-index_mut g) → (IsChildKept g.row.N (record { owner = c.self.inside.owner; children = c.self.inside.children.items; frames = c.self.inside.frames }) (record { owner = c.self.inside.owner; children = set (set c.self.inside.children.items c.args.child c.take.new.self) c.args.child (Some c.truncate.new.self); frames = c.drop_each.new.frames }) c.args.child) × (table_bytes c.drop_each.new.frames c.truncate.new.self ≡ with_first_pages (table_bytes c.self.inside.frames c.in-Some.table) c.args.segment c.args.pages)
after g c =
    let s : SpaceState = record { owner = c.self.inside.owner; children = c.self.inside.children.items; frames = c.self.inside.frames } in
    let f = found g c in
    let done = child_trimmed g.row.N s c.self.invariant c.args.child c.in-Some.table f.0 c.args.segment c.args.pages c.drop_each.new.frames f.1.0 (drops g c) in
    let put = subst (λ table. (IsChildKept g.row.N s (record { owner = s.owner; children = set s.children c.args.child (Some table); frames = c.drop_each.new.frames }) c.args.child) × (table_bytes c.drop_each.new.frames table ≡ with_first_pages (table_bytes s.frames c.in-Some.table) c.args.segment c.args.pages)) (sym c.truncate.ensures) done in
    subst (λ all. (IsChildKept g.row.N s (record { owner = s.owner; children = all; frames = c.drop_each.new.frames }) c.args.child) × (table_bytes c.drop_each.new.frames c.truncate.new.self ≡ with_first_pages (table_bytes s.frames c.in-Some.table) c.args.segment c.args.pages)) (sym (set-set s.children c.args.child c.take.new.self (Some c.truncate.new.self))) put

-- the child's new table
read : (g : given.Over) (c : goal.Joined-index_mut g) → get_or (set (set c.self.inside.children.items c.args.child c.take.new.self) c.args.child (Some c.truncate.new.self)) c.args.child None ≡ Some c.truncate.new.self
read g c =
    let s : SpaceState = record { owner = c.self.inside.owner; children = c.self.inside.children.items; frames = c.self.inside.frames } in
    ap (λ all. get_or all c.args.child None) (set-set s.children c.args.child c.take.new.self (Some c.truncate.new.self)) ∙ get_or-set_same s.children c.args.child (Some c.truncate.new.self) None (open_within s.children c.args.child c.in-Some.table (found g c).0)

pub invariant_of-self : goal.invariant_of-self
invariant_of-self g c = (after g c).0.counted

pub returns-clause-table : goal.returns-clause-table
returns-clause-table g c =
    read g c ∙ ap Some c.truncate.ensures ∙ ap (option_map (λ table. with_first_frames table c.args.segment c.args.pages)) (sym (found g c).0)
    ∙ ap (λ now. option_map (λ table. with_first_frames table c.args.segment c.args.pages) (child_table now c.args.child)) c.self.view_is

pub returns-clause-bytes : goal.returns-clause-bytes
returns-clause-bytes g c =
    let s : SpaceState = record { owner = c.self.inside.owner; children = c.self.inside.children.items; frames = c.self.inside.frames } in
    let change = λ (all : List (List (List ℕ))). with_first_pages all c.args.segment c.args.pages in
    ap (option_map (table_bytes c.drop_each.new.frames)) (read g c) ∙ ap Some (after g c).1
    ∙ ap (λ o. option_map change (option_map (table_bytes s.frames) o)) (sym (found g c).0) ∙ ap (λ now. option_map change (child_bytes now c.args.child)) c.self.view_is

pub returns-clause-owner : goal.returns-clause-owner
returns-clause-owner g c = record { table = ap (λ now. now.owner) c.self.view_is; bytes = (after g c).0.owner ∙ ap owner_bytes c.self.view_is }

pub returns-clause-others : goal.returns-clause-others
returns-clause-others g c = record {
  tables = λ other apart. (after g c).0.tables other apart ∙ ap (λ now. child_table now other) c.self.view_is;
  bytes = λ other apart. (after g c).0.others other apart ∙ ap (λ now. child_bytes now other) c.self.view_is;
}

pub returns-clause-users : goal.returns-clause-users
returns-clause-users g c =
    let s : SpaceState = record { owner = c.self.inside.owner; children = c.self.inside.children.items; frames = c.self.inside.frames } in
    let was : unwrap_or (child_table s c.args.child) [] ≡ c.in-Some.table = ap (λ o. unwrap_or o []) (found g c).0 in
    subst (λ now. DropsUsers now.frames c.drop_each.new.frames (λ f. occurrences f (drop c.args.pages (get_or (unwrap_or (child_table now c.args.child) []) c.args.segment [])))) c.self.view_is (subst (λ table. DropsUsers s.frames c.drop_each.new.frames (λ f. occurrences f (drop c.args.pages (get_or table c.args.segment [])))) (sym was) (drops g c))
