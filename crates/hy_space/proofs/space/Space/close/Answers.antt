use Rattle.std.proofs.Common.{set, ◌≡◌, ◌≢◌, ◌<◌, ℕ, inl, inr, length, Some, None, ap, sym, ◌∙◌, subst, IsSome}
use Rattle.std.specs.Option.{option_map}
use Rattle.std.proofs.lemmas.List.{get_or_read, get_or_past, get_or-set_other}
use Rattle.std.proofs.lemmas.Bool.{cases_lt, false≢true}
use Rattle.hy_space.specs.Space.{SpaceState, owner_bytes, table_bytes, child_table, child_bytes, KeepsOwn}
use Rattle.hy_space.proofs.SpaceLaws.{closed, close_keeps}
use Rattle.hy_space.proofs.space.Space.close.Goals as goal
use Rattle.hy_space.proofs.space.Space.close.Given as given

-- the child is one of those that there are
there : (g : given.Over) (c : goal.After-drop-table-inside g) → c.args.child < length c.self.inside.children.items
there g c =
    let s : SpaceState = record { owner = c.self.inside.owner; children = c.self.inside.children.items; frames = c.self.inside.frames } in
    let was_open : IsSome (child_table s c.args.child) = subst (λ now. IsSome (child_table now c.args.child)) (sym c.self.view_is) c.requires in
    elim (cases_lt c.args.child (length s.children)) [
      | inl below ↦ below
      | inr past ↦ absurd (false≢true (subst IsSome (get_or_past s.children c.args.child None past) was_open))
    ]

-- the child's table is the one at its place
read : (g : given.Over) (c : goal.After-drop-table-inside g) → child_table (record { owner = c.self.inside.owner; children = c.self.inside.children.items; frames = c.self.inside.frames }) c.args.child ≡ Some c.in-Some.table
read g c =
    let s : SpaceState = record { owner = c.self.inside.owner; children = c.self.inside.children.items; frames = c.self.inside.frames } in
    let is : s ≡ c.args.self.now = c.self.view_is in
    sym (get_or_read s.children c.args.child c.index_mut.result.now (there g c) c.index_mut.ensures.value None) ∙ sym c.in-Some.ensures.value

after : (g : given.Over) (c : goal.After-drop-table-inside g) → (table_bytes c.drop_table.new.frames c.self.inside.owner ≡ owner_bytes (record { owner = c.self.inside.owner; children = c.self.inside.children.items; frames = c.self.inside.frames })) × ((other : ℕ) → other ≢ c.args.child → option_map (table_bytes c.drop_table.new.frames) (child_table (record { owner = c.self.inside.owner; children = c.self.inside.children.items; frames = c.self.inside.frames }) other) ≡ child_bytes (record { owner = c.self.inside.owner; children = c.self.inside.children.items; frames = c.self.inside.frames }) other)
after g c =
    let s : SpaceState = record { owner = c.self.inside.owner; children = c.self.inside.children.items; frames = c.self.inside.frames } in
    closed g.row.N s c.self.invariant c.args.child c.in-Some.table c.drop_table.new.frames (there g c) (read g c) c.drop_table.ensures

pub returns-clause-others : goal.returns-clause-others
returns-clause-others g c = record {
  tables = λ other apart. get_or-set_other c.self.inside.children.items c.args.child other c.take.new.self None apart ∙ ap (λ now. child_table now other) c.self.view_is;
  bytes = λ other apart.
      ap (option_map (table_bytes c.drop_table.new.frames)) (get_or-set_other c.self.inside.children.items c.args.child other c.take.new.self None apart)
      ∙ (after g c).1 other apart ∙ ap (λ now. child_bytes now other) c.self.view_is;
}

pub returns-clause-owner : goal.returns-clause-owner
returns-clause-owner g c = record {
  table = ap (λ now. now.owner) c.self.view_is;
  bytes = (after g c).0 ∙ ap owner_bytes c.self.view_is;
}

pub returns-clause-kept : goal.returns-clause-kept
returns-clause-kept g c =
    let s : SpaceState = record { owner = c.self.inside.owner; children = c.self.inside.children.items; frames = c.self.inside.frames } in
    subst (λ now. KeepsOwn now (record { owner = s.owner; children = set s.children c.args.child c.take.new.self; frames = c.drop_table.new.frames })) c.self.view_is (close_keeps g.row.N s c.self.invariant c.args.child c.in-Some.table _ c.drop_table.new.frames (read g c) c.drop_table.ensures)
