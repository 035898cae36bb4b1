use Rattle.std.proofs.Common.{◌≡◌, ◌<◌, inl, inr, length, None, Some, ap, sym, ◌∙◌, subst, IsSome}
use Rattle.std.specs.Option.{option_map}
use Rattle.std.proofs.lemmas.List.{get_or_read, get_or_past}
use Rattle.std.proofs.lemmas.Bool.{cases_lt, false≢true}
use Rattle.std.proofs.lemmas.Result.{IfOk-weaker}
use Rattle.hy_space.specs.Space.{SpaceState, table_bytes, child_table, child_bytes, KeepsOwn}
use Rattle.hy_space.proofs.SpaceLaws.{holds_keep}
use Rattle.hy_space.proofs.space.Space.holds.Goals as goal
use Rattle.hy_space.proofs.space.Space.holds.Given as given

-- the child's table is the one at its place
read : (g : given.Over) (c : goal.After-holds_of_table g) → child_table (record { owner = c.self.inside.owner; children = c.self.inside.children.items; frames = c.self.inside.frames }) c.args.child ≡ Some c.in-Some.table
read g c =
    let s : SpaceState = record { owner = c.self.inside.owner; children = c.self.inside.children.items; frames = c.self.inside.frames } in
    let is : s ≡ c.args.self.now = c.self.view_is in
    let was_open : IsSome (child_table s c.args.child) = subst (λ now. IsSome (child_table now c.args.child)) (sym is) c.requires in
    let within : c.args.child < length s.children = elim (cases_lt c.args.child (length s.children)) [
      | inl below ↦ below
      | inr past ↦ absurd (false≢true (subst IsSome (get_or_past s.children c.args.child None past) was_open))
    ] in
    sym (get_or_read s.children c.args.child c.index.result.now within c.index.ensures None) ∙ c.in-Some.is

pub returns-clause-holds : goal.returns-clause-holds
returns-clause-holds g c =
    let s : SpaceState = record { owner = c.self.inside.owner; children = c.self.inside.children.items; frames = c.self.inside.frames } in
    let seen : child_bytes c.args.self.now c.args.child ≡ Some (table_bytes s.frames c.in-Some.table) = ap (λ now. child_bytes now c.args.child) (sym c.self.view_is) ∙ ap (option_map (table_bytes s.frames)) (read g c) in
    IfOk-weaker c.holds_of_table.result _ _ (λ holds same. seen ∙ ap Some (sym same)) c.holds_of_table.ensures.holds

pub returns-clause-kept : goal.returns-clause-kept
returns-clause-kept g c =
    let s : SpaceState = record { owner = c.self.inside.owner; children = c.self.inside.children.items; frames = c.self.inside.frames } in
    subst (λ now. KeepsOwn now (record { owner = s.owner; children = s.children; frames = c.holds_of_table.new.frames })) c.self.view_is (holds_keep g.row.N s c.self.invariant c.args.child c.in-Some.table c.holds_of_table.new.frames (read g c) c.holds_of_table.ensures.lends)
