use Rattle.std.proofs.Common.{◌≡◌, ℕ, Some, Ok, Err, ap, sym, ◌∙◌, subst}
use Rattle.std.specs.Prelude.{OnOk, Result}
use Rattle.hy_space.specs.Space.{AddsUsers, KeepsOwn, SameForOwner, SpaceState, child_table, times}
use Rattle.hy_space.proofs.SpaceLaws.{again_keeps}
use Rattle.hy_space.proofs.space.Space.fork_child.Goals as goal

-- two things that hold where a call succeeds
both : {T E : Type 0} (One Other Then : Type 0) (result : Result T E) → OnOk result One → OnOk result Other
    → (One → Other → Then) → OnOk result Then
both One Other Then (Ok value) one other leads = leads one other
both One Other Then (Err error) one other leads = tt

pub returns-clause-kept : goal.returns-clause-kept
returns-clause-kept g c =
    let s : SpaceState = record { owner = c.self.inside.owner; children = c.self.inside.children.items; frames = c.self.inside.frames } in
    let table = c.in_ok-table.table in
    let is_table : child_table s c.args.child ≡ Some table =
    ap (λ now. child_table now c.args.child) c.self.view_is ∙ c.table_of.ensures.table ∙ ap Some (sym c.in_ok-table.ensures) in
    both (SameForOwner c.args.self.now c.open.new.self)
    (AddsUsers c.args.self.now.frames c.open.new.self.frames (λ f. times f table)) _ c.open.result c.open.ensures.owner
    c.open.ensures.users (λ owner users.
    subst (λ (now : SpaceState). KeepsOwn now c.open.new.self) c.self.view_is
    (again_keeps g.row.N s c.self.invariant c.open.new.self c.args.child table is_table
    (owner.table ∙ sym (ap (λ (now : SpaceState). now.owner) c.self.view_is))
    (subst (λ (now : SpaceState). AddsUsers now.frames c.open.new.self.frames (λ f. times f table)) (sym c.self.view_is) users)))
