use Rattle.std.proofs.Common.{◌≡◌, ◌<◌, inl, inr, length, None, Some, ap, sym, ◌∙◌, subst, arith, IsSome}
use Rattle.std.proofs.lemmas.List.{get_or_read, get_or_past}
use Rattle.std.proofs.lemmas.Bool.{cases_lt, false≢true}
use Rattle.hy_space.specs.Space.{SpaceState, child_table, child_times}
use Rattle.hy_space.proofs.space.Space.table_of.Goals as goal

-- no table has a frame at two places
pub returns-clause-once : goal.returns-clause-once
returns-clause-once g c =
    let s : SpaceState = record { owner = c.self.inside.owner; children = c.self.inside.children.items; frames = c.self.inside.frames } in
    let was_open : IsSome (child_table s c.args.child) =
    subst (λ now. IsSome (child_table now c.args.child)) (sym c.self.view_is) c.requires in
    let within : c.args.child < length s.children = elim (cases_lt c.args.child (length s.children)) [
      | inl below ↦ below
      | inr past ↦ absurd (false≢true (subst IsSome (get_or_past s.children c.args.child None past) was_open))
    ] in
    let read : child_table s c.args.child ≡ Some c.in-Some.table =
    sym (get_or_read s.children c.args.child c.index.result.now within c.index.ensures None) ∙ c.in-Some.is in
    λ f. omega (arith, c.self.invariant.child_once f c.args.child, ap (child_times f) read)
