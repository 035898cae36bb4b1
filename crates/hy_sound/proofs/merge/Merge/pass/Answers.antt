-- One more commit of the list was passed, and none of another.
use Rattle.std.proofs.Common.{◌≡◌, ◌<◌, ◌≤◌, ap, ◌∙◌, length, drop, subst, arith}
use Rattle.std.specs.Prelude.{slice_index}
use Rattle.hy_sound.specs.Sound.{list_at}
use Rattle.hy_sound.specs.Merges.{MergeState, left_of}
use Rattle.hy_sound.proofs.MergeLaws.{left-none, left-other, left-passed}
use Rattle.hy_sound.proofs.merge.Merge.pass.Goals as goal

pub returns-then-self-place-clause-here : goal.returns-then-self-place-clause-here
returns-then-self-place-clause-here c =
    let merge : MergeState = record { lists = c.self.inside.batch.now.lists; passed = c.self.inside.passed } in
    let view : merge ≡ c.args.self.now = c.self.view_is in
    let within : c.args.place < length merge.passed =
    omega (arith, c.requires, c.self.invariant.0, c.self.invariant.1, ap (λ (m : MergeState). length m.lists) view) in
    left-passed merge c.args.place within ∙ ap (λ (m : MergeState). drop 1 (left_of m c.args.place)) view

pub returns-then-self-place-clause-others : goal.returns-then-self-place-clause-others
returns-then-self-place-clause-others c = λ other apart.
    let merge : MergeState = record { lists = c.self.inside.batch.now.lists; passed = c.self.inside.passed } in
    let view : merge ≡ c.args.self.now = c.self.view_is in
    let within : c.args.place < length merge.passed =
    omega (arith, c.requires, c.self.invariant.0, c.self.invariant.1, ap (λ (m : MergeState). length m.lists) view) in
    left-other merge c.args.place within other apart ∙ ap (λ (m : MergeState). left_of m other) view

pub returns-else-self-place-clause-here : goal.returns-else-self-place-clause-here
returns-else-self-place-clause-here c =
    let merge : MergeState = record { lists = c.self.inside.batch.now.lists; passed = c.self.inside.passed } in
    let view : merge ≡ c.args.self.now = c.self.view_is in
    let past : length (list_at merge.lists c.args.place) ≤ slice_index merge.passed c.args.place =
    omega (arith, c.if-self-place.false, ap length c.list-commits.ensures) in
    subst (λ (m : MergeState). left_of m c.args.place ≡ drop 1 (left_of m c.args.place)) view
    (left-none merge c.args.place past)
