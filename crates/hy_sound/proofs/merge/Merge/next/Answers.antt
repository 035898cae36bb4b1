-- The commit at the place behind those that were passed.
use Rattle.std.proofs.Common.{◌≡◌, ap, ◌∙◌, sym}
use Rattle.std.specs.Prelude.{slice_get, slice_index}
use Rattle.hy_sound.specs.Merges.{MergeState, left_of}
use Rattle.hy_sound.proofs.ListLaws.{copied-is}
use Rattle.hy_sound.proofs.MergeLaws.{next-left}
use Rattle.hy_sound.proofs.merge.Merge.next.Goals as goal

pub returns : goal.returns
returns c =
    let merge : MergeState = record { lists = c.self.inside.batch.now.lists; passed = c.self.inside.passed } in
    let view : merge ≡ c.args.self.now = c.self.view_is in
    let number = slice_index merge.passed c.args.place in
    copied-is (λ commit. commit.now) c.get.result c.list-commits.result.now number c.get.ensures.lookup.0
    c.get.ensures.lookup.1
    ∙ ap (λ rows. slice_get rows number) c.list-commits.ensures
    ∙ sym (next-left merge c.args.place)
    ∙ ap (λ (m : MergeState). slice_get (left_of m c.args.place) 0) view
