-- A list more is at its end.
use Rattle.std.proofs.Common.{◌≡◌, [], ◌∙◌, sym}
use Rattle.hy_sound.specs.Merges.{left_of}
use Rattle.hy_sound.proofs.ListLaws.{no-item, no-next}
use Rattle.hy_sound.proofs.MergeLaws.{below-next}
use Rattle.hy_sound.proofs.looking.is_at_end.Goals as goal

pub loop-place-preserved : goal.loop-place-preserved
loop-place-preserved c =
    below-next (λ k. left_of c.args.merge.now k ≡ []) c.loop-place.place c.loop-place.invariant
    (no-next (left_of c.args.merge.now c.loop-place.place)
    (no-item (λ commit. commit.now) c.next.result _ (sym c.is_some.ensures ∙ c.if-is_some.false) c.next.ensures))
