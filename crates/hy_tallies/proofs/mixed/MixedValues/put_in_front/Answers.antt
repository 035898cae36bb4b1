use Rattle.std.proofs.Common.{◌++◌, ◌∙◌, ap, map}
use Rattle.hy_rows.specs.declared.value.Value.TheVariants.{Whole}
use Rattle.hy_tallies.proofs.OwnedLaws.{in_front}
use Rattle.hy_tallies.proofs.mixed.MixedValues.put_in_front.Goals as goal

pub invariant_of-self : goal.invariant_of-self
invariant_of-self c =
    (in_front c.self.inside.texts c.args.numbers.now c.self.inside.values.items c.extend_from_slice.new.self.items
    c.self.invariant (c.in_ok-extend_from_slice.ensures.items ∙ (λ i. c.in_ok-values.ensures i ++ c.deref.ensures.value i))).1

pub returns : goal.returns
returns c =
    (in_front c.self.inside.texts c.args.numbers.now c.self.inside.values.items c.extend_from_slice.new.self.items
    c.self.invariant (c.in_ok-extend_from_slice.ensures.items ∙ (λ i. c.in_ok-values.ensures i ++ c.deref.ensures.value i))).0
    ∙ ap (λ values. map Whole c.args.numbers.now ++ values) c.self.view_is
