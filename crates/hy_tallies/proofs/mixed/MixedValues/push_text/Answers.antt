use Rattle.std.proofs.Common.{◌∷◌, ◌++◌, [], ap, ◌∙◌}
use Rattle.hy_rows.specs.declared.value.Value.TheVariants.{Text}
use Rattle.hy_tallies.specs.declared.mixed.Kept.TheVariants as kept
use Rattle.hy_tallies.proofs.OwnedLaws.{pushed-text}
use Rattle.hy_tallies.proofs.mixed.MixedValues.push_text.Goals as goal

pub invariant_of-self-2 : goal.invariant_of-self-2
invariant_of-self-2 c =
    (pushed-text c.self.inside.texts c.args.text.now c.self.inside.values.items c.push_reserved.new.self.items c.len-place.result
    c.push.new.self c.self.invariant c.len-place.ensures c.in_ok-push.ensures.ok
    (c.push_reserved.ensures.items ∙ ap (λ values. values ++ kept.Text c.len-place.result ∷ []) c.in_ok-reserve.ensures.items)).1

pub returns : goal.returns
returns c =
    (pushed-text c.self.inside.texts c.args.text.now c.self.inside.values.items c.push_reserved.new.self.items c.len-place.result
    c.push.new.self c.self.invariant c.len-place.ensures c.in_ok-push.ensures.ok
    (c.push_reserved.ensures.items ∙ ap (λ values. values ++ kept.Text c.len-place.result ∷ []) c.in_ok-reserve.ensures.items)).0
    ∙ ap (λ values. values ++ Text c.args.text.now ∷ []) c.self.view_is
