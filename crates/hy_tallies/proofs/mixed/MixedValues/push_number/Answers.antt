use Rattle.std.proofs.Common.{ℤ, ◌∷◌, ◌++◌, [], ap, ◌∙◌, rules}
use Rattle.std.proofs.lemmas.Int.{to_z-of_z}
use Rattle.std.specs.Int.{w128}
use Rattle.hy_rows.specs.declared.value.Value.TheVariants.{Whole}
use Rattle.hy_tallies.specs.declared.mixed.Kept.TheVariants as kept
use Rattle.hy_tallies.proofs.OwnedLaws.{pushed-number}
use Rattle.hy_tallies.proofs.mixed.MixedValues.push_number.Goals as goal

pub invariant_of-self-2 : goal.invariant_of-self-2
invariant_of-self-2 c =
    (pushed-number c.self.inside.texts c.self.inside.values.items c.push.new.self.items c.args.number c.self.invariant
    (c.in_ok-push.ensures.items
    ∙ ap (λ (number : ℤ). c.self.inside.values.items ++ kept.Whole number ∷ []) (to_z-of_z w128 c.args.number (search rules)))).1

pub returns : goal.returns
returns c =
    (pushed-number c.self.inside.texts c.self.inside.values.items c.push.new.self.items c.args.number c.self.invariant
    (c.in_ok-push.ensures.items
    ∙ ap (λ (number : ℤ). c.self.inside.values.items ++ kept.Whole number ∷ []) (to_z-of_z w128 c.args.number (search rules)))).0
    ∙ ap (λ values. values ++ Whole c.args.number ∷ []) c.self.view_is
