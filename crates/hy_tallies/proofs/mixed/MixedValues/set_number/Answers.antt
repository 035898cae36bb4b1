use Rattle.std.proofs.Common.{◌∙◌, ap, rules, set}
use Rattle.std.proofs.lemmas.Int.{to_z-of_z}
use Rattle.std.specs.Int.{w128}
use Rattle.hy_rows.specs.declared.value.Value.TheVariants.{Whole}
use Rattle.hy_tallies.proofs.OwnedLaws.{set-number}
use Rattle.hy_tallies.proofs.mixed.MixedValues.set_number.Goals as goal

pub invariant_of-self : goal.invariant_of-self
invariant_of-self c =
    (set-number c.self.inside.texts c.self.inside.values.items c.args.place c.args.number _ c.self.invariant
    (to_z-of_z w128 c.args.number (search rules))).1

pub returns-then-place-as_slice : goal.returns-then-place-as_slice
returns-then-place-as_slice c =
    (set-number c.self.inside.texts c.self.inside.values.items c.args.place c.args.number _ c.self.invariant
    (to_z-of_z w128 c.args.number (search rules))).0
    ∙ ap (λ values. set values c.args.place (Whole c.args.number)) c.self.view_is
