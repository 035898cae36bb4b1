use Rattle.std.proofs.Common.{◌∙◌, ap, set}
use Rattle.hy_rows.specs.declared.value.Value.TheVariants.{Text}
use Rattle.hy_tallies.proofs.OwnedLaws.{set-text}
use Rattle.hy_tallies.proofs.mixed.MixedValues.set_text.Goals as goal

pub invariant_of-self-2 : goal.invariant_of-self-2
invariant_of-self-2 c =
    (set-text c.self.inside.texts c.push.new.self c.args.text.now c.self.inside.values.items c.args.place c.len-behind.result
    c.self.invariant c.len-behind.ensures c.in_ok-push.ensures.ok).1

pub returns : goal.returns
returns c =
    (set-text c.self.inside.texts c.push.new.self c.args.text.now c.self.inside.values.items c.args.place c.len-behind.result
    c.self.invariant c.len-behind.ensures c.in_ok-push.ensures.ok).0
    ∙ ap (λ values. set values c.args.place (Text c.args.text.now)) c.self.view_is
