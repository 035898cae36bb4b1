use Rattle.std.proofs.Common.{rules, arith, ◌++◌, ◌∙◌, ap, map, set}
use Rattle.std.proofs.lemmas.Bool.Decides.{nat_tests}
use Rattle.std.proofs.lemmas.Result.{on_ok_weaker}
use Rattle.hy_rows.specs.declared.value.Value.TheVariants.{Text, Whole}
use Rattle.hy_tallies.proofs.OwnedLaws.{set-behind}
use Rattle.hy_tallies.proofs.owned.OwnedValues.set_text.Goals as goal

-- it stands with the others
pub returns-then-place-count : goal.returns-then-place-count
returns-then-place-count c =
    let numbers = c.self.inside.numbers.items in
    on_ok_weaker c.set_text.result (λ is.
    ap (λ others. map Whole numbers ++ others) is
    ∙ set-behind numbers c.self.inside.others c.args.place c.len-count.result (Text c.args.text.now) (search rules)
    (grind (arith, nat_tests, c.if-place-count.true, c.len-count.ensures))
    ∙ ap (λ values. set values c.args.place (Text c.args.text.now)) c.self.view_is) c.set_text.ensures
