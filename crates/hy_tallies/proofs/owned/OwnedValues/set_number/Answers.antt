use Rattle.std.proofs.Common.{rules, arith, ◌++◌, ◌-◌, ◌∙◌, ap, map, set}
use Rattle.std.proofs.lemmas.Bool.Decides.{nat_tests}
use Rattle.std.proofs.lemmas.Int.{ints, to_z-of_z}
use Rattle.std.specs.Int.{w128}
use Rattle.hy_rows.specs.declared.value.Value.TheVariants.{Whole}
use Rattle.hy_tallies.proofs.OwnedLaws.{set-behind, set-front}
use Rattle.hy_tallies.proofs.owned.OwnedValues.set_number.Goals as goal

-- it stands with the others
pub returns-then-place-count : goal.returns-then-place-count
returns-then-place-count c =
    let numbers = c.self.inside.numbers.items in
    ap (λ others. map Whole numbers ++ others) (c.set_number.ensures
    ∙ ap (λ number. set c.self.inside.others (c.args.place - c.len-count.result) (Whole number))
    (to_z-of_z w128 c.args.number (search rules)))
    ∙ set-behind numbers c.self.inside.others c.args.place c.len-count.result (Whole c.args.number) (search rules)
    (grind (arith, nat_tests, c.if-place-count.true, c.len-count.ensures))
    ∙ ap (λ values. set values c.args.place (Whole c.args.number)) c.self.view_is

-- it is one of 64 bits
pub returns-in-Ok : goal.returns-in-Ok
returns-in-Ok c =
    let numbers = c.self.inside.numbers.items in
    ap (λ number. map Whole (set numbers c.args.place number) ++ c.self.inside.others)
    (omega (arith, ints, c.in-Ok.ensures.0, c.in-Ok.ensures.1))
    ∙ set-front numbers c.self.inside.others c.args.place c.args.number
    (search rules)
    ∙ ap (λ values. set values c.args.place (Whole c.args.number)) c.self.view_is
