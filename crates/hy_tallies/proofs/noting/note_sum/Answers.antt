use Rattle.std.proofs.Common.{ℤ, List, ◌∙◌, ◌≡◌, ◌<◌, ◌≤◌, ◌+ℤ◌, OnOk, ap, arith, length, refl, rules, set, subst, to_z, of_z}
use Rattle.std.proofs.lemmas.Int.{to_z-of_z}
use Rattle.std.proofs.lemmas.Result.{on_ok_weaker}
use Rattle.std.specs.Int.{w128}
use Rattle.hy_query.specs.Meaning.{number_in, wrapped}
use Rattle.hy_rows.specs.declared.value.Value.{Value}
use Rattle.hy_rows.specs.Rows.{value_at}
use Rattle.hy_rows.specs.declared.value.Value.TheVariants.{Whole}
use Rattle.hy_tallies.proofs.StepLaws.{sum-new, sum-old}
use Rattle.hy_tallies.proofs.noting.note_sum.Goals as goal

pub returns-then-number-len : goal.returns-then-number-len
returns-then-number-len g c =
    let behind : length c.args.column.now ≤ c.args.number = omega (arith, c.len.ensures, c.if-number-len.true) in
    on_ok_weaker c.push_number.result
    (λ pushed. pushed
    ∙ sum-new c.args.column.now c.args.number (value_at (g.V.ByPlace.values c.args.values.now) c.args.line)
    c.number_of-added.result _ behind (search rules)
    (to_z-of_z w128 c.number_of-added.result (search rules))
    (c.number_of-added.ensures ∙ ap number_in c.value.ensures)) c.push_number.ensures

pub returns-then-add_small : goal.returns-then-add_small
returns-then-add_small g c =
    let within : c.args.number < length c.args.column.now = omega (arith, c.len.ensures, c.if-number-len.false) in
    c.if-add_small.ensures.added refl
    ∙ sum-old c.args.column.now c.args.number (value_at (g.V.ByPlace.values c.args.values.now) c.args.line)
    c.number_of-added.result _ within (to_z-of_z w128 c.number_of-added.result (search rules))
    (c.number_of-added.ensures ∙ ap number_in c.value.ensures)

pub returns : goal.returns
returns g c =
    let within : c.args.number < length c.args.column.now = omega (arith, c.len.ensures, c.if-number-len.false) in
    let added = to_z w128 (of_z w128 c.number_of-added.result) in
    on_ok_weaker c.add.result
    (λ is. is
    ∙ ap (λ (before : List Value). set before c.args.number (Whole (wrapped (number_in (value_at before c.args.number) +ℤ added))))
    (c.if-add_small.ensures.same refl)
    ∙ sum-old c.args.column.now c.args.number (value_at (g.V.ByPlace.values c.args.values.now) c.args.line)
    c.number_of-added.result _ within (to_z-of_z w128 c.number_of-added.result (search rules))
    (c.number_of-added.ensures ∙ ap number_in c.value.ensures)) c.add.ensures
