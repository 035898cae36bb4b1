use Rattle.std.proofs.Common.{rules, ℤ, ◌∙◌, ◌+ℤ◌, ◌++◌, ◌<◌, ap, get_or, length, map, pos, set, subst, FitsSigned}
use Rattle.std.proofs.lemmas.Bool.{true≢false}
use Rattle.std.proofs.lemmas.Int.{to_z-of_z}
use Rattle.std.specs.Int.{w64, w128}
use Rattle.hy_query.specs.Meaning.{number_in, wrapped}
use Rattle.hy_rows.specs.Rows.{value_at}
use Rattle.hy_rows.specs.declared.value.Value.TheVariants.{Whole}
use Rattle.hy_tallies.proofs.OwnedLaws.{add-front}
use Rattle.hy_tallies.proofs.owned.OwnedValues.add_small.Goals as goal

-- the sum has 64 bits
pub returns-in-Some : goal.returns-in-Some
returns-in-Some c =
    let numbers = c.self.inside.numbers.items in
    let fits : FitsSigned w64 c.in-Some.sum = search rules in
    let added = ap (λ sum. map Whole (set numbers c.args.place sum) ++ c.self.inside.others) (to_z-of_z w64 c.in-Some.sum fits)
    ∙ add-front numbers c.self.inside.others c.args.place c.args.number c.in-Some.sum
    (subst (λ list. c.args.place < length list) c.deref.ensures.value c.in-Some.ensures.within)
    (c.in-Some.ensures.sum
    ∙ ap (λ (number : ℤ). get_or c.deref.result.now c.args.place (pos 0) +ℤ number) (to_z-of_z w128 c.args.number (search rules))
    ∙ ap (λ list. get_or list c.args.place (pos 0) +ℤ c.args.number) c.deref.ensures.value) fits
    ∙ ap (λ values. set values c.args.place (Whole (wrapped (number_in (value_at values c.args.place) +ℤ c.args.number))))
    c.self.view_is in
    record { added = λ is. added; same = λ no. absurd (true≢false no) }
