use Rattle.std.proofs.Common.{◌^◌, nat_lt, ap, ◌∙◌, rules}
use Rattle.std.proofs.lemmas.Int.{to_z-of_z}
use Rattle.std.specs.Bool.{then_some}
use mir.Syntax.{w128}
use Rattle.hy_query.proofs.WordLaws.{whole_of-none, whole_of-some}
use Rattle.hy_query.proofs.words.whole_of.Goals as goal

pub returns-in_err-magnitude-2 : goal.returns-in_err-magnitude-2
returns-in_err-magnitude-2 c =
    c.from_residual-in_err-magnitude-2.ensures
    ∙ whole_of-none c.args.word.now c.in_ok-first.digits.now c.in_ok-first.first.now c.in_ok-first.ensures.cases.0
    c.if-first-eq45.false c.in_err-magnitude-2.ensures

pub returns-in_ok-magnitude-2 : goal.returns-in_ok-magnitude-2
returns-in_ok-magnitude-2 c =
    let number = c.in_ok-magnitude-2.magnitude in
    let kept = to_z-of_z w128 c.from-else-first-eq45.result (search rules) in
    c.then_some-else-first-eq45.ensures
    ∙ ap (λ value. then_some (nat_lt number (2 ^ 63)) value) (kept ∙ c.from-else-first-eq45.ensures)
    ∙ whole_of-some c.args.word.now c.in_ok-first.digits.now c.in_ok-first.first.now number
    c.in_ok-first.ensures.cases.0 c.if-first-eq45.false c.in_ok-magnitude-2.ensures
