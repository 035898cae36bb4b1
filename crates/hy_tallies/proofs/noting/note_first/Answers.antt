use Rattle.std.proofs.Common.{◌∙◌, ◌≤◌, arith, length, sym}
use Rattle.std.proofs.lemmas.Result.{on_ok_weaker}
use Rattle.hy_rows.specs.Rows.{value_at}
use Rattle.hy_tallies.proofs.StepLaws.{first-new, noted-kept}
use Rattle.hy_tallies.proofs.noting.note_first.Goals as goal

pub returns-then-number-len : goal.returns-then-number-len
returns-then-number-len g c =
    sym (noted-kept c.args.column.now c.args.number (value_at (g.V.ByPlace.values c.args.values.now) c.args.line)
    (omega (arith, c.len.ensures, c.if-number-len.true)))

pub returns : goal.returns
returns g c =
    let behind : length c.args.column.now ≤ c.args.number = omega (arith, c.len.ensures, c.if-number-len.false) in
    on_ok_weaker c.push.result
    (λ pushed. pushed ∙ first-new c.args.column.now c.args.number (value_at (g.V.ByPlace.values c.args.values.now) c.args.line)
    c.value.result behind c.value.ensures) c.push.ensures
