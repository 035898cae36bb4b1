use Rattle.std.proofs.Common.{◌∙◌, ◌≤◌, arith, length}
use Rattle.std.proofs.lemmas.Result.{on_ok_weaker}
use Rattle.hy_rows.specs.Rows.{value_at}
use Rattle.hy_tallies.proofs.StepLaws.{best-new}
use Rattle.hy_tallies.proofs.noting.note_best.Goals as goal

pub returns : goal.returns
returns g c =
    let behind : length c.args.column.now ≤ c.args.number = omega (arith, c.len.ensures, c.if-number-len.false) in
    on_ok_weaker c.push.result
    (λ pushed. pushed ∙ best-new c.args.extreme c.args.column.now c.args.number
    (value_at (g.V.ByPlace.values c.args.values.now) c.args.line) c.value-value.result behind c.value-value.ensures)
    c.push.ensures
