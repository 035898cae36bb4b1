use Rattle.std.proofs.lemmas.Result.{err_from_is_err_and}
use Rattle.hy_batches.proofs.NumberedLaws.{number-none, number-some}
use Rattle.hy_batches.proofs.reading.add_commit.Goals as goal

pub returns-in_err-number : goal.returns-in_err-number
returns-in_err-number c =
    let p = err_from_is_err_and c.from_residual.result c.from_residual.ensures.1 in
    rw (p.1, p.2) (number-none c.args.edition c.args.warehouse c.args.bytes.now c.in_err-number.ensures)

pub returns : goal.returns
returns c =
    rw (number-some c.args.edition c.args.warehouse c.args.bytes.now c.in_ok-number.number c.in_ok-number.rest.now c.in_ok-number.ensures)
    c.add_numbered.ensures
