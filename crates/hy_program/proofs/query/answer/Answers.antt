use Rattle.std.proofs.Common.{rules, ◌≡◌, Err}
use Rattle.hy_program.proofs.QueryLaws.{unread-by}
use Rattle.hy_program.proofs.query.answer.Goals as goal

pub returns-in_err-query-clause-refused : goal.returns-in_err-query-clause-refused
returns-in_err-query-clause-refused g c =
    let is : c.from_residual.result ≡ Err c.in_err-query.field-0.0 = search rules in
    unread-by c.args.load.now c.args.text.now c.from_residual.result c.in_err-query.field-0.0 c.in_err-query.ensures.refused is
