use Rattle.std.proofs.Common.{rules, ◌≡◌, Err}
use Rattle.hy_query.specs.Language.{query_of}
use Rattle.hy_program.specs.Replay.{greatest_limits}
use Rattle.hy_program.proofs.AskLaws.{answered_behind, lost_behind_by, unread_behind}
use Rattle.hy_program.proofs.QueryLaws.{if_ok}
use Rattle.hy_program.proofs.ReplayLaws.{lost_by}
use Rattle.hy_program.proofs.query.answer_behind.Goals as goal

-- the text says no query, or memory lacks for it
pub returns-in_err-asked-clause-refused : goal.returns-in_err-asked-clause-refused
returns-in_err-asked-clause-refused g c =
    let is : c.from_residual.result ≡ Err c.in_err-asked.field-0.0 = search rules in
    unread_behind c.args.load.now c.args.bytes.now c.args.text.now c.from_residual.result c.in_err-asked.field-0.0
    c.in_err-asked.ensures.refused is

-- the batches can't be run again, or memory lacks for the answer
pub returns-clause-refused : goal.returns-clause-refused
returns-clause-refused g c =
    let log = c.in_ok-batches.ensures.log in
    lost_behind_by c.args.load.now c.args.bytes.now c.args.text.now c.in_ok-asked.asked c.answer_on.result
    c.in_ok-asked.ensures.query
    (lost_by greatest_limits c.args.load.now c.args.bytes.now c.in_ok-batches.batches log.0 log.1 c.answer_on.result
    c.answer_on.ensures.refused)

pub returns-clause-answer : goal.returns-clause-answer
returns-clause-answer g c =
    let log = c.in_ok-batches.ensures.log in
    if_ok c.answer_on.result c.answer_on.ensures.answer
    (λ printed is. answered_behind c.args.load.now c.args.bytes.now c.in_ok-batches.batches log.0 c.in_ok-asked.asked
    (query_of c.args.text.now) _ log.1 c.in_ok-asked.ensures.query is)
