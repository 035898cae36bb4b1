use Rattle.hy_storm.specs.of_session.Snapshots.{lists_of_all}
use Rattle.hy_program.specs.Replay.{greatest_limits}
use Rattle.hy_program.proofs.AskLaws.{answered_on}
use Rattle.hy_program.proofs.QueryLaws.{if_ok}
use Rattle.hy_program.proofs.ReplayLaws.{without_memory_by}
use Rattle.hy_program.proofs.query.answer_on.Goals as goal

-- what the session answers
pub returns-clause-answer : goal.returns-clause-answer
returns-clause-answer g c =
    if_ok c.answered-answer.result c.answered-answer.ensures.answer
    (λ printed is. answered_on c.args.load.now c.args.batches.now c.args.query.now
    (lists_of_all 4_096 c.in_ok-partitions.session) _ c.in_ok-partitions.ensures.rows is)

pub returns-clause-refused : goal.returns-clause-refused
returns-clause-refused g c =
    without_memory_by greatest_limits c.args.load.now c.args.batches.now c.in_ok-partitions.ensures.fit c.answered-answer.result
    c.answered-answer.ensures.refused
