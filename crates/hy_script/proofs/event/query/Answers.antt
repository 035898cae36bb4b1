use Rattle.hy_script.specs.Answers.{AnswersQuery}
use Rattle.hy_script.proofs.AskedLaws.{asked-name}
use Rattle.hy_script.proofs.event.query.Goals as goal

pub returns-clause-answered : goal.returns-clause-answered
returns-clause-answered g c =
    asked-name c.args.name.now (AnswersQuery g.row.N c.args.text.now) c.args.database.now c.in-Some.place
    (g.O.Output.contents c.args.out.now) (g.O.Output.contents c.query.new.out) c.in-Some.ensures
    c.in_ok-query.ensures.written
