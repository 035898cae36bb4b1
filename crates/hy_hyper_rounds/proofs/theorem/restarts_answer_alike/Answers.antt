-- A service that is started again answers as one that ran through.
use Rattle.hy_hyper_rounds.proofs.RestartLaws.{restarts-answer}
use Rattle.hy_hyper_rounds.proofs.theorem.restarts_answer_alike.Goals as goal

pub returns : goal.returns
returns c = restarts-answer c.stops_leave_a_beginning.ensures
