-- A service that is started again has kept the same.
use Rattle.hy_hyper_rounds.proofs.RestartLaws.{restarts-alike}
use Rattle.hy_hyper_rounds.proofs.theorem.restarts_keep_the_same.Goals as goal

pub returns : goal.returns
returns c = restarts-alike c.stops_leave_a_beginning.ensures
