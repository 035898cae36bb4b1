-- Databases that have kept the same answer alike.
use Rattle.hy_hyper_rounds.proofs.BothLaws.{answers-alike}
use Rattle.hy_hyper_rounds.proofs.theorem.answers_are_alike.Goals as goal

pub returns : goal.returns
returns c = answers-alike
