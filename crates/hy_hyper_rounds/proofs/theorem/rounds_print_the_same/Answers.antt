-- A drain changes no answer.
use Rattle.hy_hyper_rounds.proofs.RoundLaws.{rounds-print}
use Rattle.hy_hyper_rounds.proofs.theorem.rounds_print_the_same.Goals as goal

pub returns : goal.returns
returns c = rounds-print
