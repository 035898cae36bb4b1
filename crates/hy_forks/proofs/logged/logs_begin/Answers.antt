use Rattle.hy_forks.proofs.LoggedLaws.{nothing-same}
use Rattle.hy_forks.proofs.logged.logs_begin.Goals as goal

pub returns : goal.returns
returns c = record { fresh = λ lists. nothing-same lists }
