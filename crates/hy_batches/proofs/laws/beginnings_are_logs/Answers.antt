use Rattle.hy_batches.proofs.LogLaws.{cut_log}
use Rattle.hy_batches.proofs.laws.beginnings_are_logs.Goals as goal

pub returns : goal.returns
returns c = cut_log
