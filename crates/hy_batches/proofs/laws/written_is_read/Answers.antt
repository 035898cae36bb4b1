use Rattle.hy_batches.proofs.LogLaws.{log_is_read, written_log}
use Rattle.hy_batches.proofs.laws.written_is_read.Goals as goal

pub returns-clause-log : goal.returns-clause-log
returns-clause-log c = written_log

pub returns-clause-read : goal.returns-clause-read
returns-clause-read c = log_is_read
