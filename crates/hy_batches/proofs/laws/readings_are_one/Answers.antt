use Rattle.hy_batches.proofs.LogLaws.{all_read, no_log_fails, one_fault, one_log}
use Rattle.hy_batches.proofs.laws.readings_are_one.Goals as goal

pub returns-clause-decided : goal.returns-clause-decided
returns-clause-decided c = all_read

pub returns-clause-log : goal.returns-clause-log
returns-clause-log c = one_log

pub returns-clause-fault : goal.returns-clause-fault
returns-clause-fault c = one_fault

pub returns-clause-apart : goal.returns-clause-apart
returns-clause-apart c = no_log_fails
