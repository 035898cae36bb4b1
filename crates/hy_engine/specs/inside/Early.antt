-- Steps of a worker without the journal.
use Rattle.std.specs.Prelude.{Some}
use Rattle.hy_redo_drains.specs.of_partition.Jobs.{Log, RunningJob}
use Rattle.hy_redo_drains.specs.of_partition.Partition.{PartitionState}
use Rattle.hy_partition.proofs.FinishLaws.{HasEnded, Reached}

-- some steps were done, whatever the serial list is
pub record AreEarly (old now : PartitionState) : Type 0 where
  pub reached : (log : Log) → Reached log log old now

-- the job that ran has ended, with some serial list before and after
pub record EndsRun (job : RunningJob) (old now : PartitionState) : Type 0 where
  pub before : Log
  pub after : Log
  pub how : HasEnded job (Some before) (Some after) old now
