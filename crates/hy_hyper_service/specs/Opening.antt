-- The database that a service begins with.
use Rattle.std.specs.Prelude.{◌≡◌, ℕ, List, []}
use Rattle.hy_rows.specs.Tables.{Lists}
use Rattle.hy_batches.specs.Batches.{Batch}
use Rattle.hy_recovery.specs.Recovering.{AreRecovered}
use Rattle.hy_redo_drains.specs.of_forks.Drains.{TellsHere}
use Rattle.hy_redo_drains.specs.of_forks.Lists.{Pairwise}
use Rattle.hy_redo_drains.specs.of_forks.Logged.{SaySame}
use Rattle.hy_redo_drains.specs.of_partition.Jobs.{Log}
use Rattle.hy_redo_drains.specs.of_partition.Partition.{PartitionState}
use Rattle.hy_script.specs.Databases.{DatabaseState}

-- The partitions are those that are recovered from the batches of a log, and were told of the whole serial list, which says the
-- same as the batches; no snapshot is open; and the place behind which commits are new is the end of that list.
pub record IsOpened (lists : Lists) (frames most : ℕ) (batches : List Batch) (database : DatabaseState) (seen : Log)
    : Type 0 where
  pub recovered : List PartitionState
  pub are : AreRecovered lists frames most batches recovered
  pub told : Pairwise (TellsHere database.log) 1 recovered database.parts
  pub snapshots : database.snapshots ≡ []
  pub same : SaySame lists batches database.log
  pub seen_is : seen ≡ database.log
