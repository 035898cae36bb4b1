-- What clauses see of the fields of a partition.
use Rattle.std.specs.Prelude.{ℕ}
use Rattle.hy_passes.specs.Worlds.{KeptState}
use Rattle.hy_commands.specs.declared.command.Commit.{Commit}
use Rattle.hy_partition.specs.Partition.{PartitionState, projection_of}
use Rattle.hy_partition.specs.declared.partition.Partition.TheInside.{Inside}

-- a partition with what its list was told, and the commits that this list has of its warehouse
abbrev pub with_list : PartitionState → KeptState Commit → PartitionState
with_list p list = record p { seen = list.seen; kept = projection_of list.warehouse list.seen }

abbrev pub partition_of : {n : ℕ} {K : Type 0} → Inside n K → PartitionState
partition_of p = record {
  load = p.executor.layout.load;
  warehouse = p.executor.layout.warehouse;
  max_kept = p.max_kept;
  replayed = p.replayed;
  seen = p.kept.seen;
  kept = projection_of p.kept.warehouse p.kept.seen;
  book = p.book;
  running = p.running;
  part = p.part;
  undo = p.undo;
  finished = p.finished;
  space = p.space;
  snapshots = p.snapshots.items;
}
