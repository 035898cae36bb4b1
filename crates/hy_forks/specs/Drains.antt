-- What was committed since the last drain.
use Rattle.std.specs.Prelude.{◌≡◌, ℕ, Bool, List, drop, length, map}
use Rattle.std.specs.List.{list_all}
use mathlib.Core.List.{IsPrefix}
use Rattle.hy_commands.specs.declared.command.Commit.{Commit}
use Rattle.hy_commands.specs.declared.edition.Edition.TheVariants as editions
use Rattle.hy_batches.specs.Batches.{Batch}
use Rattle.hy_crossing.specs.of_partition.Jobs.{Log}
use Rattle.hy_crossing.specs.of_partition.Partition.{PartitionState, is_new, projection_of}

-- a partition was told the whole serial list, of which it has kept all that names it
abbrev pub TellsHere : Log → ℕ → PartitionState → PartitionState → Type 0
TellsHere log number old new =
    (new ≡ record old { seen = log }) × (old.kept ≡ projection_of old.warehouse log) × IsPrefix old.seen log

-- what a partition has kept behind a beginning of the serial list
abbrev pub kept_behind : Log → PartitionState → List Commit
kept_behind seen p = drop (length (projection_of p.warehouse seen)) p.kept

-- the batch of what was committed in each partition behind what was drained: of the second edition, as new commands are
abbrev pub drained_of : Log → List PartitionState → Batch
drained_of seen parts = record { edition = editions.Second; lists = map (kept_behind seen) parts }

-- whether all commits of a batch are of the second edition
abbrev pub are_new : Batch → Bool
are_new batch = list_all (list_all is_new) batch.lists
