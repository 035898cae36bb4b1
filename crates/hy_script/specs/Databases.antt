-- The partitions that a script runs on, with the snapshots that it has open.
use Rattle.std.specs.Prelude.{◌≡◌, ℕ, zero, suc, List, Option, None, IsSomeAnd, slice_get, slice_set}
use Rattle.hy_session.specs.of_partition.Jobs.{Log}
use Rattle.hy_session.specs.of_partition.Partition.{PartitionState}
use Rattle.hy_session.specs.of_partition.Snapshots.{SnapshotState}

-- nothing runs in a partition, no answer waits there, and this is its limit on frames
pub record IsAtRest (frames : ℕ) (p : PartitionState) : Type 0 where
  pub running : p.running ≡ None
  pub finished : p.finished ≡ None
  pub max_frames : p.space.frames.max ≡ frames

-- a snapshot of the whole database, one of each warehouse in order, under its name
pub record OpenSnapshot : Type 0 where
  pub name : List ℕ
  pub parts : List SnapshotState

-- the partitions of the warehouses in order; the open snapshots in the order of their forks; and the serial list of the
-- commits of all warehouses
pub record DatabaseState : Type 0 where
  pub parts : List PartitionState
  pub snapshots : List OpenSnapshot
  pub log : Log

-- the partition of the warehouse with a number, counted from 1
abbrev pub part_at : DatabaseState → ℕ → Option PartitionState
part_at database zero = None
part_at database (suc place) = slice_get database.parts place

-- the same with another one under that number
abbrev pub with_part : DatabaseState → ℕ → PartitionState → DatabaseState
with_part database zero p = database
with_part database (suc place) p = record database { parts = slice_set database.parts place p }

-- a name is that of the snapshot at a place
abbrev pub IsNameAt : List OpenSnapshot → List ℕ → ℕ → Type 0
IsNameAt snapshots name place = IsSomeAnd (slice_get snapshots place) (λ snapshot. snapshot.name ≡ name)

abbrev pub HasName : List OpenSnapshot → List ℕ → Type 0
HasName snapshots name = (place : ℕ) × IsNameAt snapshots name place
