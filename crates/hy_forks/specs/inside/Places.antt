-- One partition at a time: it is forked, or its snapshot is closed.
use Rattle.std.specs.Prelude.{◌≡◌, ◌⊎◌, ◌<◌, ◌≤◌, ℕ, ◌-◌, true, List, slice_get, IfSome, IsSomeAnd}
use Rattle.hy_worlds.specs.Origins.{Origin, desk_of}
use Rattle.hy_schema.specs.declared.refusal.Refusal.{Refusal}
use Rattle.hy_schema.specs.declared.refusal.Refusal.TheVariants as refusals
use Rattle.hy_frames.specs.FrameTable.{free_of}
use Rattle.hy_space.specs.Space.{CountsAreExact}
use Rattle.hy_undo.specs.Touched.{touched}
use Rattle.hy_crossing.specs.of_partition.Jobs.{Log}
use Rattle.hy_crossing.specs.of_partition.Partition.{PartitionState}
use Rattle.hy_crossing.specs.of_partition.Snapshots.{SnapshotState}
use Rattle.hy_crossing.specs.of_partition.Steps.{Closes, Forks, ForksFrom, StaysUnforked, is_from}

-- a partition whose counts of frames were exact was forked
pub record ForksExactly (n : ℕ) (kit : Origin) (log known : Log) (snapshot : SnapshotState)
    (old new : PartitionState) : Type 0 where
  pub exact : CountsAreExact old.space
  pub forks : Forks n kit log known old new snapshot

-- the partition of the warehouse with a number was, and the snapshot stands at its place
abbrev pub ForksExactlyHere : ℕ → Origin → Log → Log → List SnapshotState → ℕ → PartitionState → PartitionState → Type 0
ForksExactlyHere n kit log known snapshots number old new =
    IsSomeAnd (slice_get snapshots (number - 1)) (λ snapshot. ForksExactly n kit log known snapshot old new)

-- a partition whose counts of frames were exact has a snapshot more, of what another one sees
pub record ForksFromExactly (kit : Origin) (from snapshot : SnapshotState) (old new : PartitionState) : Type 0 where
  pub exact : CountsAreExact old.space
  pub forks : ForksFrom kit from old new snapshot

-- the partition of the warehouse with a number has, and both snapshots stand at its place
abbrev pub ForksFromExactlyHere : Origin → List SnapshotState → List SnapshotState → ℕ → PartitionState → PartitionState
    → Type 0
ForksFromExactlyHere kit all snapshots number old new =
    IsSomeAnd (slice_get snapshots (number - 1)) (λ snapshot. IsSomeAnd (slice_get all (number - 1)) (λ from.
    ForksFromExactly kit from snapshot old new))

-- a partition isn't forked, and stays: it lacks frames, or memory is refused
pub record RefusesFork (why : Refusal) (old new : PartitionState) : Type 0 where
  pub reason : ((why ≡ refusals.NoFrame) × (free_of old.space.frames < touched old.undo)) ⊎ (why ≡ refusals.NoMemory)
  pub stays : StaysUnforked old new

-- a snapshot is one of a partition, and of its desk
pub record IsOf (kit : Origin) (snapshot : SnapshotState) (p : PartitionState) : Type 0 where
  pub from : is_from snapshot p.warehouse kit ≡ true
  pub desk : snapshot.desk ≡ desk_of kit p.warehouse

-- snapshots are of the first partitions, one of each in order
abbrev pub AreOf : Origin → List SnapshotState → List PartitionState → Type 0
AreOf kit snapshots parts =
    (place : ℕ) → IfSome (slice_get snapshots place) (λ snapshot. IsSomeAnd (slice_get parts place) (IsOf kit snapshot))

-- a snapshot was closed, and the counts of frames are exact
pub record ClosesExactly (snapshot : SnapshotState) (old new : PartitionState) : Type 0 where
  pub exact : CountsAreExact new.space
  pub closes : Closes old new snapshot.child

-- the snapshot at the place of the warehouse with a number was
abbrev pub ClosesExactlyHere : List SnapshotState → ℕ → PartitionState → PartitionState → Type 0
ClosesExactlyHere snapshots number old new =
    IsSomeAnd (slice_get snapshots (number - 1)) (λ snapshot. ClosesExactly snapshot old new)

-- one relation from a number on, and the same elements before it
abbrev pub From : {Row : Type 0} → ℕ → (ℕ → Row → Row → Type 0) → ℕ → Row → Row → Type 0
From first relation number old new = ((first ≤ number) × relation number old new) ⊎ ((number < first) × (new ≡ old))
