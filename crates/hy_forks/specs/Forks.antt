-- Snapshots of all warehouses at one moment.
use Rattle.std.specs.Prelude.{◌≡◌, ◌⊎◌, ◌<◌, ℕ, suc, ◌-◌, ◌&&◌, Bool, true, false, List, [], ◌∷◌, length, slice_get, IfSome, IsSomeAnd}
use mathlib.Core.List.{IsPrefix}
use Rattle.hy_worlds.specs.Origins.{Origin, desk_of}
use Rattle.hy_rows.specs.Spelling.{Spells}
use Rattle.hy_rows.specs.Tables.{Lists}
use Rattle.hy_schema.specs.declared.refusal.Refusal.{Refusal}
use Rattle.hy_schema.specs.declared.refusal.Refusal.TheVariants as refusals
use Rattle.hy_commands.specs.declared.command.Commit.{Commit}
use Rattle.hy_commands.specs.Parts.{Database, rows_of}
use Rattle.hy_frames.specs.FrameTable.{count_of, free_of}
use Rattle.hy_space.specs.Space.{child_bytes, child_table}
use Rattle.hy_undo.specs.Touched.{touched}
use Rattle.hy_crossing.specs.of_partition.Jobs.{Log}
use Rattle.hy_crossing.specs.of_partition.Partition.{PartitionState, commits_of}
use Rattle.hy_crossing.specs.of_partition.Snapshots.{SnapshotState}
use Rattle.hy_crossing.specs.of_partition.Steps.{Closes, Forks, ForksFrom, KeepsJob, is_from}
use Rattle.hy_crossing.specs.Lists.{Pairwise}

-- the partition of the warehouse with a number was forked, for a client who had seen a beginning of the serial list:
-- the snapshot stands at its place
abbrev pub ForksHere : ℕ → Origin → Log → Log → List SnapshotState → ℕ → PartitionState → PartitionState → Type 0
ForksHere n kit log known snapshots number old new =
    IsSomeAnd (slice_get snapshots (number - 1)) (λ snapshot. Forks n kit log known old new snapshot)

-- each partition was
pub record ForksAll (n : ℕ) (kit : Origin) (log known : Log) (old new : List PartitionState)
    (snapshots : List SnapshotState) : Type 0 where
  pub count : length snapshots ≡ length old
  pub each : Pairwise (ForksHere n kit log known snapshots) 1 old new

-- snapshots, one for each warehouse in order, spell a database, on pages of n bytes
pub record SpellsDatabase (n : ℕ) (database : Database) (snapshots : List SnapshotState) : Type 0 where
  pub count : length snapshots ≡ length database.warehouses
  pub each : (place : ℕ) → IfSome (slice_get snapshots place) (λ snapshot.
      (snapshot.load.items ≡ database.items) × Spells n snapshot.bytes (rows_of (suc place) database))

-- a fork takes more frames than are free in one of the partitions
abbrev pub SomeLacks : List PartitionState → Type 0
SomeLacks [] = ⊥
SomeLacks (p ∷ parts) = (free_of p.space.frames < touched p.undo) ⊎ SomeLacks parts

-- why not every partition was forked: one lacks frames, or memory is refused
abbrev pub IsWhyUnforked : List PartitionState → Refusal → Type 0
IsWhyUnforked parts why = ((why ≡ refusals.NoFrame) × SomeLacks parts) ⊎ (why ≡ refusals.NoMemory)

-- nothing is forked in the end: the job, what is kept and the open snapshots stay, with their tables and bytes, and
-- each frame has as many users as before. The partition may have been told the serial list
pub record IsUnforked (log : Log) (old new : PartitionState) : Type 0 where
  pub job : KeepsJob old new
  pub seen : (new.seen ≡ old.seen) ⊎ ((new.seen ≡ log) × IsPrefix old.seen log)
  pub snapshots : (child : ℕ) → commits_of new child ≡ commits_of old child
  pub tables : (child : ℕ) → child_table new.space child ≡ child_table old.space child
  pub bytes : (child : ℕ) → child_bytes new.space child ≡ child_bytes old.space child
  pub counts : (f : ℕ) → count_of new.space.frames f ≡ count_of old.space.frames f
  pub max_frames : new.space.frames.max ≡ old.space.frames.max

-- ---- forks of snapshots

-- the partition of the warehouse with a number has a snapshot more, of what the one at its place among some sees
abbrev pub ForksFromHere : Origin → List SnapshotState → List SnapshotState → ℕ → PartitionState → PartitionState → Type 0
ForksFromHere kit all snapshots number old new =
    IsSomeAnd (slice_get snapshots (number - 1)) (λ snapshot. IsSomeAnd (slice_get all (number - 1)) (λ from.
    ForksFrom kit from old new snapshot))

-- each partition has
pub record ForksAllFrom (kit : Origin) (all : List SnapshotState) (old new : List PartitionState)
    (snapshots : List SnapshotState) : Type 0 where
  pub count : length snapshots ≡ length old
  pub each : Pairwise (ForksFromHere kit all snapshots) 1 old new

-- what a snapshot shows, whatever its ticket is
pub record Shown : Type 0 where
  pub load : Lists
  pub warehouse : ℕ
  pub commits : ℕ
  pub kept : List Commit
  pub bytes : List (List (List ℕ))

abbrev pub shown : SnapshotState → Shown
shown s = record { load = s.load; warehouse = s.warehouse; commits = s.commits; kept = s.kept; bytes = s.bytes }

-- nothing is forked in the end, and nobody was told
abbrev pub IsUnforkedUntold : PartitionState → PartitionState → Type 0
IsUnforkedUntold old new = (log : Log) → IsUnforked log old new

-- ---- closing

-- snapshots that say that they are of a kit are
abbrev pub AreOfKit : Origin → List SnapshotState → Type 0
AreOfKit kit snapshots = (place : ℕ) → IfSome (slice_get snapshots place) (λ snapshot.
    snapshot.name ≡ kit.name → snapshot.desk ≡ desk_of kit snapshot.warehouse)

-- whether snapshots say that they are those of some partitions, one of each in order
abbrev pub are_from : Origin → List SnapshotState → List PartitionState → Bool
are_from kit [] [] = true
are_from kit (snapshot ∷ snapshots) (p ∷ parts) = is_from snapshot p.warehouse kit && are_from kit snapshots parts
are_from kit snapshots parts = false

-- the snapshot at the place of the warehouse with a number was closed
abbrev pub ClosesHere : List SnapshotState → ℕ → PartitionState → PartitionState → Type 0
ClosesHere snapshots number old new =
    IsSomeAnd (slice_get snapshots (number - 1)) (λ snapshot. Closes old new snapshot.child)
