-- Partitions on their way through the commits of a batch.
use Rattle.std.specs.Prelude.{◌≡◌, ◌⊎◌, ℕ, suc, ◌<◌, ◌≤◌, Bool, true, false, ◌&&◌, List, [], ◌∷◌, ◌++◌, length, slice_get, IfSome, None, Some, nat_lt}
use Rattle.std.specs.List.{list_all}
use Rattle.hy_rows.specs.Tables.{Lists}
use Rattle.hy_schema.specs.declared.refusal.Refusal.{Refusal}
use Rattle.hy_schema.specs.declared.refusal.Refusal.TheVariants as refusals
use Rattle.hy_commands.specs.declared.command.Command.{Command}
use Rattle.hy_commands.specs.declared.command.Commit.{Commit}
use Rattle.hy_commands.specs.declared.command.Commit.TheVariants as commits
use Rattle.hy_commands.specs.declared.edition.Edition.{Edition}
use Rattle.hy_commands.specs.Commands.{warehouses_of}
use Rattle.hy_commands.specs.Parts.{is_by_number}
use Rattle.hy_batches.specs.Batches.{Batch}
use Rattle.hy_batches.specs.Grammar.{commit_fits, is_allowed, names}
use Rattle.hy_forks.specs.of_partition.Jobs.{Log}
use Rattle.hy_forks.specs.of_partition.Partition.{PartitionState, commits_of, replays, terms_of}
use Rattle.hy_forks.specs.of_tpcc.Shortages.{adds_no_page}
pub use Rattle.hy_forks.specs.Logged.{crossings_in}
use Rattle.hy_sound.specs.Sound.{is_known}
use Rattle.hy_sound.specs.Merges.{MergeState, count_of, left_of}
use Rattle.hy_sound.specs.inside.Steps.{IsSoundFrom}
use Rattle.hy_recovery.specs.Recovering.{HasNoFrameLeft}

-- ---- one commit

-- nothing runs, and no answer waits
pub record IsAtRest (p : PartitionState) : Type 0 where
  pub running : p.running ≡ None
  pub part : p.part ≡ None
  pub finished : p.finished ≡ None

-- a partition has kept one commit more, and is at rest again
pub record KeepsOne (commit : Commit) (old new : PartitionState) : Type 0 where
  pub terms : terms_of new ≡ terms_of old
  pub kept : new.kept ≡ old.kept ++ commit ∷ []
  pub rest : IsAtRest new
  pub max_frames : new.space.frames.max ≡ old.space.frames.max
  pub snapshots : new.snapshots ≡ old.snapshots

-- each warehouse that a command names has; the others have nothing new, but may know more of the serial list
pub record KeepsSeen (old new : PartitionState) : Type 0 where
  pub terms : terms_of new ≡ terms_of old
  pub kept : new.kept ≡ old.kept
  pub rest : IsAtRest new
  pub max_frames : new.space.frames.max ≡ old.space.frames.max
  pub snapshots : new.snapshots ≡ old.snapshots

abbrev pub KeepsWhereNamed : Command → Commit → ℕ → PartitionState → PartitionState → Type 0
KeepsWhereNamed command commit number old new =
    ((names command number ≡ true) × KeepsOne commit old new) ⊎ ((names command number ≡ false) × KeepsSeen old new)

-- a commit entered the end of the serial list, with some stamp
abbrev pub Enters : Commit → Log → Log → Type 0
Enters commit old new = (stamp : ℕ) × (new ≡ old ++ record { commit = commit; stamp = stamp } ∷ [])

-- a frame lacked, as is said, or memory
abbrev pub IsShortage : Type 0 → Refusal → Type 0
IsShortage Lacks why = ((why ≡ refusals.NoFrame) × Lacks) ⊎ (why ≡ refusals.NoMemory)

-- no frame is left for a partition behind what it has kept
abbrev pub HasNoFrame : ℕ → PartitionState → Type 0
HasNoFrame n p = HasNoFrameLeft n p.load p.space.frames.max p.warehouse p.kept

-- none for a command of which some slice adds a page
abbrev pub HasNoFrameFor : ℕ → Command → PartitionState → Type 0
HasNoFrameFor n command p = HasNoFrame n p × ((done : ℕ) × (adds_no_page command done ≡ false))

-- none for one of many
abbrev pub SomeHasNoFrame : ℕ → List PartitionState → Type 0
SomeHasNoFrame n parts = (place : ℕ) × (p : PartitionState) × (slice_get parts place ≡ Some p) × HasNoFrame n p

-- no snapshot is open
abbrev pub IsAlone : PartitionState → Type 0
IsAlone p = (child : ℕ) → commits_of p child ≡ None

-- whether a commit may stand in the list of a warehouse, in a batch of its edition
abbrev pub may_stand : ℕ → Commit → Bool
may_stand warehouse commit = is_allowed warehouse commit && commit_fits commit

-- what a command of one warehouse has passed that is run again there, by an edition
pub record CanRunLocal (edition : Edition) (command : Command) (p : PartitionState) : Type 0 where
  pub rest : IsAtRest p
  pub replays : replays p ≡ true
  pub allowed : may_stand p.warehouse (commits.Local edition command) ≡ true
  pub known : is_known p.load command ≡ true
  pub few : length p.kept < p.max_kept
  pub alone : IsAlone p

-- what one of several warehouses has passed
pub record CanRunCrossing (lists : Lists) (number : ℕ) (command : Command) (log : Log) (parts : List PartitionState)
    : Type 0 where
  pub several : nat_lt 1 (length (warehouses_of command)) ≡ true
  pub by_number : is_by_number command ≡ true
  pub known : is_known lists command ≡ true
  pub next : number ≡ suc (crossings_in log)
  pub rest : (place : ℕ) → IfSome (slice_get parts place) IsAtRest
  pub replays : (place : ℕ) → IfSome (slice_get parts place) (λ p. names command (suc place) ≡ true → replays p ≡ true)
  pub few : (place : ℕ) → IfSome (slice_get parts place) (λ p.
      names command (suc place) ≡ true → length p.kept < p.max_kept)
  pub alone : (place : ℕ) → IfSome (slice_get parts place) IsAlone

-- ---- many

-- where a way leads: the limits of each partition, the commits that it is to keep, how many of its commits the log has, and
-- the last number of a commit of several warehouses
pub record Aim : Type 0 where
  pub frames : ℕ
  pub most : ℕ
  pub goal : ℕ → List Commit
  pub replayed : ℕ → ℕ
  pub last : ℕ

-- the partition at a place is at rest, with no snapshot; what it has kept and what is left are what it
-- is to keep
pub record IsBound (lists : Lists) (aim : Aim) (left : List Commit) (place : ℕ) (p : PartitionState) : Type 0 where
  pub terms : terms_of p ≡ record {
    load = lists;
    warehouse = suc place;
    max_kept = aim.most;
    replayed = aim.replayed place;
  }
  pub kept : p.kept ++ left ≡ aim.goal place
  pub rest : IsAtRest p
  pub max_frames : p.space.frames.max ≡ aim.frames
  pub snapshots : IsAlone p

-- the partitions of a load are on their way through what is left of a batch
pub record AreOnWay (lists : Lists) (aim : Aim) (merge : MergeState) (log : Log) (parts : List PartitionState)
    : Type 0 where
  pub count : length parts ≡ length lists.tables.warehouses
  pub lists_are : count_of merge ≡ length parts
  pub each : (place : ℕ) → IfSome (slice_get parts place) (IsBound lists aim (left_of merge place) place)
  pub few : (place : ℕ) → place < length parts → length (aim.goal place) ≤ aim.most
  pub from_log : (place : ℕ) → place < length parts → length (aim.goal place) ≤ aim.replayed place
  pub allowed : (place : ℕ) → place < count_of merge → list_all (may_stand (suc place)) (left_of merge place) ≡ true
  pub sound : IsSoundFrom lists (crossings_in log) aim.last merge

-- they have come to its end
pub record AreThere (lists : Lists) (aim : Aim) (log : Log) (parts : List PartitionState) : Type 0 where
  pub count : length parts ≡ length lists.tables.warehouses
  pub each : (place : ℕ) → IfSome (slice_get parts place) (IsBound lists aim [] place)
  pub last : crossings_in log ≡ aim.last

-- a batch of which nothing was passed
abbrev pub untouched : Batch → MergeState
untouched batch = record { lists = batch.lists; passed = [] }
