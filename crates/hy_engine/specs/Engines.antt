-- What clauses see of an engine, and what its calls answer.
use Rattle.std.specs.Prelude.{◌≡◌, ◌⊎◌, ◌≤◌, ℕ, Bool, true, false, List, [], ◌∷◌, None, Some, Result, Ok, Err, length, nat_lt}
use mathlib.Core.List.{IsPrefix}
use Rattle.hy_rows.specs.Tables.{Lists}
use Rattle.hy_schema.specs.Conditions.{first_broken}
use Rattle.hy_schema.specs.declared.refusal.Refusal.{Refusal}
use Rattle.hy_schema.specs.declared.refusal.Refusal.TheVariants as refusals
use Rattle.hy_database.specs.Database.{all_rows}
use Rattle.hy_commands.specs.declared.command.Command.{Command}
use Rattle.hy_commands.specs.declared.command.Commit.{Commit}
use Rattle.hy_commands.specs.declared.edition.Edition.TheVariants as editions
use Rattle.hy_commands.specs.Commands.{home_of, warehouses_of}
use Rattle.hy_passes.specs.Worlds.{PassState}
use Rattle.hy_queues.specs.Queues.{FrontState, IsWhyUnput}
use Rattle.hy_redo_drains.specs.of_partition.Jobs.{DoneState, JobState, Log, RunningJob, begun, refused_answer, told}
use Rattle.hy_redo_drains.specs.of_partition.Partition.{PartitionState}
use Rattle.hy_redo_drains.specs.of_partition.Snapshots.{SnapshotState}
use Rattle.hy_redo_drains.specs.of_partition.Steps.{Accepts, IsUnbegun, Refuses, begin_refusal, with_job}
use Rattle.hy_redo_drains.specs.of_crossing.Crossings.{ArePartitions, database_behind}
use Rattle.hy_redo_drains.specs.Following.{DrainState, WritesDue}
use Rattle.hy_redo_drains.specs.of_forks.Drains.{are_new, drained_of}
use Rattle.hy_redo_drains.specs.of_forks.Forks.{IsWhyUnforked, SpellsDatabase, are_from}
use Rattle.hy_redo_drains.specs.of_forks.Histories.{IsOneHistory}
use Rattle.hy_redo_drains.specs.of_forks.Origins.{Origin}
use Rattle.hy_redo_drains.specs.of_forks.Partitions.{AreWhole, CrossesAndTells}

-- how many warehouses an engine has, and how many jobs the queue of each can hold. Its clients are those of the kit, and the queue
-- of answers of each has one place
pub record EngineState : Type 0 where
  pub warehouses : ℕ
  pub capacity : ℕ

-- each queue has so many places
abbrev pub HavePlaces : ℕ → List ℕ → Type 0
HavePlaces count [] = Unit {0}
HavePlaces count (places ∷ queues) = (places ≡ count) × HavePlaces count queues

-- the greatest capacity of a queue of jobs
abbrev pub max_capacity : ℕ
max_capacity = 4_096

abbrev pub IsCapacity : ℕ → Type 0
IsCapacity capacity = (1 ≤ capacity) × (capacity ≤ max_capacity)

-- ---- jobs

-- whether a command names two or more warehouses
abbrev pub names_several : Command → Bool
names_several command = nat_lt 1 (length (warehouses_of command))

-- the job that ran in a partition has ended, with some serial list before and after; its answer was taken
pub record AnswersRunning (job : RunningJob) (old new : PartitionState) (answer : DoneState) : Type 0 where
  pub before : Log
  pub after : Log
  pub ended : PartitionState
  pub how : Accepts job (Some before) (Some after) old ended ⊎ Refuses job (Some before) (Some after) old ended
  pub answered : ended.finished ≡ Some answer
  pub taken : new ≡ record ended { finished = None }

-- a job was handed to a partition: its begin is refused, which is the answer, and nothing changes; or it was begun, and ran
-- to its end
abbrev pub AnswersJob : JobState → PartitionState → PartitionState → DoneState → Type 0
AnswersJob job old new answer =
    ((why : Refusal) × IsUnbegun old job.command why × (new ≡ old) × (answer ≡ refused_answer job.pass why))
    ⊎ ((begin_refusal old job.command ≡ None) × AnswersRunning (begun job) (with_job old job) new answer)

-- so many partitions that were locked aren't those of the load, or a part of a command is done in one of them
abbrev pub AreOthers : Lists → EngineState → Type 0
AreOthers lists engine =
    (parts : List PartitionState) × (length parts ≡ engine.warehouses) × (AreWhole lists parts → ⊥)

-- a job was done in a partition, or in the partitions of a load, all of them locked
pub data IsDone (lists : Lists) (job : JobState) (answer : DoneState) : Type 0 where
  at_home : (old new : PartitionState) → AnswersJob job old new answer → IsDone lists job answer
  in_all : (before after : Log) (old new : List PartitionState) → AreWhole lists old
      → CrossesAndTells lists job before after old new answer → IsDone lists job answer

-- an answer is one that a job of the second edition got
pub record IsAnswer (lists : Lists) (answer : DoneState) : Type 0 where
  pub job : JobState
  pub edition : job.edition ≡ editions.Second
  pub done : IsDone lists job answer

-- an engine has the warehouse with a number
abbrev pub IsHome : EngineState → ℕ → Type 0
IsHome engine number = (1 ≤ number) × (number ≤ engine.warehouses)

-- why a job comes back: the engine takes no more jobs; its home isn't there; it names several warehouses, and the partitions
-- aren't those of the load; or it names one, in whose queue all places were taken at one moment
pub data IsWhyBack (lists : Lists) (engine : EngineState) (command : Command) (why : Refusal) : Type 0 where
  closed : why ≡ refusals.Closed → (jobs : FrontState JobState) → jobs.is_closed ≡ true
      → IsWhyBack lists engine command why
  homeless : why ≡ refusals.NoSuchWarehouse → (IsHome engine (home_of command) → ⊥) → IsWhyBack lists engine command why
  unheld : why ≡ refusals.NoSuchWarehouse → names_several command ≡ true → AreOthers lists engine
      → IsWhyBack lists engine command why
  waits : (jobs : FrontState JobState) → IsHome engine (home_of command) → names_several command ≡ false
      → IsWhyUnput jobs why → IsWhyBack lists engine command why

-- ---- snapshots of all warehouses

-- a client who had seen a beginning of the serial list got a snapshot of the database behind it, which meets the
-- consistency conditions, and has seen all of it
pub record SeesAll (n : ℕ) (lists : Lists) (old new : PassState Commit) (snapshots : List SnapshotState) : Type 0 where
  pub log : Log
  pub begins : IsPrefix old.seen log
  pub told : new ≡ told old log
  pub database : SpellsDatabase n (database_behind lists log) snapshots
  pub consistent : first_broken (all_rows (database_behind lists log)) ≡ None

-- snapshots say that they are those of any partitions of a load
abbrev pub AreMine : Origin → Lists → List SnapshotState → Type 0
AreMine kit lists snapshots =
    (parts : List PartitionState) → ArePartitions lists parts → are_from kit snapshots parts ≡ true

-- why there is none: the partitions aren't those of the load; or they are, and one of them lacks frames, or memory is refused
pub data IsWhyUnseen (lists : Lists) (engine : EngineState) (why : Refusal) : Type 0 where
  others : why ≡ refusals.NoSuchWarehouse → AreOthers lists engine → IsWhyUnseen lists engine why
  unforked : (parts : List PartitionState) → ArePartitions lists parts → IsWhyUnforked parts why
      → IsWhyUnseen lists engine why

-- why one isn't closed: it isn't one of the partitions of the load, or those that are locked aren't
abbrev pub IsWhyOpen : Origin → Lists → EngineState → List SnapshotState → Refusal → Type 0
IsWhyOpen kit lists engine all why =
    ((why ≡ refusals.NotMine) × ¬ AreMine kit lists all) ⊎ ((why ≡ refusals.NoSuchWarehouse) × AreOthers lists engine)

-- why there is none of what another one sees: that one isn't one of the partitions of the load, or why there may be none
abbrev pub IsWhyNotAgain : Origin → Lists → EngineState → List SnapshotState → Refusal → Type 0
IsWhyNotAgain kit lists engine all why =
    ((why ≡ refusals.NotMine) × ¬ AreMine kit lists all)
    ⊎ ((why ≡ refusals.NoSuchWarehouse) × AreOthers lists engine) ⊎ (why ≡ refusals.NoMemory)

-- ---- drains

-- what was committed behind a beginning of the serial list, in partitions of a load, of which each has kept all that the list
-- has of it by then: all of it of the second edition, and due to be written
pub record DrainsAll (partitions : ℕ) (lists : Lists) (old new : DrainState) : Type 0 where
  pub begins : IsPrefix old.seen new.seen
  pub log : new.log ≡ old.log
  pub parts : List PartitionState
  pub are : ArePartitions lists parts
  pub history : IsOneHistory partitions new.seen parts
  pub due : new.due ≡ Some (drained_of old.seen parts)
  pub new_ones : are_new (drained_of old.seen parts) ≡ true

-- why nothing was drained
abbrev pub IsWhyUndrained : Lists → EngineState → Refusal → Type 0
IsWhyUndrained lists engine why =
    ((why ≡ refusals.NoSuchWarehouse) × AreOthers lists engine) ⊎ (why ≡ refusals.NoMemory)

-- a drain into a log: what was due is written first, where something was. Then nothing is drained, and the log stays as it
-- is; or what was committed is, and it is written
pub data DrainsInto (partitions : ℕ) (lists : Lists) (engine : EngineState) (old new : DrainState) (answer : Result (Unit {0}) Refusal) : Type 0 where
  stays_due : WritesDue old new answer → ((why : Refusal) × (answer ≡ Err why)) → DrainsInto partitions lists engine old new answer
  undrained : (why : Refusal) → WritesDue old new (Ok tt) → answer ≡ Err why → IsWhyUndrained lists engine why
      → DrainsInto partitions lists engine old new answer
  drained : (mid due : DrainState) → WritesDue old mid (Ok tt) → DrainsAll partitions lists mid due
      → WritesDue due new answer → DrainsInto partitions lists engine old new answer

-- why nothing was acknowledged: nothing was drained, or the log's writer has failed
abbrev pub IsWhyUnlogged : Lists → EngineState → Refusal → Type 0
IsWhyUnlogged lists engine why = IsWhyUndrained lists engine why ⊎ (why ≡ refusals.LogFailed)
