-- What a service does with what was committed, and what a stop leaves of it.
use Rattle.std.specs.Prelude.{◌≡◌, ◌≢◌, ◌⊎◌, ◌<◌, ℕ, suc, List, [], ◌∷◌, ◌++◌, length, false, None, Result, Ok, Err}
use mathlib.Core.List.{IsPrefix}
use Rattle.hy_rows.specs.Tables.{Lists}
use Rattle.hy_schema.specs.declared.refusal.Refusal.{Refusal}
use Rattle.hy_schema.specs.declared.refusal.Refusal.TheVariants as refusals
use Rattle.hy_batches.specs.Batches.{Batch}
use Rattle.hy_batches.specs.Logs.{IsLog, Reads}
use Rattle.hy_redo.specs.Calls.{Answers, LogState}
use Rattle.hy_redo.specs.Disk.{MayLeave}
use Rattle.hy_redo_drains.specs.of_forks.Drains.{TellsHere, drained_of}
use Rattle.hy_redo_drains.specs.of_forks.Lists.{Pairwise}
use Rattle.hy_redo_drains.specs.of_forks.Logged.{SaySame, joined}
use Rattle.hy_redo_drains.specs.of_partition.Jobs.{Log}
use Rattle.hy_redo_drains.specs.of_partition.Partition.{projection_of}
use Rattle.hy_redo_drains.specs.Following.{DrainState, Follows}
use Rattle.hy_sound.specs.Sound.{IsSoundLog}
use Rattle.hy_script.specs.Databases.{DatabaseState}

-- a log, and the beginning of the serial list that was written to it
pub record LoggedState : Type 0 where
  pub log : LogState
  pub seen : Log

-- the same, as a log that is handed what a database commits, where no batch is due
abbrev pub nothing_due : LogState → Log → DrainState
nothing_due log seen = record { log = log; seen = seen; due = None }

-- the partitions were told of the whole serial list; nothing else has changed
pub record IsTold (old new : DatabaseState) : Type 0 where
  pub told : Pairwise (TellsHere old.log) 1 old.parts new.parts
  pub snapshots : new.snapshots ≡ old.snapshots
  pub log : new.log ≡ old.log

-- a batch of what was committed behind the beginning that was written before is handed to the log, which answers it; the
-- batches go on with it as the serial list does
pub record HandsBatch (lists : Lists) (old new : LoggedState) (before after : DatabaseState)
    (answer : Result (Unit {0}) Refusal) : Type 0 where
  pub told : IsTold before after
  pub seen : new.seen ≡ before.log
  pub answers : Answers old.log new.log (drained_of old.seen after.parts) answer
  pub goes_on : (batches : List Batch) → SaySame lists batches old.seen
      → SaySame lists (batches ++ drained_of old.seen after.parts ∷ []) new.seen

-- All that was committed is written and acknowledged. Where nothing was, nothing happens; else one batch has it.
abbrev pub KeepsCommits : Lists → LoggedState → LoggedState → DatabaseState → DatabaseState → Type 0
KeepsCommits lists old new before after =
    ((before.log ≡ old.seen) × (new ≡ old) × (after ≡ before))
    ⊎ ((before.log ≢ old.seen) × HandsBatch lists old new before after (Ok tt))

-- why it isn't: memory was refused before anything was written, or the log has failed
abbrev pub IsWhyUnkept : Lists → LoggedState → LoggedState → DatabaseState → DatabaseState → Refusal → Type 0
IsWhyUnkept lists old new before after why =
    ((why ≡ refusals.NoMemory) × (new ≡ old))
    ⊎ ((why ≡ refusals.LogFailed) × HandsBatch lists old new before after (Err refusals.LogFailed))

-- ---- what a stop leaves

-- What the disk has reads as whole batches, or memory is wanted; they are sound beside the load, and of each warehouse they
-- have all that a serial list has of it, at the front.
pub record IsKeptIn (lists : Lists) (seen : Log) (left : List ℕ) : Type 0 where
  pub batches : List Batch
  pub rest : List ℕ
  pub log : IsLog left batches rest
  pub reads : (read : Result (List Batch) Refusal) → Reads left read
      → (read ≡ Ok batches) ⊎ (read ≡ Err refusals.NoMemory)
  pub sound : IsSoundLog lists batches
  pub kept : (place : ℕ) → place < length lists.tables.warehouses
      → IsPrefix (projection_of (suc place) seen) (joined batches place)

-- Whatever the disk has of a log when the power goes, it has all that stood in acknowledged batches: between two batches, and
-- within the write of the next one, however that is answered.
pub record StayOnDisk : Type 0 where
  pub between : (lists : Lists) (kept : LoggedState) (left : List ℕ) → Follows lists (nothing_due kept.log kept.seen)
      → kept.log.has_failed ≡ false → MayLeave kept.log.told kept.log.told left → IsKeptIn lists kept.seen left
  pub within : (lists : Lists) (old new : LoggedState) (before after : DatabaseState) (answer : Result (Unit {0}) Refusal)
      (left : List ℕ) → Follows lists (nothing_due old.log old.seen) → old.log.has_failed ≡ false
      → HandsBatch lists old new before after answer → MayLeave old.log.told new.log.told left
      → IsKeptIn lists old.seen left
