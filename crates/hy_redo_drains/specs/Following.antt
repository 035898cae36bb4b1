-- A log that is handed what a database commits.
use Rattle.std.specs.Prelude.{◌≡◌, ◌⊎◌, ℕ, suc, ◌+◌, ◌<◌, ◌≤◌, false, List, [], ◌∷◌, ◌++◌, length, take, Option, Some, None, MatchOption, Result, Ok, Err}
use mathlib.Core.List.{IsPrefix}
use Rattle.hy_rows.specs.Tables.{Lists}
use Rattle.hy_schema.specs.declared.refusal.Refusal.{Refusal}
use Rattle.hy_schema.specs.declared.refusal.Refusal.TheVariants as refusals
use Rattle.hy_batches.specs.Batches.{Batch}
use Rattle.hy_batches.specs.Logs.{IsLog, Reads}
use Rattle.hy_redo.specs.Calls.{Answers, AreCalls, Call, LogState, acknowledged, handed, log_behind}
use Rattle.hy_redo.specs.Disk.{BeginsBehind, MayLeave}
use Rattle.hy_forks.specs.of_partition.Jobs.{Log}
use Rattle.hy_forks.specs.of_partition.Partition.{projection_of}
use Rattle.hy_sound.specs.Sound.{IsSoundLog}
use Rattle.hy_forks.specs.Logged.{SaySame, joined}

-- the log, the beginning of the serial list that was drained for it, and the batch that is due
pub record DrainState : Type 0 where
  pub log : LogState
  pub seen : Log
  pub due : Option Batch

-- what is due is written, where something is, as the log answers it
pub record WritesDue (old new : DrainState) (answer : Result (Unit {0}) Refusal) : Type 0 where
  pub none : new.due ≡ None
  pub seen : new.seen ≡ old.seen
  pub written : MatchOption old.due ((answer ≡ Ok tt) × (new.log ≡ old.log))
      (λ batch. Answers old.log new.log batch answer)

-- ---- what a log has

-- the batches that a log was handed, behind those that were there when its life began: as its calls made it
pub record WasHanded (batches : List Batch) (log : LogState) : Type 0 where
  pub front : List Batch
  pub first : LogState
  pub calls : List Call
  pub begins : BeginsBehind front first
  pub are : AreCalls first calls
  pub log_is : log ≡ log_behind first calls
  pub batches_are : batches ≡ front ++ handed calls

-- the batch that is due, where one is
abbrev pub due_of : Option Batch → List Batch
due_of None = []
due_of (Some batch) = batch ∷ []

-- a log follows the database of a load: all that it was handed, and behind that what is due, say the same as the serial list
-- up to its place
pub record Follows (lists : Lists) (drains : DrainState) : Type 0 where
  pub batches : List Batch
  pub was_handed : WasHanded batches drains.log
  pub same : SaySame lists (batches ++ due_of drains.due) drains.seen

-- ---- what a stop leaves of it

-- what it was handed, and behind that what is due
abbrev pub all_of : (lists : Lists) (drains : DrainState) → Follows lists drains → List Batch
all_of lists drains follows = follows.batches ++ due_of drains.due

-- how many batches were there when its life began or were acknowledged since then
abbrev pub least_of : (lists : Lists) (drains : DrainState) → Follows lists drains → ℕ
least_of lists drains follows = length follows.was_handed.front + acknowledged follows.was_handed.calls

-- The disk has the log of the first of all batches: so many, and none missing that was there or was acknowledged. Nothing else
-- is read from it but a want of memory. They are sound beside the load, each warehouse has in them a beginning of what the
-- serial list has of it, and all of that where no call failed and nothing is due.
pub record LeavesBeginning (lists : Lists) (drains : DrainState) (follows : Follows lists drains) (left : List ℕ)
    : Type 0 where
  pub count : ℕ
  pub rest : List ℕ
  pub log : IsLog left (take count (all_of lists drains follows)) rest
  pub reads : (read : Result (List Batch) Refusal) → Reads left read
      → (read ≡ Ok (take count (all_of lists drains follows))) ⊎ (read ≡ Err refusals.NoMemory)
  pub acknowledged : least_of lists drains follows ≤ count
  pub sound : IsSoundLog lists (take count (all_of lists drains follows))
  pub begins : (place : ℕ) → place < length lists.tables.warehouses
      → IsPrefix (joined (take count (all_of lists drains follows)) place) (projection_of (suc place) drains.seen)
  pub whole : drains.log.has_failed ≡ false → drains.due ≡ None → (place : ℕ)
      → place < length lists.tables.warehouses
      → joined (take count (all_of lists drains follows)) place ≡ projection_of (suc place) drains.seen

-- A stop at a moment at which nothing is written, or within the write of what is due, or behind it before the next drain:
-- whatever the disk then has of a log that follows a database, it has a beginning of it.
abbrev pub LeaveBeginnings : Type 0
LeaveBeginnings =
    (lists : Lists) (old new : DrainState) (answer : Result (Unit {0}) Refusal) (left : List ℕ)
    (follows : Follows lists old) → WritesDue old new answer → MayLeave old.log.told new.log.told left
    → LeavesBeginning lists old follows left
