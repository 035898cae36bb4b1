-- The partitions of all warehouses of a load as one value.
use Rattle.std.specs.Prelude.{◌≡◌, ◌⊎◌, ◌≤◌, ℕ, ◌-◌, true, false, List, length, nat_lt, None, Some, Result, Ok, Err, IsOkAnd, MatchOption}
use Rattle.hy_rows.specs.Tables.{Lists}
use Rattle.hy_rows.specs.Ranges.{IsBetween}
use Rattle.hy_commands.specs.Commands.{home_of, warehouses_of}
use Rattle.hy_crossing.specs.of_partition.Jobs.{DoneState, JobState, Log, RunningJob, refused_answer}
use Rattle.hy_crossing.specs.of_partition.Jobs as jobs
use Rattle.hy_schema.specs.declared.refusal.Refusal.{Refusal}
use Rattle.hy_schema.specs.declared.refusal.Refusal.TheVariants as refusals
use Rattle.hy_frames.specs.FrameTable.{IsLimitFor}
use Rattle.hy_space.specs.Space.{SameForChildren}
use Rattle.hy_crossing.specs.of_partition.declared.job.Progress.{Progress}
use Rattle.hy_crossing.specs.of_partition.Partition.{PartitionState}
use Rattle.hy_crossing.specs.of_partition.Steps.{Accepts, IsUnbegun, KeepsJob, Refuses, StepsTo, begin_refusal, with_job}
use Rattle.hy_crossing.specs.Crossings.{ArePartitions, Crosses, HaveNoPart}
use Rattle.hy_crossing.specs.Lists.{ChangesAt, Pairwise}
use Rattle.hy_forks.specs.Drains.{TellsHere}
use Rattle.hy_forks.specs.Histories.{IsOneHistory}

-- there is a warehouse at least, the partitions are those of the load in order, and no part of a command over several
-- warehouses is done in any
pub record AreWhole (lists : Lists) (parts : List PartitionState) : Type 0 where
  pub some : 1 ≤ length parts
  pub partitions : ArePartitions lists parts
  pub whole : HaveNoPart parts

-- a command over several warehouses was accepted or refused, and then each partition was told the serial list
pub record CrossesAndTells (lists : Lists) (job : JobState) (before after : Log) (old new : List PartitionState)
    (answer : DoneState) : Type 0 where
  pub crossed : List PartitionState
  pub crosses : Crosses lists job before after old crossed answer
  pub tells : Pairwise (TellsHere after) 1 crossed new

-- ---- what is asked of one partition

-- a job was begun, or refused, and then it comes back and nothing changes
pub data TriesToBegin (job : JobState) (result : Result (Unit {0}) (JobState × Refusal)) (old new : PartitionState) : Type 0 where
  begun : result ≡ Ok tt → begin_refusal old job.command ≡ None → new ≡ with_job old job
      → TriesToBegin job result old new
  unbegun : (why : Refusal) → result ≡ Err (job, why) → IsUnbegun old job.command why → new ≡ old
      → TriesToBegin job result old new

-- one slice of what runs was done, with the serial list before and after; E10 where nothing runs
abbrev pub StepsOnce : Result Progress Refusal → Log → Log → PartitionState → PartitionState → Type 0
StepsOnce result before after old new = MatchOption old.running
    ((result ≡ Err refusals.NotRunning) × (new ≡ old) × (after ≡ before))
    (λ job. IsOkAnd result (StepsTo job (Some before) (Some after) old new))

-- the limit on frames was set, and nothing else changed; or it is no limit for the frames in use
pub data TriesToLimit (max : ℕ) (result : Result (Unit {0}) Refusal) (old new : PartitionState) : Type 0 where
  limited : result ≡ Ok tt → IsLimitFor old.space.frames max → new.space.frames.max ≡ max → KeepsJob old new
      → new.seen ≡ old.seen → new.snapshots ≡ old.snapshots → SameForChildren old.space new.space
      → TriesToLimit max result old new
  unlimited : result ≡ Err refusals.OutOfRange → (IsLimitFor old.space.frames max → ⊥) → new ≡ old
      → TriesToLimit max result old new

-- ---- whole commands

-- a job that runs came to its end, with the serial list before and after, and its answer was taken
pub record EndsWith (job : RunningJob) (before after : Log) (old new : PartitionState) (answer : DoneState) : Type 0 where
  pub ended : PartitionState
  pub how : Accepts job (Some before) (Some after) old ended ⊎ Refuses job (Some before) (Some after) old ended
  pub answered : ended.finished ≡ Some answer
  pub taken : new ≡ record ended { finished = None }

-- a job was run as a whole in a partition: it isn't begun, which is the answer, and nothing changes; or it came to its end
pub data RunsHere (job : JobState) (before after : Log) (old new : PartitionState) (answer : DoneState) : Type 0 where
  refused_at_begin : (why : Refusal) → IsUnbegun old job.command why → answer ≡ refused_answer job.pass why → new ≡ old
      → after ≡ before → RunsHere job before after old new answer
  came_to_its_end : begin_refusal old job.command ≡ None → EndsWith (jobs.begun job) before after (with_job old job) new answer
      → RunsHere job before after old new answer

-- a command was run as a whole: its home isn't there, and then nothing is run, and nothing that runs is ended; it names
-- several warehouses, and was run over all of them; or it names its home alone, and was run there
pub data RunsWhole (partitions : ℕ) (lists : Lists) (job : JobState) (before after : Log) (old new : List PartitionState)
    (answer : DoneState) : Type 0 where
  homeless : (IsBetween 1 (length old) (home_of job.command) → ⊥)
      → answer ≡ refused_answer job.pass refusals.NoSuchWarehouse → new ≡ old → after ≡ before
      → RunsWhole partitions lists job before after old new answer
  over_several : IsBetween 1 (length old) (home_of job.command) → nat_lt 1 (length (warehouses_of job.command)) ≡ true
      → CrossesAndTells lists job before after old new answer → IsOneHistory partitions after new
      → RunsWhole partitions lists job before after old new answer
  at_home : IsBetween 1 (length old) (home_of job.command) → nat_lt 1 (length (warehouses_of job.command)) ≡ false
      → ChangesAt (λ p q. RunsHere job before after p q answer) (home_of job.command - 1) old new
      → RunsWhole partitions lists job before after old new answer
