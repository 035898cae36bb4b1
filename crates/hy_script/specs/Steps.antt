-- What an event does to one warehouse, or to all of them.
use Rattle.std.specs.Prelude.{◌≡◌, ◌⊎◌, ℕ, Bool, nat_lt, List, ◌+◌, ◌-◌, [], ◌∷◌, ◌++◌, MatchResult, Option, None, Result, Some, length, map, remove, slice_get}
use Rattle.hy_worlds.specs.Origins.{Origin}
use Rattle.hy_schema.specs.declared.refusal.Refusal.{Refusal}
use Rattle.hy_schema.specs.declared.refusal.Refusal.TheVariants as refusals
use Rattle.hy_commands.specs.declared.command.Command.{Command}
use Rattle.hy_commands.specs.declared.edition.Edition.TheVariants as editions
use Rattle.hy_commands.specs.declared.reply.Reply.{Reply}
use Rattle.hy_commands.specs.declared.reply.Reply.TheVariants as replies
use Rattle.hy_commands.specs.Commands.{warehouses_of}
use Rattle.hy_frames.specs.FrameTable.{FrameTable, IsLimitFor, free_of}
use Rattle.hy_rows.specs.Tables.{Lists}
use Rattle.hy_space.specs.Space.{SameForChildren}
use Rattle.hy_session.specs.of_partition.Jobs.{DoneState, JobState, Log, RunningJob, begun}
use Rattle.hy_session.specs.of_partition.Partition.{PartitionState}
use Rattle.hy_session.specs.of_partition.Snapshots.{SnapshotState}
use Rattle.hy_session.specs.of_partition.Steps.{Accepts, IsUnbegun, KeepsJob, Refuses, begin_refusal, with_job}
use Rattle.hy_session.specs.of_crossing.Crossings.{database_behind}
use Rattle.hy_session.specs.of_crossing.Lists.{Pairwise}
use Rattle.hy_session.specs.of_forks.Forks.{ClosesHere, ForksAll, ForksAllFrom, SpellsDatabase, shown}
use Rattle.hy_session.specs.of_forks.Partitions.{AreWhole, CrossesAndTells}
use Rattle.hy_script.specs.Databases.{DatabaseState, OpenSnapshot}

-- ---- commands of one warehouse

-- a job that does the command is begun, of the second edition
pub record IsBegun (command : Command) (old new : PartitionState) : Type 0 where
  pub accepted : begin_refusal old command ≡ None
  pub job : JobState
  pub command_is : job.command ≡ command
  pub edition : job.edition ≡ editions.Second
  pub after : new ≡ with_job old job

-- or it is refused, and then nothing changes
abbrev pub IsBegunUnless : Command → Result (Unit {0}) Refusal → PartitionState → PartitionState → Type 0
IsBegunUnless command result old new =
    MatchResult result (λ done. IsBegun command old new) (λ why. IsUnbegun old command why × (new ≡ old))

-- a job that runs comes to its end, with the serial list before and after
abbrev pub Ends : RunningJob → Log → Log → PartitionState → PartitionState → Type 0
Ends job before after old ended =
    Accepts job (Some before) (Some after) old ended ⊎ Refuses job (Some before) (Some after) old ended

-- the reply that waits
abbrev pub reply_waiting : Option DoneState → Option Reply
reply_waiting None = None
reply_waiting (Some done) = Some done.reply

-- a whole command was begun, of the second edition, came to its end, and its reply was taken
pub record IsDone (command : Command) (before after : Log) (old new : PartitionState) (reply : Reply) : Type 0 where
  pub accepted : begin_refusal old command ≡ None
  pub job : JobState
  pub command_is : job.command ≡ command
  pub edition : job.edition ≡ editions.Second
  pub ended : PartitionState
  pub ends : Ends (begun job) before after (with_job old job) ended
  pub replies : reply_waiting ended.finished ≡ Some reply
  pub leaves : new ≡ record ended { finished = None }

-- a whole command was run, or it wasn't begun and that is the reply
abbrev pub Runs : Command → Log → Log → PartitionState → PartitionState → Reply → Type 0
Runs command before after old new reply =
    IsDone command before after old new reply
    ⊎ ((why : Refusal) × IsUnbegun old command why × (reply ≡ replies.Refused why) × (new ≡ old) × (after ≡ before))

-- ---- commands over several warehouses

-- whether a command names several warehouses
abbrev pub is_crossing : Command → Bool
is_crossing command = nat_lt 1 (length (warehouses_of command))

-- a whole command was run over several warehouses of the load that the partitions are of, by the second edition, for some
-- client
pub record RunsAcross (command : Command) (old new : DatabaseState) (reply : Reply) : Type 0 where
  pub lists : Lists
  pub load : AreWhole lists old.parts
  pub job : JobState
  pub command_is : job.command ≡ command
  pub edition : job.edition ≡ editions.Second
  pub answer : DoneState
  pub crosses : CrossesAndTells lists job old.log new.log old.parts new.parts answer
  pub replies : answer.reply ≡ reply
  pub snapshots : new.snapshots ≡ old.snapshots

-- ---- snapshots

-- each partition was forked, for a client of its kit who had seen a beginning of the serial list. The snapshot of all
-- warehouses, which spells the database of the load behind that list, is open under a name, behind the others
pub record Opens (page_size : ℕ) (name : List ℕ) (old new : DatabaseState) : Type 0 where
  pub kit : Origin
  pub known : Log
  pub parts : List SnapshotState
  pub forks : ForksAll page_size kit old.log known old.parts new.parts parts
  pub lists : Lists
  pub load : AreWhole lists old.parts
  pub spells : SpellsDatabase page_size (database_behind lists old.log) parts
  pub snapshots : new.snapshots ≡ old.snapshots ++ record { name = name; parts = parts } ∷ []

-- each partition has a snapshot more, of what that of the snapshot at a place sees, which stays open. The snapshot of all
-- warehouses shows what that one shows, and is open under a name, behind the others
pub record OpensFrom (place : ℕ) (name : List ℕ) (old new : DatabaseState) : Type 0 where
  pub kit : Origin
  pub from : OpenSnapshot
  pub there : slice_get old.snapshots place ≡ Some from
  pub parts : List SnapshotState
  pub forks : ForksAllFrom kit from.parts old.parts new.parts parts
  pub shows : map shown parts ≡ map shown from.parts
  pub snapshots : new.snapshots ≡ old.snapshots ++ record { name = name; parts = parts } ∷ []

-- the snapshot at a place was closed, in each partition
pub record ClosesAt (place : ℕ) (old new : DatabaseState) : Type 0 where
  pub snapshot : OpenSnapshot
  pub there : slice_get old.snapshots place ≡ Some snapshot
  pub closes : Pairwise (ClosesHere snapshot.parts) 1 old.parts new.parts
  pub snapshots : new.snapshots ≡ remove old.snapshots place
  pub log : new.log ≡ old.log

-- ---- limits

-- the limit that leaves so many frames free
abbrev pub limit_for : FrameTable → ℕ → ℕ
limit_for frames more = frames.max - free_of frames + more

-- the limit was set, and nothing else changed
pub record IsLimited (more : ℕ) (old new : PartitionState) : Type 0 where
  pub allowed : IsLimitFor old.space.frames (limit_for old.space.frames more)
  pub max : new.space.frames.max ≡ limit_for old.space.frames more
  pub job : KeepsJob old new
  pub seen : new.seen ≡ old.seen
  pub open_snapshots : new.snapshots ≡ old.snapshots
  pub children : SameForChildren old.space new.space

-- or it is no limit for the frames in use, and then nothing changes
abbrev pub IsLimitedUnless : ℕ → Result (Unit {0}) Refusal → PartitionState → PartitionState → Type 0
IsLimitedUnless more result old new =
    MatchResult result (λ done. IsLimited more old new) (λ why. (why ≡ refusals.OutOfRange)
    × (¬ IsLimitFor old.space.frames (limit_for old.space.frames more)) × (new ≡ old))
