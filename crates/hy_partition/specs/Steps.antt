-- What the calls on a partition do to it.
use Rattle.std.specs.Prelude.{◌≡◌, ◌≢◌, ℕ, ◌+◌, ◌<◌, ◌≤◌, ◌&&◌, ◌||◌, ◌==◌, ◌⊎◌, not, if◌then◌else◌, Bool, true, false, IsSome, is_some, [], ◌++◌, length, Option, None, Some}
use Rattle.std.specs.Option.{option_or}
use mathlib.Core.List.{IsPrefix}
use Rattle.hy_worlds.specs.Origins.{Origin, desk_of}
use Rattle.hy_ledger.specs.Books.{new_book}
use Rattle.hy_rows.specs.Spelling.{Spells}
use Rattle.hy_rows.specs.Tables.{Lists}
use Rattle.hy_schema.specs.declared.refusal.Refusal.{Refusal}
use Rattle.hy_schema.specs.declared.refusal.Refusal.TheVariants as refusals
use Rattle.hy_commands.specs.declared.command.Command.{Command}
use Rattle.hy_commands.specs.Commands.{is_reader, kept_of, slice_count}
use Rattle.hy_commands.specs.Transactions.{begin_refusal_of}
use Rattle.hy_frames.specs.FrameTable.{count_of, free_of}
use Rattle.hy_slices.specs.Slices.{has_item_at, has_items_before}
use Rattle.hy_space.specs.Space.{AddsUsers, CountsAreExact, SameForChildren, SameForOwner, SameForOthers, IsLeastFree, DropsUsers, SpaceState, owner_bytes, child_bytes, child_table, child_times}
use Rattle.hy_undo.specs.UndoLog.{UndoLog, undone, empty_log}
use Rattle.hy_undo.specs.PrivatePages.{GivesUpPages}
use Rattle.hy_undo.specs.Touched.{touched}
use Rattle.hy_tpcc.specs.Shortages.{FindsNoFrame}
use Rattle.hy_partition.specs.declared.job.Progress.{Progress}
use Rattle.hy_partition.specs.declared.job.Progress.TheVariants as progress
use Rattle.hy_partition.specs.Partition.{PartitionState, commits_of, outcome_now, projection_of, refusal_now, rows_now, terms_of}
use Rattle.hy_partition.specs.Jobs.{DoneState, JobState, Log, RunningJob, accepted_answer, begun, entered_by, is_last, refused_answer, with_slice_done}
use Rattle.hy_partition.specs.Accounts.{with_command}
use Rattle.hy_partition.specs.Snapshots.{SnapshotState}

-- a job runs or the part of a command over several warehouses is done, or a reply wasn't taken
abbrev pub is_busy : PartitionState → Bool
is_busy p = is_some p.running || is_some p.part || is_some p.finished

-- no commit more may be kept
abbrev pub is_full : PartitionState → Bool
is_full p = length p.kept == p.max_kept

-- why a command isn't begun, the first that holds of these: another job is there; the warehouse doesn't begin the
-- command; the kept list is full, where the command doesn't only read
abbrev pub begin_refusal : PartitionState → Command → Option Refusal
begin_refusal p command =
    if is_busy p then Some refusals.Busy
    else option_or (begin_refusal_of p.warehouse command (rows_now p))
    (if not (is_reader command) && is_full p then Some refusals.HistoryFull else None)

-- why a command isn't begun: the first that holds of these, or there is no memory for its commit
abbrev pub IsUnbegun : PartitionState → Command → Refusal → Type 0
IsUnbegun p command why = (begin_refusal p command ≡ Some why)
    ⊎ ((begin_refusal p command ≡ None) × (is_reader command ≡ false) × (why ≡ refusals.NoMemory))

-- the partition with a job more, of which no slice is done
abbrev pub with_job : PartitionState → JobState → PartitionState
with_job p job = record p { running = Some (begun job) }

-- what no job changes: the load, the warehouse, the limits, the part of another command, and every snapshot with its bytes
pub record KeepsRest (old new : PartitionState) : Type 0 where
  pub terms : terms_of new ≡ terms_of old
  pub part : new.part ≡ old.part
  pub snapshots : new.snapshots ≡ old.snapshots
  pub children : SameForChildren old.space new.space
  pub max_frames : new.space.frames.max ≡ old.space.frames.max

-- nothing was kept: the list of commits stays, what it was told of the serial list, and the book
pub record KeepsNothing (old new : PartitionState) : Type 0 where
  pub seen : new.seen ≡ old.seen
  pub kept : new.kept ≡ old.kept
  pub book : new.book ≡ old.book

-- a slice was done, and more are to come: what is kept and what undoing gives stay. No slice so far asked for an item
-- that isn't there
pub record Continues (job : RunningJob) (old new : PartitionState) : Type 0 where
  pub items : has_items_before old.load.items job.command (job.slices + 1) ≡ true
  pub running : new.running ≡ Some (with_slice_done job)
  pub finished : new.finished ≡ old.finished
  pub nothing : KeepsNothing old new
  pub bytes : undone (owner_bytes new.space) new.undo ≡ undone (owner_bytes old.space) old.undo
  pub rest : KeepsRest old new

-- the job ended with an answer, which waits to be taken
pub record Ends (old new : PartitionState) (answer : DoneState) : Type 0 where
  pub running : new.running ≡ None
  pub undo : new.undo ≡ empty_log new.space
  pub finished : new.finished ≡ Some answer
  pub rest : KeepsRest old new

-- the command was accepted behind a serial list: it is kept, once and behind all others, and enters the serial list,
-- where it doesn't only read; the partition and the client are then told all of that list, which began with what each
-- had seen. The reply is the warehouse's to the command, and the book has it
pub record AcceptsBehind (log : Log) (job : RunningJob) (old new : PartitionState) : Type 0 where
  pub accepted : refusal_now old job.command ≡ None
  pub told : IsPrefix old.seen log
  pub client_told : IsPrefix job.pass.seen log
  pub seen : new.seen ≡ log ++ entered_by job.edition job.command job.pass
  pub kept : new.kept ≡ old.kept ++ kept_of job.edition job.command
  pub book : new.book ≡ with_command old.book job.command
  pub ends : Ends old new (accepted_answer job old.warehouse (outcome_now old job.edition job.command).reply
      (log ++ entered_by job.edition job.command job.pass))

-- the same, with the serial list before and after: it grew by just what was kept
pub record Accepts (job : RunningJob) (before after : Option Log) (old new : PartitionState) : Type 0 where
  pub log : Log
  pub before_is : before ≡ Some log
  pub after_is : after ≡ Some (log ++ entered_by job.edition job.command job.pass)
  pub does : AcceptsBehind log job old new

-- the slice behind so many of a command lacked a frame: its writes led to pages on which none was free, and from which
-- undoing gives what it gave; they were given up for those that are there now
pub record LacksFrame (command : Command) (done : ℕ) (old new : PartitionState) : Type 0 where
  pub space : SpaceState
  pub undo : UndoLog
  pub found : FindsNoFrame command done space
  pub counts : CountsAreExact space
  pub bytes : undone (owner_bytes space) undo ≡ undone (owner_bytes old.space) old.undo
  pub children : SameForChildren old.space space
  pub max_frames : space.frames.max ≡ old.space.frames.max
  pub gives_up : GivesUpPages space new.space

-- the command was refused at the slice behind so many: what is kept stays, and the pages are as they were when the job
-- began. The items of all slices before are there. The reply is that the item of this slice isn't there, as the
-- warehouse refuses the command too; where it is there, that a frame lacked, or memory. The client's pass is as it was
pub record RefusesAt (job : RunningJob) (done : ℕ) (old new : PartitionState) : Type 0 where
  pub next : done < slice_count job.command
  pub items : has_items_before old.load.items job.command done ≡ true
  pub nothing : KeepsNothing old new
  pub bytes : owner_bytes new.space ≡ undone (owner_bytes old.space) old.undo
  pub reason :
      ((has_item_at old.load.items job.command done ≡ false) × (refusal_now old job.command ≡ Some refusals.NoSuchItem)
      × Ends old new (refused_answer job.pass refusals.NoSuchItem))
      ⊎ ((has_item_at old.load.items job.command done ≡ true) × LacksFrame job.command done old new
      × Ends old new (refused_answer job.pass refusals.NoFrame))
      ⊎ ((has_item_at old.load.items job.command done ≡ true) × Ends old new (refused_answer job.pass refusals.NoMemory))

-- the job was refused at its next slice or at a later one, and the serial list stays
pub record Refuses (job : RunningJob) (before after : Option Log) (old new : PartitionState) : Type 0 where
  pub log : after ≡ before
  pub done : ℕ
  pub reached : job.slices ≤ done
  pub refused : RefusesAt job done old new

-- what one step of a job does: the last slice finishes it, and so does a refusal
abbrev pub StepsTo : RunningJob → Option Log → Option Log → PartitionState → PartitionState → Progress → Type 0
StepsTo job before after old new progress.More = (is_last job ≡ false) × (after ≡ before) × Continues job old new
StepsTo job before after old new progress.Finished =
    ((is_last job ≡ true) × Accepts job before after old new) ⊎ ((after ≡ before) × RefusesAt job job.slices old new)

-- what no snapshot changes: the warehouse with its commits, accounts and job
pub record KeepsJob (old new : PartitionState) : Type 0 where
  pub terms : terms_of new ≡ terms_of old
  pub kept : new.kept ≡ old.kept
  pub book : new.book ≡ old.book
  pub running : new.running ≡ old.running
  pub part : new.part ≡ old.part
  pub undo : new.undo ≡ old.undo
  pub finished : new.finished ≡ old.finished
  pub owner : SameForOwner old.space new.space

-- the snapshots but one stay, with their bytes and numbers of commits
pub record KeepsOthers (old new : PartitionState) (child : ℕ) : Type 0 where
  pub bytes : SameForOthers old.space new.space child
  pub commits : (other : ℕ) → other ≢ child → commits_of new other ≡ commits_of old other

-- a snapshot of all that is kept was taken, under the least free number, with the job that runs, or the part that is
-- done, undone in it: it took a frame for each page that was touched. The partition and the client were told the whole
-- serial list, which began with what each had seen: what is kept is all that this list has of the warehouse
pub record Forks (n : ℕ) (kit : Origin) (log known : Log) (old new : PartitionState) (snapshot : SnapshotState) : Type 0 where
  pub load : snapshot.load ≡ old.load
  pub warehouse : snapshot.warehouse ≡ old.warehouse
  pub name : snapshot.name ≡ kit.name
  pub desk : snapshot.desk ≡ desk_of kit old.warehouse
  pub child : IsLeastFree old.space snapshot.child
  pub fresh : commits_of old snapshot.child ≡ None
  pub commits : snapshot.commits ≡ length old.kept
  pub kept : snapshot.kept ≡ old.kept
  pub bytes : snapshot.bytes ≡ undone (owner_bytes old.space) old.undo
  pub spells : Spells n snapshot.bytes (rows_now old)
  pub open_bytes : child_bytes new.space snapshot.child ≡ Some snapshot.bytes
  pub open_commits : commits_of new snapshot.child ≡ Some snapshot.commits
  pub free : free_of new.space.frames + touched old.undo ≡ free_of old.space.frames
  pub max_frames : new.space.frames.max ≡ old.space.frames.max
  pub told : IsPrefix old.seen log
  pub client_told : IsPrefix known log
  pub seen : new.seen ≡ log
  pub all : old.kept ≡ projection_of old.warehouse log
  pub no_older : length (projection_of old.warehouse known) ≤ snapshot.commits
  pub job : KeepsJob old new
  pub others : KeepsOthers old new snapshot.child

-- a snapshot says that it is one of a partition, by the warehouse and the name of its kit
abbrev pub is_from : SnapshotState → ℕ → Origin → Bool
is_from snapshot warehouse kit = (snapshot.warehouse == warehouse) && (snapshot.name == kit.name)

-- a snapshot of what an open one sees was taken, under the least free number and with a ticket of its own: its child has
-- the table of that one, and each frame of it a user more, so that no frame is taken. Nobody was told of the serial list
pub record ForksFrom (kit : Origin) (from : SnapshotState) (old new : PartitionState) (snapshot : SnapshotState)
    : Type 0 where
  pub mine : is_from from old.warehouse kit ≡ true
  pub load : snapshot.load ≡ from.load
  pub warehouse : snapshot.warehouse ≡ old.warehouse
  pub name : snapshot.name ≡ kit.name
  pub desk : snapshot.desk ≡ desk_of kit old.warehouse
  pub child : IsLeastFree old.space snapshot.child
  pub fresh : commits_of old snapshot.child ≡ None
  pub commits : snapshot.commits ≡ from.commits
  pub kept : snapshot.kept ≡ from.kept
  pub bytes : snapshot.bytes ≡ from.bytes
  pub was_open : IsSome (commits_of old from.child)
  pub open_table : child_table new.space snapshot.child ≡ child_table old.space from.child
  pub open_bytes : child_bytes new.space snapshot.child ≡ child_bytes old.space from.child
  pub open_commits : commits_of new snapshot.child ≡ commits_of old from.child
  pub users : AddsUsers old.space.frames new.space.frames (λ f. child_times f (child_table old.space from.child))
  pub seen : new.seen ≡ old.seen
  pub job : KeepsJob old new
  pub others : KeepsOthers old new snapshot.child

-- a fork was refused: the tables, what they see and the counts of frames stay, and all else too
pub record StaysUnforked (old new : PartitionState) : Type 0 where
  pub job : KeepsJob old new
  pub seen : new.seen ≡ old.seen
  pub snapshots : (child : ℕ) → commits_of new child ≡ commits_of old child
  pub tables : (child : ℕ) → child_table new.space child ≡ child_table old.space child
  pub bytes : (child : ℕ) → child_bytes new.space child ≡ child_bytes old.space child
  pub counts : (f : ℕ) → count_of new.space.frames f ≡ count_of old.space.frames f
  pub max_frames : new.space.frames.max ≡ old.space.frames.max

-- a snapshot that was open was closed, and no other; each of its frames has a user less, so that those which only it
-- had are free again
pub record Closes (old new : PartitionState) (child : ℕ) : Type 0 where
  pub was_open : (count : ℕ) × (commits_of old child ≡ Some count)
  pub bytes : child_bytes new.space child ≡ None
  pub commits : commits_of new child ≡ None
  pub users : DropsUsers old.space.frames new.space.frames (λ f. child_times f (child_table old.space child))
  pub seen : new.seen ≡ old.seen
  pub max_frames : new.space.frames.max ≡ old.space.frames.max
  pub job : KeepsJob old new
  pub others : KeepsOthers old new child

-- a partition with the rows of one warehouse of a load, with nothing kept and no snapshot
pub record Begins (lists : Lists) (number frames commits : ℕ) (p : PartitionState) : Type 0 where
  pub terms : terms_of p ≡ record { load = lists; warehouse = number; max_kept = commits; replayed = p.replayed }
  pub seen : p.seen ≡ []
  pub kept : p.kept ≡ []
  pub book : p.book ≡ new_book number
  pub running : p.running ≡ None
  pub part : p.part ≡ None
  pub undo : p.undo ≡ empty_log p.space
  pub finished : p.finished ≡ None
  pub max_frames : p.space.frames.max ≡ frames
  pub snapshots : (child : ℕ) → commits_of p child ≡ None
