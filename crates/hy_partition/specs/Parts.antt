-- A command over several warehouses in one partition: its part is done on the pages, and is then kept behind all
-- others, or undone. Between the two nothing else begins here, and a snapshot has it undone.
use Rattle.std.specs.Prelude.{◌≡◌, ◌⊎◌, ℕ, ◌==◌, if◌then◌else◌, [], ◌∷◌, ◌++◌, Option, None, Some}
use Rattle.hy_rows.specs.Tables.{Tables}
use Rattle.hy_ledger.specs.Books.{BookState}
use Rattle.hy_ledger.specs.declared.view.ShareState.{ShareState}
use Rattle.hy_schema.specs.declared.refusal.Refusal.{Refusal}
use Rattle.hy_schema.specs.declared.refusal.Refusal.TheVariants as refusals
use Rattle.hy_commands.specs.declared.command.Command.{Command}
use Rattle.hy_commands.specs.declared.command.Commit.TheVariants as commits
use Rattle.hy_commands.specs.declared.edition.Edition.{Edition}
use Rattle.hy_commands.specs.declared.reply.Reply.{Reply}
use Rattle.hy_commands.specs.Commands.{home_of}
use Rattle.hy_commands.specs.Parts.{part}
use Rattle.hy_frames.specs.FrameTable.{free_of}
use Rattle.hy_space.specs.Space.{CountsAreExact, SameForChildren, SpaceState, owner_bytes}
use Rattle.hy_undo.specs.UndoLog.{UndoLog, undone, empty_log}
use Rattle.hy_undo.specs.PrivatePages.{GivesUpPages}
pub use Rattle.hy_tpcc.specs.Parts.{FindsPayer, HasPart, reply_of_part}
use Rattle.hy_partition.specs.Accounts.{with_command}
use Rattle.hy_partition.specs.Jobs.{Log, share_of}
use Rattle.hy_partition.specs.Partition.{PartitionState, layout_of, rows_now, terms_of}
use Rattle.hy_partition.specs.Steps.{KeepsNothing}

-- the rows after the part of a command by an edition, behind all that is kept
abbrev pub rows_with_part : PartitionState → Edition → Command → Tables
rows_with_part p edition command = part p.load.items p.warehouse edition command (rows_now p)

-- the reply of the part of a command by an edition: the warehouse whose customer the command names has one
abbrev pub reply_now : PartitionState → Edition → Command → Option Reply
reply_now p edition command = reply_of_part (layout_of p) edition command (rows_now p)

-- what no part changes: the load, the warehouse, the limits, the job that runs, the answer that wasn't taken, and
-- every snapshot with its bytes
pub record KeepsBeside (old new : PartitionState) : Type 0 where
  pub terms : terms_of new ≡ terms_of old
  pub running : new.running ≡ old.running
  pub finished : new.finished ≡ old.finished
  pub snapshots : new.snapshots ≡ old.snapshots
  pub children : SameForChildren old.space new.space
  pub max_frames : new.space.frames.max ≡ old.space.frames.max

-- the part of a command was done, by an edition, where nothing ran: undoing gives what the pages had. The warehouse whose
-- customer the command names has the reply to it
pub record DoesPart (edition : Edition) (command : Command) (old new : PartitionState) (reply : Option Reply) : Type 0 where
  pub part : new.part ≡ Some (record { edition = edition; command = command })
  pub bytes : undone (owner_bytes new.space) new.undo ≡ owner_bytes old.space
  pub reply_is : reply ≡ reply_of_part (layout_of old) edition command (rows_now old)
  pub nothing : KeepsNothing old new
  pub beside : KeepsBeside old new

-- no part is done, and the pages are as they were before it
pub record HasNoPart (old new : PartitionState) : Type 0 where
  pub part : new.part ≡ None
  pub undo : new.undo ≡ empty_log new.space
  pub bytes : owner_bytes new.space ≡ undone (owner_bytes old.space) old.undo
  pub nothing : KeepsNothing old new
  pub beside : KeepsBeside old new

-- a part lacked a frame: its writes led to pages on which none was free, and from which undoing gives those of before;
-- they were given up for those that are there now
pub record PartLacksFrame (old new : SpaceState) : Type 0 where
  pub space : SpaceState
  pub undo : UndoLog
  pub full : free_of space.frames ≡ 0
  pub counts : CountsAreExact space
  pub bytes : undone (owner_bytes space) undo ≡ owner_bytes old
  pub children : SameForChildren old space
  pub max_frames : space.frames.max ≡ old.frames.max
  pub gives_up : GivesUpPages space new

-- why a part isn't done: a frame lacked, or memory was refused
abbrev pub IsWhyUndone : SpaceState → SpaceState → Refusal → Type 0
IsWhyUndone old new why = ((why ≡ refusals.NoFrame) × PartLacksFrame old new) ⊎ (why ≡ refusals.NoMemory)

-- the book after a command over several warehouses, which its home alone enters, and the share
abbrev pub with_part_entered : ℕ → BookState → Command → BookState
with_part_entered warehouse book command = if home_of command == warehouse then with_command book command else book

abbrev pub share_of_part : ℕ → Command → Option ShareState
share_of_part warehouse command = if home_of command == warehouse then share_of warehouse command else None

-- a part that was done is kept, with its edition and under the number of its command among those of several warehouses:
-- the pages and their frames stay, and the partition was told the serial list, whose last commit it is
pub record KeepsPart (edition : Edition) (command : Command) (number : ℕ) (log : Log) (old new : PartitionState)
    (share : Option ShareState) : Type 0 where
  pub part : new.part ≡ None
  pub undo : new.undo ≡ empty_log new.space
  pub space : new.space ≡ old.space
  pub seen : new.seen ≡ log
  pub kept : new.kept ≡ old.kept ++ commits.Cross edition number command ∷ []
  pub book : new.book ≡ with_part_entered old.warehouse old.book command
  pub share_is : share ≡ share_of_part old.warehouse command
  pub beside : KeepsBeside old new
