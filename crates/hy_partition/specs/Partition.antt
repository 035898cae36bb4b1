-- One warehouse: the load that it began from, what was kept since, the job that runs, the pages and the snapshots.
use Rattle.std.specs.Prelude.{ℕ, ◌==◌, ◌&&◌, Bool, true, false, is_none, nat_lt, not, List, Option, None, drop, length, slice_index_or}
use Rattle.std.specs.List.{list_any}
use Rattle.hy_passes.specs.SerialList.{kept_of}
use Rattle.hy_ledger.specs.Books.{BookState}
use Rattle.hy_commands.specs.declared.command.Command.{Command}
use Rattle.hy_commands.specs.declared.command.Commit.{Commit}
use Rattle.hy_commands.specs.declared.command.Commit.TheVariants as commits
use Rattle.hy_commands.specs.declared.edition.Edition.{Edition}
use Rattle.hy_commands.specs.declared.edition.Edition.TheVariants as editions
use Rattle.hy_rows.specs.Tables.{Lists, Tables, of_warehouse}
use Rattle.hy_commands.specs.Commands.{edition_of, is_reader, warehouses_of, warehouses_of_commit}
use Rattle.hy_commands.specs.Parts.{database_of, is_by_number, refusal_in}
use Rattle.hy_commands.specs.Replay.{replay}
use Rattle.hy_commands.specs.Transactions.{Outcome, act, refusal_of}
use Rattle.hy_schema.specs.declared.refusal.Refusal.{Refusal}
use Rattle.hy_layout.specs.Layout.{LayoutState}
use Rattle.hy_space.specs.Space.{SpaceState}
use Rattle.hy_undo.specs.UndoLog.{UndoLog}
use Rattle.hy_partition.specs.Jobs.{DoneState, Log, RunningJob}

-- a command over several warehouses whose part is done here, and its edition
pub record PartState : Type 0 where
  pub edition : Edition
  pub command : Command

-- the value of a partition
pub record PartitionState : Type 0 where
  -- the load that it began from, which warehouse of it this is, how many commits may be kept, and how many of them come
  -- from a log, by whichever edition that was written
  pub load : Lists
  pub warehouse : ℕ
  pub max_kept : ℕ
  pub replayed : ℕ
  -- what it has been told of the serial list, its commits in order, and its accounts
  pub seen : Log
  pub kept : List Commit
  pub book : BookState
  -- the job that runs, or the command over several warehouses whose part is done here and isn't kept yet; what either
  -- overwrote; and the answer that wasn't taken
  pub running : Option RunningJob
  pub part : Option PartState
  pub undo : UndoLog
  pub finished : Option DoneState
  -- the live pages with those of the open snapshots, and for each open snapshot its number of commits
  pub space : SpaceState
  pub snapshots : List (Option ℕ)

-- what no call changes
pub record Terms : Type 0 where
  pub load : Lists
  pub warehouse : ℕ
  pub max_kept : ℕ
  pub replayed : ℕ

abbrev pub terms_of : PartitionState → Terms
terms_of p = record { load = p.load; warehouse = p.warehouse; max_kept = p.max_kept; replayed = p.replayed }

-- whether a log is replayed: commits are to come that it has
abbrev pub replays : PartitionState → Bool
replays p = nat_lt (length p.kept) p.replayed

-- whether commands may run by an edition where a log is replayed, or isn't: by the first one only where it is
abbrev pub may_run : Bool → Edition → Bool
may_run is_replayed editions.First = is_replayed
may_run is_replayed editions.Second = true

-- the warehouse of the load
abbrev pub layout_of : PartitionState → LayoutState
layout_of p = record { load = p.load; warehouse = p.warehouse }

-- the rows of the warehouse after some commits, and after all that are kept
abbrev pub rows_after : PartitionState → List Commit → Tables
rows_after p commits = replay p.load p.warehouse (of_warehouse p.warehouse p.load.tables) commits

abbrev pub rows_now : PartitionState → Tables
rows_now p = rows_after p p.kept

-- the commits that name a warehouse in a serial list, in its order
abbrev pub projection_of : ℕ → Log → List Commit
projection_of warehouse log = kept_of warehouses_of_commit warehouse log

-- the commits that come from no log
abbrev pub own_commits : PartitionState → List Commit
own_commits p = drop p.replayed p.kept

-- whether a commit may be kept by a warehouse of a load: its command is one that the load refuses for no reason, writes, and
-- names the warehouse, alone or with others; one of several warehouses names who pays by number
abbrev pub may_be_kept : Lists → ℕ → Commit → Bool
may_be_kept lists warehouse (commits.Local edition command) =
    is_none (refusal_in (database_of lists) command) && not (is_reader command)
    && list_any (λ named. named == warehouse) (warehouses_of command) && not (nat_lt 1 (length (warehouses_of command)))
may_be_kept lists warehouse (commits.Cross edition number command) =
    is_none (refusal_in (database_of lists) command) && is_by_number command
    && list_any (λ named. named == warehouse) (warehouses_of command) && nat_lt 1 (length (warehouses_of command))

-- whether a commit is of the second edition, as all new ones are
abbrev pub is_new : Commit → Bool
is_new commit = is_second (edition_of commit)
  where
    is_second : Edition → Bool
    is_second editions.First = false
    is_second editions.Second = true

-- the number of commits of an open snapshot, or none where no snapshot has this child of the page tables
abbrev pub commits_of : PartitionState → ℕ → Option ℕ
commits_of p child = slice_index_or p.snapshots child None

-- why the warehouse refuses a command, and what the command does to it by an edition, by the rows after all that is
-- kept
abbrev pub refusal_now : PartitionState → Command → Option Refusal
refusal_now p command = refusal_of p.load.items p.warehouse command (rows_now p)

abbrev pub outcome_now : PartitionState → Edition → Command → Outcome
outcome_now p edition command = act p.load.items p.warehouse edition command (rows_now p)
