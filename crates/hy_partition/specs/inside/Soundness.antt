-- What holds of every partition, beside the counts of its frames, which its pages keep by themselves.
use Rattle.std.specs.Prelude.{◌≡◌, ℕ, ◌<◌, ◌≤◌, true, false, List, [], length, None, IsSome, MatchOption}
use Rattle.std.specs.List.{list_all}
use Rattle.hy_worlds.specs.Origins.{Origin, replayed_of}
use Rattle.hy_rows.specs.Ranges.{IsBetween}
use Rattle.hy_rows.specs.Tables.{Lists, Tables, of_warehouse}
use Rattle.hy_schema.specs.Loads.{IsLoad}
use Rattle.hy_passes.specs.Worlds.{KeptState}
use Rattle.hy_tickets.specs.Desks.{DeskState, is_out}
use Rattle.hy_commands.specs.declared.command.Commit.{Commit}
use Rattle.hy_commands.specs.Commands.{is_reader, slice_count}
use Rattle.hy_commands.specs.Transactions.{begin_refusal_of}
use Rattle.hy_space.specs.Space.{SpaceState, owner_bytes}
use Rattle.hy_undo.specs.UndoLog.{UndoLog, undone, empty_log}
use Rattle.hy_undo.specs.PrivatePages.{IsUndoLog}
use Rattle.hy_tpcc.specs.Stored.{HasStore, stored}
use Rattle.hy_tpcc.specs.Indexes.{HasIndexes}
use Rattle.hy_tpcc.specs.Executor.{ExecutorState, IsUnderWay}
use Rattle.hy_tpcc.specs.Parts.{HasPart}
use Rattle.hy_partition.specs.Accounts.{IsBookOf}
use Rattle.hy_partition.specs.Partition.{PartState, PartitionState, commits_of, is_new, layout_of, may_be_kept, may_run, own_commits, replays, rows_now}
use Rattle.hy_partition.specs.Limits.{most_kept}
use Rattle.hy_partition.specs.Jobs.{RunningJob}
use Rattle.hy_partition.specs.Headline.{SpellsBeginning}
use Rattle.hy_partition.specs.Parts.{rows_with_part}

-- bytes are those of a store with these rows and their indexes, on pages of n bytes
pub record IsStoreOf (n : ℕ) (tables : Tables) (bytes : List (List (List ℕ))) : Type 0 where
  pub store : HasStore n bytes
  pub rows : (stored n bytes).tables ≡ tables
  pub indexes : HasIndexes (stored n bytes)

-- a job runs, by an edition that may: the executor has done its slices, and its commit has room, if it will have one
pub record Runs (n room : ℕ) (executor : ExecutorState) (p : PartitionState) (job : RunningJob) : Type 0 where
  pub no_part : p.part ≡ None
  pub edition : may_run (replays p) job.edition ≡ true
  pub begins : begin_refusal_of p.warehouse job.command (rows_now p) ≡ None
  pub no_reply : p.finished ≡ None
  pub slices : job.slices < slice_count job.command
  pub store : HasStore n (owner_bytes p.space)
  pub under_way : IsUnderWay executor job.edition job.command job.slices (rows_now p) (stored n (owner_bytes p.space))
  pub has_room : is_reader job.command ≡ false → 1 ≤ room
  pub below_max : is_reader job.command ≡ false → length p.kept < p.max_kept

-- nothing runs: nothing is to be undone, and the live pages have the rows after all that is kept
pub record Rests (n : ℕ) (p : PartitionState) : Type 0 where
  pub undo : p.undo ≡ empty_log p.space
  pub pages : IsStoreOf n (rows_now p) (owner_bytes p.space)

-- the part of a command over several warehouses is done, by an edition that may run: the live pages have the rows after
-- it, and its commit has room
pub record HoldsPart (n room : ℕ) (p : PartitionState) (part : PartState) : Type 0 where
  pub has_part : HasPart (layout_of p) part.command
  pub edition : may_run (replays p) part.edition ≡ true
  pub pages : IsStoreOf n (rows_with_part p part.edition part.command) (owner_bytes p.space)
  pub has_room : 1 ≤ room
  pub below_max : length p.kept < p.max_kept

-- no job runs
abbrev pub IsIdle : ℕ → ℕ → PartitionState → Type 0
IsIdle n room p = MatchOption p.part (Rests n p) (HoldsPart n room p)

-- with pages of n bytes, room for so many more commits, and the executor of the warehouse
pub record IsSound (n room : ℕ) (executor : ExecutorState) (p : PartitionState) : Type 0 where
  pub snapshots : (child : ℕ) → SpellsBeginning n p child
  pub live : IsStoreOf n (rows_now p) (undone (owner_bytes p.space) p.undo)
  pub undo_log : IsUndoLog n p.space p.undo
  pub load : IsLoad p.load
  pub warehouse : IsBetween 1 (length p.load.tables.warehouses) p.warehouse
  pub layout : executor.layout ≡ layout_of p
  pub within : length p.kept ≤ p.max_kept
  pub limit : p.max_kept ≤ most_kept
  pub job : MatchOption p.running (IsIdle n room p) (Runs n room executor p)

-- how the parts of a partition belong together: they are of one warehouse, of the load and the kit that the world names; a
-- ticket that is out is that of an open snapshot; as many commits come from a log as the kit says, the others are of the second
-- edition, and all may be kept; the book has what was taken in
pub record IsTied (world : Lists) (kit : Origin) (list : KeptState Commit) (desk : DeskState) (p : PartitionState)
    : Type 0 where
  pub load_is : p.load ≡ world
  pub list_of : list.warehouse ≡ p.warehouse
  pub desk_of : desk.warehouse ≡ p.warehouse
  pub tickets : (child : ℕ) → is_out desk.out child ≡ true → IsSome (commits_of p child)
  pub replayed_is : p.replayed ≡ replayed_of kit p.warehouse
  pub new : list_all is_new (own_commits p) ≡ true
  pub known : list_all (may_be_kept p.load p.warehouse) p.kept ≡ true
  pub book : IsBookOf p.load p.warehouse p.kept p.book

-- the rows of a warehouse of a load stand on pages of n bytes, in an index each, under a limit on frames; no snapshot is
-- open, nothing is to be undone, and the executor is that of the warehouse
pub record IsLaid (n : ℕ) (lists : Lists) (number frames : ℕ) (executor : ExecutorState) (space : SpaceState)
    (undo : UndoLog) : Type 0 where
  pub layout : executor.layout ≡ record { load = lists; warehouse = number }
  pub load : IsLoad lists
  pub store : IsStoreOf n (of_warehouse number lists.tables) (owner_bytes space)
  pub undo_log : IsUndoLog n space undo
  pub nothing : undo ≡ empty_log space
  pub children : space.children ≡ []
  pub max_frames : space.frames.max ≡ frames
