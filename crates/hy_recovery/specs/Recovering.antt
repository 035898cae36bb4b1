-- What is recovered from the batches of a log.
use Rattle.std.specs.Prelude.{◌≡◌, ◌⊎◌, false, ℕ, suc, ◌<◌, ◌≤◌, List, [], ◌∷◌, ◌++◌, length, slice_get, IfSome, None}
use mathlib.Core.List.{IsPrefix}
use Rattle.hy_worlds.specs.Origins.{Origin, replayed_of}
use Rattle.hy_rows.specs.Spelling.{Spells}
use Rattle.hy_rows.specs.Tables.{Lists}
use Rattle.hy_schema.specs.declared.refusal.Refusal.{Refusal}
use Rattle.hy_schema.specs.declared.refusal.Refusal.TheVariants as refusals
use Rattle.hy_commands.specs.declared.command.Commit.{Commit}
use Rattle.hy_commands.specs.Commands.{command_of, number_of}
use Rattle.hy_commands.specs.Replay.{rows_after}
use Rattle.hy_frames.specs.FrameTable.{free_of}
use Rattle.hy_space.specs.Space.{CountsAreExact, SpaceState, child_table, owner_bytes}
use Rattle.hy_undo.specs.UndoLog.{UndoLog, undone}
use Rattle.hy_forks.specs.of_tpcc.Shortages.{adds_no_page}
use Rattle.hy_batches.specs.Batches.{Batch}
use Rattle.hy_forks.specs.of_partition.Limits.{most_kept}
use Rattle.hy_forks.specs.of_partition.Partition.{PartitionState, commits_of, terms_of}
use Rattle.hy_forks.specs.of_crossing.Making.{SomeIsShort}
pub use Rattle.hy_forks.specs.Logged.{GoesOn, joined}
use Rattle.hy_sound.specs.Sound.{IsFirstUnsound, IsSoundLog}

-- the partition of the warehouse with a number of a load, with these commits kept, all from the log; nothing runs there, no
-- answer waits, no snapshot is open
pub record IsRecovered (lists : Lists) (frames most : ℕ) (commits : List Commit) (number : ℕ) (p : PartitionState)
    : Type 0 where
  pub terms : terms_of p ≡ record { load = lists; warehouse = number; max_kept = most; replayed = length commits }
  pub kept : p.kept ≡ commits
  pub running : p.running ≡ None
  pub part : p.part ≡ None
  pub finished : p.finished ≡ None
  pub max_frames : p.space.frames.max ≡ frames
  pub snapshots : (child : ℕ) → commits_of p child ≡ None

-- one for each warehouse
pub record AreRecovered (lists : Lists) (frames most : ℕ) (batches : List Batch) (parts : List PartitionState)
    : Type 0 where
  pub count : length parts ≡ length lists.tables.warehouses
  pub each : (place : ℕ) → IfSome (slice_get parts place) (IsRecovered lists frames most (joined batches place) (suc place))

-- the commits of some warehouse are more than may be kept, or those of none
abbrev pub SomeAreTooMany : Lists → List Batch → ℕ → Type 0
SomeAreTooMany lists batches most =
    (place : ℕ) × (place < length lists.tables.warehouses) × (most < length (joined batches place))

abbrev pub NoneAreTooMany : Lists → List Batch → ℕ → Type 0
NoneAreTooMany lists batches most =
    (place : ℕ) → place < length lists.tables.warehouses → length (joined batches place) ≤ most

-- a kit knows how many commits of each warehouse come from batches; where some warehouse has more than any partition may
-- keep, it may know anything
abbrev pub Counts : Origin → Lists → List Batch → Type 0
Counts kit lists batches =
    (most : ℕ) → most ≤ most_kept → NoneAreTooMany lists batches most → (place : ℕ)
    → place < length lists.tables.warehouses → replayed_of kit (suc place) ≡ length (joined batches place)

-- why no database is recovered from batches, whatever there is of frames and memory: one isn't sound; or all are, and some
-- warehouse would keep too many commits
abbrev pub IsUnfit : Lists → List Batch → ℕ → Refusal → Type 0
IsUnfit lists batches most (refusals.LogMalformed place) = IsFirstUnsound lists batches place
IsUnfit lists batches most refusals.HistoryFull = IsSoundLog lists batches × SomeAreTooMany lists batches most
IsUnfit lists batches most why = ⊥

-- no frame is left for the warehouse with a number of a load, behind some commits. Its pages spell the rows behind these,
-- once what a command wrote is undone; at most so many frames may be used, all are in use, and no snapshot has any
pub record HasNoFrameLeft (n : ℕ) (lists : Lists) (frames number : ℕ) (kept : List Commit) : Type 0 where
  pub space : SpaceState
  pub undo : UndoLog
  pub spelled : Spells n (undone (owner_bytes space) undo) (rows_after lists number kept)
  pub counts : CountsAreExact space
  pub alone : (child : ℕ) → child_table space child ≡ None
  pub limit : space.frames.max ≡ frames
  pub full : free_of space.frames ≡ 0

-- The lists of commits are run again up to a commit for which the warehouse at a place has no frame left. Each warehouse has
-- kept the first of its list. Behind these the commit stands in the list of its home, which is the warehouse at the place
-- unless the commit is one of several warehouses, and some slice of its command adds a page
pub record StopsAtCommit (n : ℕ) (lists : Lists) (frames : ℕ) (goal : ℕ → List Commit) : Type 0 where
  pub kept : ℕ → List Commit
  pub begun : (place : ℕ) → place < length lists.tables.warehouses → IsPrefix (kept place) (goal place)
  pub commit : Commit
  pub home : ℕ
  pub next : IsPrefix (kept home ++ commit ∷ []) (goal home)
  pub grows : (done : ℕ) × (adds_no_page (command_of commit) done ≡ false)
  pub place : ℕ
  pub within : place < length lists.tables.warehouses
  pub own : number_of commit ≡ None → home ≡ place
  pub full : HasNoFrameLeft n lists frames (suc place) (kept place)

-- so many frames are too few for the rows of a warehouse, or for a commit of the batches
abbrev pub LacksFrame : ℕ → Lists → ℕ → List Batch → Type 0
LacksFrame n lists frames batches = SomeIsShort n lists frames ⊎ StopsAtCommit n lists frames (joined batches)

-- why nothing is recovered, with pages of n bytes, at most so many frames and at most so many commits for each warehouse: the
-- batches are unfit; or they aren't, and frames lack, or memory
abbrev pub IsWhyUnrecovered : ℕ → Lists → ℕ → List Batch → ℕ → Refusal → Type 0
IsWhyUnrecovered n lists frames batches most refusals.NoFrame =
    IsSoundLog lists batches × NoneAreTooMany lists batches most × LacksFrame n lists frames batches
IsWhyUnrecovered n lists frames batches most refusals.NoMemory =
    IsSoundLog lists batches × NoneAreTooMany lists batches most
IsWhyUnrecovered n lists frames batches most why = IsUnfit lists batches most why
