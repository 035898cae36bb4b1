-- What a command over several warehouses does to the partitions of a load, step by step: what runs is ended, the command
-- is looked at, and its parts are done in all warehouses that it names or in none, and kept. At the end the steps make
-- one whole.
use Rattle.std.specs.Prelude.{◌≡◌, ⊤, ◌⊎◌, ◌<◌, ◌≤◌, ℕ, suc, ◌+◌, ◌-◌, ◌==◌, ◌&&◌, ◌||◌, Bool, true, false, if◌then◌else◌, List, [], ◌∷◌, ◌++◌, length, map, slice_get, Option, None, Some, IfSome, MatchOption}
use Rattle.std.specs.List.{list_any}
use mathlib.Core.List.{IsPrefix}
use Rattle.hy_ledger.specs.declared.view.ShareState.{ShareState}
use Rattle.hy_rows.specs.Tables.{Lists}
use Rattle.hy_schema.specs.Loads.{IsLoad}
use Rattle.hy_schema.specs.declared.refusal.Refusal.{Refusal}
use Rattle.hy_schema.specs.declared.refusal.Refusal.TheVariants as refusals
use Rattle.hy_commands.specs.declared.command.Command.{Command}
use Rattle.hy_commands.specs.declared.command.Commit.TheVariants as commits
use Rattle.hy_passes.specs.declared.entry.Entry.{Entry}
use Rattle.hy_passes.specs.SerialList.{numbers_of}
use Rattle.hy_commands.specs.declared.command.Commit.{Commit}
use Rattle.hy_commands.specs.declared.edition.Edition.{Edition}
use Rattle.hy_commands.specs.declared.edition.Edition.TheVariants as editions
use Rattle.hy_commands.specs.Commands.{customer_home_of, home_of, number_of, warehouses_of, warehouses_of_commit}
use Rattle.hy_commands.specs.Parts.{Database, database_of, refusal_in}
use Rattle.hy_database.specs.Database.{act_on_all, database_after, kept_in}
use Rattle.hy_space.specs.Space.{owner_bytes}
use Rattle.hy_commands.specs.declared.reply.Reply.{Reply}
use Rattle.hy_undo.specs.UndoLog.{empty_log}
use Rattle.hy_partition.specs.Limits.{most_kept}
use Rattle.hy_partition.specs.Jobs.{DoneState, JobState, Log, refused_answer, share_of, told}
use Rattle.hy_partition.specs.Partition.{PartitionState, layout_of, projection_of, replays, rows_now}
use Rattle.hy_partition.specs.Parts.{DoesPart, FindsPayer, HasNoPart, HasPart, IsWhyUndone, KeepsBeside, KeepsPart, PartLacksFrame, reply_of_part, with_part_entered}
use Rattle.hy_partition.specs.Steps.{Accepts, KeepsNothing, Refuses, is_full}
use Rattle.hy_crossing.specs.Lists.{InTurn, Pairwise}

-- the partitions are those of the warehouses 1, 2, 3 and so on of a load
abbrev pub IsPartition : Lists → ℕ → PartitionState → Type 0
IsPartition lists number p = (p.load ≡ lists) × (p.warehouse ≡ number)

pub record ArePartitions (lists : Lists) (parts : List PartitionState) : Type 0 where
  pub count : length parts ≡ length lists.tables.warehouses
  pub each : (place : ℕ) → IfSome (slice_get parts place) (IsPartition lists (suc place))

-- whether a command names the warehouse with a number
abbrev pub is_named : Command → ℕ → Bool
is_named command number = list_any (λ named. named == number) (warehouses_of command)

-- a command over several warehouses may run in the one with a number by an edition, if it names that: by the first one only
-- where nothing runs there and a log is replayed
abbrev pub MayRunIfNamed : Edition → Command → ℕ → PartitionState → Type 0
MayRunIfNamed editions.First command number p =
    is_named command number ≡ true → (p.running ≡ None) × (replays p ≡ true)
MayRunIfNamed editions.Second command number p = ⊤

abbrev pub AllMayRun : Edition → Command → List PartitionState → Type 0
AllMayRun editions.First command parts =
    (place : ℕ) → IfSome (slice_get parts place) (MayRunIfNamed editions.First command (suc place))
AllMayRun editions.Second command parts = ⊤

-- one thing where a command names the warehouse with a number, and another where it doesn't
abbrev pub IfNamed : Command → ℕ → Type 0 → Type 0 → Type 0
IfNamed command number Named Other =
    ((is_named command number ≡ true) × Named) ⊎ ((is_named command number ≡ false) × Other)

-- ---- what runs in the warehouses that a command names

-- the job that ran in a partition, if one did, has come to its end, with the serial list before and after
abbrev pub EndsJob : Log → Log → PartitionState → PartitionState → Type 0
EndsJob before after old new = MatchOption old.running ((new ≡ old) × (after ≡ before)) (λ job.
    Accepts job (Some before) (Some after) old new ⊎ Refuses job (Some before) (Some after) old new)

-- where the command names its warehouse; another partition stays
abbrev pub EndsIfNamed : Command → ℕ → Log → Log → PartitionState → PartitionState → Type 0
EndsIfNamed command number before after old new =
    IfNamed command number (EndsJob before after old new) ((new ≡ old) × (after ≡ before))

-- in all partitions, one after the other
abbrev pub EndsJobs : Command → Log → Log → List PartitionState → List PartitionState → Type 0
EndsJobs command before after olds news = InTurn (EndsIfNamed command) 1 before after olds news

-- the partitions of the warehouses that a command names are told the whole serial list; what they have kept is all that
-- it has of them
abbrev pub TellsIfNamed : Command → Log → ℕ → PartitionState → PartitionState → Type 0
TellsIfNamed command log number old new =
    IfNamed command number
    ((new ≡ record old { seen = log }) × (old.kept ≡ projection_of old.warehouse log) × IsPrefix old.seen log)
    (new ≡ old)

abbrev pub TellsNamed : Command → Log → List PartitionState → List PartitionState → Type 0
TellsNamed command log olds news = Pairwise (TellsIfNamed command log) 1 olds news

-- ---- refusals

-- whether one of the warehouses that a command names, from the one with a number on, keeps as many commits as it may
abbrev pub some_is_full : Command → ℕ → List PartitionState → Bool
some_is_full command number [] = false
some_is_full command number (p ∷ later) = is_named command number && is_full p || some_is_full command (suc number) later

-- a full kept list is found before a missing item
abbrev pub with_full : Bool → Option Refusal → Option Refusal
with_full full (Some refusals.NoSuchItem) = Some (if full then refusals.HistoryFull else refusals.NoSuchItem)
with_full full None = if full then Some refusals.HistoryFull else None
with_full full other = other

-- why a command is refused before its parts are tried: known by the load, since no warehouse, district, customer or item
-- ever comes or goes, and by whether a kept list is full
abbrev pub loaded_refusal : Lists → Command → List PartitionState → Option Refusal
loaded_refusal lists command parts = with_full (some_is_full command 1 parts) (refusal_in (database_of lists) command)

-- nothing runs in the partitions of the warehouses that a command names, and no part is done there
abbrev pub IsIdleIfNamed : Command → ℕ → PartitionState → Type 0
IsIdleIfNamed command number p = is_named command number ≡ true → (p.running ≡ None) × (p.part ≡ None)

abbrev pub AreIdle : Command → List PartitionState → Type 0
AreIdle command parts = (place : ℕ) → IfSome (slice_get parts place) (IsIdleIfNamed command (suc place))

-- what is found of the customer whom a command names, in the partition of that customer's warehouse
abbrev pub FindsPayerIn : List PartitionState → Command → Option ℕ → Type 0
FindsPayerIn parts command found =
    IfSome (slice_get parts (customer_home_of command - 1)) (λ p. FindsPayer command (rows_now p) found)

abbrev pub IsPayerIn : List PartitionState → Command → ℕ → Type 0
IsPayerIn parts command number = FindsPayerIn parts command (Some number)

-- ---- parts that are done

-- a part of a command can be done in a partition, where it has one
pub record CanDoPart (command : Command) (p : PartitionState) : Type 0 where
  pub idle : (p.running ≡ None) × (p.part ≡ None)
  pub has_part : HasPart (layout_of p) command
  pub few : length p.kept < p.max_kept

abbrev pub CanDoIfNamed : Command → ℕ → PartitionState → Type 0
CanDoIfNamed command number p = is_named command number ≡ true → CanDoPart command p

abbrev pub CanDoParts : Command → List PartitionState → Type 0
CanDoParts command parts = (place : ℕ) → IfSome (slice_get parts place) (CanDoIfNamed command (suc place))

-- no part is done, and the pages have the bytes of before, though some may be copies
pub record IsAsBefore (old new : PartitionState) : Type 0 where
  pub part : new.part ≡ None
  pub undo : new.undo ≡ empty_log new.space
  pub bytes : owner_bytes new.space ≡ owner_bytes old.space
  pub nothing : KeepsNothing old new
  pub beside : KeepsBeside old new

-- the part is done in a warehouse that the command names, and nothing in another one; with the reply
abbrev pub DoesHere : Edition → Command → ℕ → PartitionState → PartitionState → Option Reply → Type 0
DoesHere edition command number old new reply =
    IfNamed command number (DoesPart edition command old new reply) ((new ≡ old) × (reply ≡ None))

abbrev pub DoesIfNamed : Edition → Command → ℕ → PartitionState → PartitionState → Type 0
DoesIfNamed edition command number old new = (reply : Option Reply) × DoesHere edition command number old new reply

-- it isn't done in a warehouse that the command names
abbrev pub FailsHere : Command → Refusal → ℕ → PartitionState → PartitionState → Type 0
FailsHere command why number old new =
    (is_named command number ≡ true) × IsAsBefore old new × IsWhyUndone old.space new.space why

-- nothing is done there in the end
abbrev pub LeavesIfNamed : Command → ℕ → PartitionState → PartitionState → Type 0
LeavesIfNamed command number old new = IfNamed command number ((new ≡ old) ⊎ IsAsBefore old new) (new ≡ old)

-- the reply is that of the warehouse whose customer the command names
abbrev pub RepliesFrom : Edition → Command → List PartitionState → Option Reply → Type 0
RepliesFrom edition command parts reply =
    IfSome (slice_get parts (customer_home_of command - 1))
    (λ p. reply ≡ reply_of_part (layout_of p) edition command (rows_now p))

-- one of the partitions lacked a frame
abbrev pub SomeLacksFrame : List PartitionState → List PartitionState → Type 0
SomeLacksFrame (old ∷ olds) (new ∷ news) = PartLacksFrame old.space new.space ⊎ SomeLacksFrame olds news
SomeLacksFrame olds news = ⊥

-- why not all parts are done: in one of them a frame lacked, or memory was refused
abbrev pub IsWhyNotDone : List PartitionState → List PartitionState → Refusal → Type 0
IsWhyNotDone olds news why = ((why ≡ refusals.NoFrame) × SomeLacksFrame olds news) ⊎ (why ≡ refusals.NoMemory)

-- ---- parts that are undone

-- nothing runs in the partitions of the warehouses that a command names
abbrev pub IsQuietIfNamed : Command → ℕ → PartitionState → Type 0
IsQuietIfNamed command number p = is_named command number ≡ true → p.running ≡ None

abbrev pub AreQuiet : Command → List PartitionState → Type 0
AreQuiet command parts = (place : ℕ) → IfSome (slice_get parts place) (IsQuietIfNamed command (suc place))

-- the part of a command is undone, where it names the warehouse
abbrev pub UndoesIfNamed : Command → ℕ → PartitionState → PartitionState → Type 0
UndoesIfNamed command number old new = IfNamed command number (HasNoPart old new) (new ≡ old)

-- ---- parts that are kept

-- the part of a command is done in a partition, and the serial list has the command behind what is kept
abbrev pub IsReadyIfNamed : Edition → Command → ℕ → Log → ℕ → PartitionState → Type 0
IsReadyIfNamed edition command crossing log number p =
    is_named command number ≡ true → (p.part ≡ Some (record { edition = edition; command = command }))
    × (projection_of p.warehouse log ≡ p.kept ++ commits.Cross edition crossing command ∷ [])

abbrev pub AreReady : Edition → Command → ℕ → Log → List PartitionState → Type 0
AreReady edition command crossing log parts =
    (place : ℕ) → IfSome (slice_get parts place) (IsReadyIfNamed edition command crossing log (suc place))

-- it is kept where the command names the warehouse, with the share
abbrev pub KeepsHere : Edition → Command → ℕ → Log → ℕ → PartitionState → PartitionState → Option ShareState → Type 0
KeepsHere edition command crossing log number old new share =
    IfNamed command number (KeepsPart edition command crossing log old new share) ((new ≡ old) × (share ≡ None))

abbrev pub KeepsPartIfNamed : Edition → Command → ℕ → Log → ℕ → PartitionState → PartitionState → Type 0
KeepsPartIfNamed edition command crossing log number old new =
    (share : Option ShareState) × KeepsHere edition command crossing log number old new share

-- ---- a commit that enters the serial list

-- what is known of a partition whose warehouse a command names: it is one of the kit's and of a load, and keeps all that
-- the serial list has of it as far as it was told, and no more than may be
pub record IsKnown (partitions : ℕ) (p : PartitionState) : Type 0 where
  pub kept : p.kept ≡ projection_of p.warehouse p.seen
  pub sound : IsLoad p.load
  pub range : (1 ≤ p.warehouse) × (p.warehouse ≤ partitions)
  pub few : length p.kept ≤ p.max_kept
  pub limit : p.max_kept ≤ most_kept

abbrev pub IsKnownIfNamed : Command → ℕ → ℕ → PartitionState → Type 0
IsKnownIfNamed command partitions number p = is_named command number ≡ true → IsKnown partitions p

abbrev pub AreKnown : Command → ℕ → List PartitionState → Type 0
AreKnown command partitions parts =
    (place : ℕ) → IfSome (slice_get parts place) (IsKnownIfNamed command partitions (suc place))

-- the part of a command is done there, and the serial list is known, as far as it goes
abbrev pub IsDoneIfNamed : Edition → Command → Log → ℕ → PartitionState → Type 0
IsDoneIfNamed edition command log number p =
    is_named command number ≡ true → (p.part ≡ Some (record { edition = edition; command = command })) × (p.seen ≡ log) × (length p.kept < p.max_kept)

abbrev pub AreDone : Edition → Command → Log → List PartitionState → Type 0
AreDone edition command log parts =
    (place : ℕ) → IfSome (slice_get parts place) (IsDoneIfNamed edition command log (suc place))

-- the next number among the commits of several warehouses, and what enters the serial list: the commit, stamped with what
-- its client knew
abbrev pub next_number : Log → ℕ
next_number log = length (numbers_of warehouses_of_commit number_of log) + 1

abbrev pub crossing_entry : Edition → Command → ℕ → Log → Entry Commit
crossing_entry edition command stamp log =
    record { commit = commits.Cross edition (next_number log) command; stamp = stamp }

-- ---- the whole command

-- no part of a command is done in any partition
abbrev pub HaveNoPart : List PartitionState → Type 0
HaveNoPart parts = (place : ℕ) → IfSome (slice_get parts place) (λ p. p.part ≡ None)

-- a partition is that of the warehouse with a number of a load, and no part of a command is done there
abbrev pub IsWhole : Lists → ℕ → PartitionState → Type 0
IsWhole lists number p = IsPartition lists number p × (p.part ≡ None)

-- what is known of a partition before the parts of a command are tried: it is one of the load and has no part done; where
-- the command names its warehouse, nothing runs there, and it was told the serial list, of which it has kept all
pub record IsInformed (lists : Lists) (command : Command) (log : Log) (number : ℕ) (p : PartitionState) : Type 0 where
  pub partition : IsPartition lists number p
  pub whole : p.part ≡ None
  pub idle : is_named command number ≡ true → p.running ≡ None
  pub told : is_named command number ≡ true → (p.seen ≡ log) × (p.kept ≡ projection_of p.warehouse log)

pub record AreInformed (lists : Lists) (command : Command) (log : Log) (parts : List PartitionState) : Type 0 where
  pub count : length parts ≡ length lists.tables.warehouses
  pub each : (place : ℕ) → IfSome (slice_get parts place) (IsInformed lists command log (suc place))

-- what ran in the warehouses that a command names has ended, and they were told the serial list
pub record Informs (command : Command) (before after : Log) (old new : List PartitionState) : Type 0 where
  pub ended : List PartitionState
  pub ends : EndsJobs command before after old ended
  pub tells : TellsNamed command after ended new

-- the commits of a serial list, and the database of a load behind them
abbrev pub commits_in : Log → List Commit
commits_in log = map (λ (entry : Entry Commit). entry.commit) log

abbrev pub database_behind : Lists → Log → Database
database_behind lists log = database_after lists (commits_in log)

-- why a command is refused behind a serial list, before its parts are tried
abbrev pub crossing_refusal : Lists → Log → List PartitionState → Command → Option Refusal
crossing_refusal lists log parts command =
    with_full (some_is_full command 1 parts) (refusal_in (database_behind lists log) command)

-- why it is refused: as said above, or a part lacked a frame, or memory
abbrev pub IsWhyRefused : Lists → Log → Command → List PartitionState → List PartitionState → Refusal → Type 0
IsWhyRefused lists log command old new why =
    (crossing_refusal lists log old command ≡ Some why)
    ⊎ ((crossing_refusal lists log old command ≡ None) × IsWhyNotDone old new why)

-- the command is refused behind a serial list, which stays, and no part of it is left
pub record RefusesAll (lists : Lists) (job : JobState) (log after : Log) (old new : List PartitionState)
    (answer : DoneState) : Type 0 where
  pub why : Refusal
  pub reason : IsWhyRefused lists log job.command old new why
  pub log_is : after ≡ log
  pub parts : Pairwise (LeavesIfNamed job.command) 1 old new
  pub answer_is : answer ≡ refused_answer job.pass why

-- what an accepted command enters into the serial list: with the next number among those of several warehouses, the
-- customer who pays named by number, and stamped with what its client knew
abbrev pub entry_of : Lists → JobState → Log → Entry Commit
entry_of lists job log =
    crossing_entry job.edition (kept_in (database_behind lists log) job.command) (length job.pass.seen) log

-- a partition has kept a commit behind all others, with the pages and frames of its part; its home alone enters it into
-- its book
pub record KeepsCrossing (command : Command) (commit : Commit) (log : Log) (old new : PartitionState) : Type 0 where
  pub part : new.part ≡ None
  pub undo : new.undo ≡ empty_log new.space
  pub seen : new.seen ≡ log
  pub kept : new.kept ≡ old.kept ++ commit ∷ []
  pub book : new.book ≡ with_part_entered old.warehouse old.book command
  pub beside : KeepsBeside old new

abbrev pub KeepsIfNamed : Command → Commit → Log → ℕ → PartitionState → PartitionState → Type 0
KeepsIfNamed command commit log number old new =
    IfNamed command number (KeepsCrossing command commit log old new) (new ≡ old)

-- the command is accepted behind a serial list: its commit enters that list and the kept list of each warehouse that it
-- names, at the ends. The reply is that of the whole database behind the serial list; the client is told all of it
pub record AcceptsAll (lists : Lists) (job : JobState) (log after : Log) (old new : List PartitionState)
    (answer : DoneState) : Type 0 where
  pub accepted : crossing_refusal lists log old job.command ≡ None
  pub client_told : IsPrefix job.pass.seen log
  pub log_is : after ≡ log ++ entry_of lists job log ∷ []
  pub parts : Pairwise (KeepsIfNamed job.command (entry_of lists job log).commit after) 1 old new
  pub answer_is : answer ≡ record {
    reply = (act_on_all job.edition job.command (database_behind lists log)).reply;
    pass = told job.pass after;
    share = share_of (home_of job.command) job.command;
  }

-- what ran in the warehouses that a command names has ended, and they were told the serial list; then the command was
-- accepted, or refused
pub record Crosses (lists : Lists) (job : JobState) (before after : Log) (old new : List PartitionState)
    (answer : DoneState) : Type 0 where
  pub log : Log
  pub middle : List PartitionState
  pub informs : Informs job.command before log old middle
  pub does : AcceptsAll lists job log after middle new answer ⊎ RefusesAll lists job log after middle new answer
