-- Schedules: what the calls on a partition come to, in whatever order they are made, in a model of lists. Its world has no
-- page, no frame and no byte: only the load, the serial list of commits and those that are kept, how much of it each
-- client has seen, the command that runs, and the rows that each open snapshot had when it was taken. Each call that
-- succeeds is an event; one that is refused changes nothing. What other warehouses commit, and looks, are events too.
use Rattle.std.specs.Prelude.{◌≡◌, ℕ, ◌+◌, ◌≤◌, ◌==◌, ◌⊎◌, if◌then◌else◌, Bool, true, false, is_some, List, [], ◌∷◌, ◌++◌, length, map, take, Option, None, Some, IsSome, IsSomeAnd, MatchOption}
use Rattle.std.specs.Option.{option_map}
use Rattle.hy_passes.specs.declared.entry.Entry.{Entry}
use Rattle.hy_passes.specs.SerialList.{names, respects_stamps}
use Rattle.hy_rows.specs.Spelling.{tables_of}
use Rattle.hy_rows.specs.Tables.{Lists, Tables, of_warehouse}
use Rattle.hy_commands.specs.declared.command.Command.{Command}
use Rattle.hy_commands.specs.declared.command.Commit.{Commit}
use Rattle.hy_commands.specs.declared.edition.Edition.{Edition}
use Rattle.hy_commands.specs.declared.edition.Edition.TheVariants as editions
use Rattle.hy_commands.specs.Commands.{kept_of, slice_count, warehouses_of_commit}
use Rattle.hy_commands.specs.Invariant.{MeetsOwnConditions}
use Rattle.hy_commands.specs.Replay.{replay}
use Rattle.hy_commands.specs.Transactions.{begin_refusal_of, refusal_of}
use Rattle.hy_space.specs.Space.{child_bytes}
use Rattle.hy_partition.specs.Jobs.{Log, RunningJob}
use Rattle.hy_partition.specs.Partition.{PartitionState, commits_of, projection_of}

-- ---- the model's world

-- a snapshot that was taken: behind how many commits, and the rows at that moment
pub record Taken : Type 0 where
  pub commits : ℕ
  pub rows : Tables

-- a command that runs, its edition, how many of its slices are done, its client, and how many commits that client knew
-- when it began
pub record Underway : Type 0 where
  pub edition : Edition
  pub command : Command
  pub slices : ℕ
  pub client : ℕ
  pub stamp : ℕ

-- a warehouse of a load, the serial list, what was kept of it, how many commits each client knows, the command that runs,
-- whether an answer waits to be taken, and the snapshot that is open under each number, if there is one
pub record World : Type 0 where
  pub load : Lists
  pub warehouse : ℕ
  pub log : Log
  pub kept : List Commit
  pub known : ℕ → ℕ
  pub running : Option Underway
  pub waits : Bool
  pub open_at : ℕ → Option Taken

-- the rows after some commits, and after all that are kept
abbrev pub world_rows : World → List Commit → Tables
world_rows world commits =
    replay world.load world.warehouse (of_warehouse world.warehouse world.load.tables) commits

abbrev pub rows_of : World → Tables
rows_of world = world_rows world world.kept

-- a world in which nothing happened yet
abbrev pub fresh_world : Lists → ℕ → World
fresh_world lists number = record {
  load = lists;
  warehouse = number;
  log = [];
  kept = [];
  known = λ client. 0;
  running = None;
  waits = false;
  open_at = λ number. None;
}

-- ---- events

-- a client's command begins, by the second edition; the command that runs does a step; its answer is taken; a client takes a
-- snapshot under a number; what the snapshot under a number sees is opened under another one; that under a number is
-- closed; a client looks; a commit of other warehouses enters the serial list
pub data Event : Type 0 where
  begins : ℕ → Command → Event
  steps : Event
  takes : Event
  forks : ℕ → ℕ → Event
  forks_from : ℕ → ℕ → Event
  closes : ℕ → Event
  looks : ℕ → Event
  enters : Entry Commit → Event

-- the snapshots with another one under one number, or with none
abbrev pub with_open : (ℕ → Option Taken) → ℕ → Option Taken → ℕ → Option Taken
with_open open_at number snapshot other = if other == number then snapshot else open_at other

-- a client that knows all of a list
abbrev pub with_known : (ℕ → ℕ) → ℕ → Log → ℕ → ℕ
with_known known client log other = if other == client then length log else known other

-- a command with one slice more done
abbrev pub with_slice : World → Underway → World
with_slice world job = record world { running = Some (record job { slices = job.slices + 1 }) }

-- what an accepted command adds to the serial list
abbrev pub entered : Underway → Log
entered job = map (λ commit. record { commit = commit; stamp = job.stamp }) (kept_of job.edition job.command)

-- it was accepted, and its answer waits: its client knows all of the serial list
abbrev pub with_accepted : World → Underway → World
with_accepted world job = record world {
  log = world.log ++ entered job;
  kept = world.kept ++ kept_of job.edition job.command;
  known = with_known world.known job.client (world.log ++ entered job);
  running = None;
  waits = true;
}

-- it was refused, and its answer waits
abbrev pub with_refused : World → World
with_refused world = record world { running = None; waits = true }

-- whether the next slice of a command is the last one
abbrev pub is_last_of : Underway → Bool
is_last_of job = job.slices + 1 == slice_count job.command

-- what a step of a command does: a slice behind which more are to come; the last one of a command that isn't refused,
-- which is kept where it doesn't only read; or a refusal, after which nothing is left of it
abbrev pub DoesStep : World → World → Underway → Type 0
DoesStep old new job =
    ((is_last_of job ≡ false) × (new ≡ with_slice old job))
    ⊎ ((is_last_of job ≡ true) × (refusal_of old.load.items old.warehouse job.command (rows_of old) ≡ None)
    × (new ≡ with_accepted old job))
    ⊎ (new ≡ with_refused old)

-- what an event does
abbrev pub Does : Event → World → World → Type 0
Does (begins client command) old new =
    (old.running ≡ None) × (old.waits ≡ false) × (begin_refusal_of old.warehouse command (rows_of old) ≡ None)
    × (new ≡ record old {
      running = Some (record {
        edition = editions.Second;
        command = command;
        slices = 0;
        client = client;
        stamp = old.known client;
      });
    })
Does steps old new = MatchOption old.running ⊥ (DoesStep old new)
Does takes old new = (old.waits ≡ true) × (new ≡ record old { waits = false })
Does (forks client number) old new =
    (old.open_at number ≡ None)
    × (new ≡ record old {
      known = with_known old.known client old.log;
      open_at = with_open old.open_at number (Some (record { commits = length old.kept; rows = rows_of old }));
    })
Does (forks_from from number) old new =
    IsSome (old.open_at from) × (old.open_at number ≡ None)
    × (new ≡ record old { open_at = with_open old.open_at number (old.open_at from) })
Does (closes number) old new =
    IsSome (old.open_at number) × (new ≡ record old { open_at = with_open old.open_at number None })
Does (looks client) old new = new ≡ record old { known = with_known old.known client old.log }
Does (enters entry) old new =
    (names warehouses_of_commit old.warehouse entry.commit ≡ false) × (entry.stamp ≤ length old.log)
    × (new ≡ record old { log = old.log ++ entry ∷ [] })

-- what a call comes to: its event, or nothing where it is refused
abbrev pub Happens : Event → World → World → Type 0
Happens event old new = (new ≡ old) ⊎ Does event old new

-- one event after another
abbrev pub Runs : List Event → World → World → Type 0
Runs [] old new = new ≡ old
Runs (event ∷ events) old new = (mid : World) × Happens event old mid × Runs events mid new

-- ---- what no schedule breaks

-- a snapshot has the rows after a beginning of what is kept now, and they meet the consistency conditions
pub record IsBeginning (world : World) (taken : Taken) : Type 0 where
  pub within : taken.commits ≤ length world.kept
  pub rows : taken.rows ≡ world_rows world (take taken.commits world.kept)
  pub conditions : MeetsOwnConditions taken.rows

-- the load and the warehouse are those of the first moment, each open snapshot has the rows of a beginning, and the rows
-- after all that is kept meet the consistency conditions 1 to 9 and 12 (TPC-C clause 3.3.2). What is kept are the commits
-- of the warehouse in the serial list, which respects its stamps, and no client knows more than that list
pub record KeepsAll (lists : Lists) (number : ℕ) (world : World) : Type 0 where
  pub load : world.load ≡ lists
  pub warehouse : world.warehouse ≡ number
  pub snapshots : (at : ℕ) (taken : Taken) → world.open_at at ≡ Some taken → IsBeginning world taken
  pub conditions : MeetsOwnConditions (rows_of world)
  pub projection : world.kept ≡ projection_of world.warehouse world.log
  pub stamps : respects_stamps world.log ≡ true
  pub known : (client : ℕ) → world.known client ≤ length world.log

-- ---- the world of a partition

-- a snapshot of a partition, by its number of commits and the bytes of its child: the model has it with the rows that
-- these bytes say, on pages of n bytes
abbrev pub IsTaken : ℕ → Option ℕ → Option (List (List (List ℕ))) → Option Taken → Type 0
IsTaken n commits bytes taken =
    MatchOption commits (taken ≡ None)
    (λ count. IsSomeAnd bytes (λ seen. taken ≡ Some (record { commits = count; rows = tables_of n seen })))

-- a command that runs in a partition
abbrev pub underway : RunningJob → Underway
underway job = record {
  edition = job.edition;
  command = job.command;
  slices = job.slices;
  client = job.pass.client;
  stamp = length job.pass.seen;
}

-- a world is that of a partition, beside a journal with this serial list
pub record IsWorldOf (n : ℕ) (log : Log) (p : PartitionState) (world : World) : Type 0 where
  pub load : world.load ≡ p.load
  pub warehouse : world.warehouse ≡ p.warehouse
  pub log_is : world.log ≡ log
  pub kept : world.kept ≡ p.kept
  pub running : world.running ≡ option_map underway p.running
  pub waits : world.waits ≡ is_some p.finished
  pub snapshots : (number : ℕ)
      → IsTaken n (commits_of p number) (child_bytes p.space number) (world.open_at number)

-- an event happens in a world, and leaves that of a partition beside a journal with this serial list
abbrev pub Leads : ℕ → Event → World → Log → PartitionState → Type 0
Leads n event world log p = (next : World) × Does event world next × IsWorldOf n log p next
