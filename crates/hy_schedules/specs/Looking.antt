-- A command over several warehouses while other clients look. A look is one load of the shared word, by a client that holds
-- no lock: it may fall between the commits that such a command adds to the serial list, and tells its client those that
-- are there by then.
use Rattle.std.specs.Prelude.{◌≡◌, ◌⊎◌, ℕ, ◌+◌, List, [], ◌∷◌, ◌++◌}
use Rattle.hy_passes.specs.Worlds.{PassState}
use Rattle.hy_rows.specs.Tables.{Lists}
use Rattle.hy_commands.specs.declared.command.Command.{Command}
use Rattle.hy_commands.specs.declared.command.Commit.{Commit}
use Rattle.hy_forks.specs.of_partition.Jobs.{DoneState, JobState, Log}
use Rattle.hy_forks.specs.of_partition.Partition.{PartitionState}
use Rattle.hy_forks.specs.of_crossing.Crossings.{AcceptsAll, EndsJob, IfNamed, RefusesAll, TellsNamed}
use Rattle.hy_forks.specs.of_crossing.Lists.{InTurn}
use Rattle.hy_schedules.specs.Schedules.{LooksAmid}

-- a client's pass that looked at a serial list: it has seen all of that, and one look more is counted
abbrev pub looked : PassState Commit → Log → PassState Commit
looked pass log = record pass { seen = log; looks = pass.looks + 1 }

-- a client looks by its pass, which is one of those that are held
pub record LooksOnce (client : ℕ) (log : Log) (held now : List (PassState Commit)) : Type 0 where
  pub front : List (PassState Commit)
  pub pass : PassState Commit
  pub rest : List (PassState Commit)
  pub held_are : held ≡ front ++ pass ∷ rest
  pub client_is : pass.client ≡ client
  pub now_are : now ≡ front ++ looked pass log ∷ rest

-- some clients do, one after another
abbrev pub LookInTurn : List ℕ → Log → List (PassState Commit) → List (PassState Commit) → Type 0
LookInTurn [] log held now = now ≡ held
LookInTurn (client ∷ clients) log held now =
    (mid : List (PassState Commit)) × LooksOnce client log held mid × LookInTurn clients log mid now

-- the serial list at a moment, and the passes that clients hold then
pub record Moment : Type 0 where
  pub log : Log
  pub held : List (PassState Commit)

-- clients look, and then the job that ran in a partition has come to its end, where the command names its warehouse; another
-- partition stays
abbrev pub EndsLooking : Command → LooksAmid → ℕ → Moment → Moment → PartitionState → PartitionState → Type 0
EndsLooking command amid number before after old new =
    IfNamed command number
    (EndsJob before.log after.log old new × LookInTurn (amid.before_end number) before.log before.held after.held)
    ((new ≡ old) × (after ≡ before))

-- what a command over several warehouses does (`Crosses` of hy_crossing), with the looks that fall within it
pub record CrossesLooking (lists : Lists) (job : JobState) (amid : LooksAmid) (before after : Moment)
    (old new : List PartitionState) (answer : DoneState) : Type 0 where
  pub last : Moment
  pub ended : List PartitionState
  pub middle : List PartitionState
  pub ready : List (PassState Commit)
  pub ends : InTurn (EndsLooking job.command amid) 1 before last old ended
  pub tells : TellsNamed job.command last.log ended middle
  pub looks_before : LookInTurn amid.before_commit last.log last.held ready
  pub does : AcceptsAll lists job last.log after.log middle new answer
      ⊎ RefusesAll lists job last.log after.log middle new answer
  pub looks_behind : LookInTurn amid.behind after.log ready after.held
