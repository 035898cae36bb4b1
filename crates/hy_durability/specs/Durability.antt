-- What the drains of a database give, one behind another, in whatever order its calls are made: in the life that begins with
-- the load, and in each one that begins with what was recovered.
use Rattle.std.specs.Prelude.{◌≡◌, ◌⊎◌, ℕ, suc, true, ◌+◌, ◌≤◌, List, [], ◌∷◌, ◌++◌, drop, length, map, take, IfSome, Result, Ok, Err}
use mathlib.Core.List.{IsPrefix}
use Rattle.hy_schema.specs.declared.refusal.Refusal.{Refusal}
use Rattle.hy_schema.specs.declared.refusal.Refusal.TheVariants as refusals
use Rattle.hy_rows.specs.Tables.{Lists}
use Rattle.hy_commands.specs.declared.edition.Edition.TheVariants as editions
use Rattle.hy_batches.specs.Batches.{Batch}
use Rattle.hy_batches.specs.Grammar.{are_batches}
use Rattle.hy_batches.specs.Logs.{IsLog, Reads}
use Rattle.hy_partition.specs.Jobs.{Log}
use Rattle.hy_partition.specs.Limits.{most_kept}
use Rattle.hy_redo.specs.Calls.{AreCalls, Call, LogState, acknowledged, handed, log_behind}
use Rattle.hy_redo.specs.Disk.{BeginsBehind, MayLeave}
use Rattle.hy_sound.specs.Sound.{IsSoundLog}
pub use Rattle.hy_forks.specs.Logged.{SaySame}
use Rattle.hy_recovery.specs.Recovering.{IsWhyUnrecovered, joined}
use Rattle.hy_schedules.specs.Schedules.{DoesAll, EventOfAll, Place, Whole, drains, place_at, rested_whole}

-- ---- lives

-- a life of a database begins behind these batches of its log: it is at rest behind a serial list that says the same
pub record BeginsLife (lists : Lists) (batches : List Batch) (whole : Whole) : Type 0 where
  pub log : Log
  pub known : ℕ → ℕ
  pub within : (client : ℕ) → known client ≤ length log
  pub same : SaySame lists batches log
  pub rests : whole ≡ rested_whole lists log known

-- no warehouse has kept more commits than a partition may
abbrev pub HasRoom : Whole → Type 0
HasRoom whole = (number : ℕ) → IfSome (place_at whole.places number) (λ p. length p.kept ≤ most_kept)

-- ---- drains

-- a batch: the commits of each warehouse since the last drain, of the second edition
abbrev pub batch_of : List Place → Batch
batch_of places =
    record { edition = editions.Second; lists = map (λ place. drop place.drained place.kept) places }

-- a drain gives a batch, and no other event does
abbrev pub given : EventOfAll → Whole → List Batch
given drains old = batch_of old.places ∷ []
given event old = []

-- what a call comes to, with the batch that it gives; one that is refused changes nothing and gives none
abbrev pub Gives : EventOfAll → Whole → Whole → List Batch → Type 0
Gives event old new batches =
    ((new ≡ old) × (batches ≡ [])) ⊎ (DoesAll event old new × (batches ≡ given event old))

-- one event after another, with the batches that they give
abbrev pub RunsGiving : List EventOfAll → Whole → Whole → List Batch → Type 0
RunsGiving [] old new batches = (new ≡ old) × (batches ≡ [])
RunsGiving (event ∷ events) old new batches =
    (mid : Whole) × (first : List Batch) × (later : List Batch)
    × Gives event old mid first × RunsGiving events mid new later × (batches ≡ first ++ later)

-- the batches of all drains are sound beside the load: their commits of several warehouses agree and have the numbers 1, 2,
-- 3 and so on, and the load refuses none. Each can be told by its bytes, where no warehouse has kept more than it may. Of each
-- warehouse they have, one behind another, what it has kept up to the last drain
pub record AreDurable (lists : Lists) (whole : Whole) (batches : List Batch) : Type 0 where
  pub sound : IsSoundLog lists batches
  pub told : HasRoom whole → are_batches batches ≡ true
  pub joined_are : (place : ℕ) → IfSome (place_at whole.places (suc place)) (λ p. joined batches place ≡ take p.drained p.kept)

-- What a stop left of a log into which a database's drains went. It is read as the first of the batches, at least so
-- many, or memory lacks. These are sound, and where as many commits may be kept as the database had kept, recovery may
-- refuse them with E2 and E1 alone. Of each warehouse they have, one behind another, the first of what it had kept, at
-- least what the batches had that were acknowledged
pub record IsRecoverable (lists : Lists) (whole : Whole) (batches : List Batch) (least : ℕ) (left : List ℕ)
    : Type 0 where
  pub count : ℕ
  pub rest : List ℕ
  pub enough : least ≤ count
  pub whole_batches : IsLog left (take count batches) rest
  pub read : (answer : Result (List Batch) Refusal) → Reads left answer
      → (answer ≡ Ok (take count batches)) ⊎ (answer ≡ Err refusals.NoMemory)
  pub sound : IsSoundLog lists (take count batches)
  pub refused : (n frames most : ℕ) (why : Refusal)
      → ((place : ℕ) → IfSome (place_at whole.places (suc place)) (λ p. length p.kept ≤ most))
      → IsWhyUnrecovered n lists frames (take count batches) most why
      → (why ≡ refusals.NoFrame) ⊎ (why ≡ refusals.NoMemory)
  pub kept : (place : ℕ) → IfSome (place_at whole.places (suc place)) (λ p. IsPrefix (joined (take count batches) place) p.kept)
  pub acknowledged : (place : ℕ) → IsPrefix (joined (take least batches) place) (joined (take count batches) place)

-- ---- one life behind another

-- A life of a log: behind these batches a database began, whose drains were written to it; how the calls ended, what a stop
-- left, and what of it was read
pub record Life : Type 0 where
  pub before : List Batch
  pub events : List EventOfAll
  pub log : LogState
  pub calls : List Call
  pub more : List Call
  pub left : List ℕ
  pub after : List Batch

-- all batches that the log has ever been handed by the end of a life, and those that had been acknowledged when it stopped
abbrev pub all_of : Life → List Batch
all_of life = life.before ++ handed (life.calls ++ life.more)

abbrev pub acknowledged_of : Life → List Batch
acknowledged_of life = take (length life.before + acknowledged life.calls) (all_of life)

-- that life was led on a load
pub record IsLed (lists : Lists) (life : Life) : Type 0 where
  pub old : Whole
  pub new : Whole
  pub begins : BeginsLife lists life.before old
  pub runs : RunsGiving life.events old new (handed (life.calls ++ life.more))
  pub room : HasRoom new
  pub behind : BeginsBehind life.before life.log
  pub are : AreCalls life.log (life.calls ++ life.more)
  pub stop : MayLeave (log_behind life.log life.calls).told (log_behind life.log (life.calls ++ life.more)).told life.left
  pub read : Reads life.left (Ok life.after)

-- lives one behind another, each behind what was read at the end of the one before it
abbrev pub AreLed : Lists → List Batch → List Life → Type 0
AreLed lists before [] = Unit {0}
AreLed lists before (life ∷ lives) = (life.before ≡ before) × IsLed lists life × AreLed lists life.after lives

-- what is read at the end of all of them
abbrev pub last_of : List Batch → List Life → List Batch
last_of before [] = before
last_of before (life ∷ lives) = last_of life.after lives

-- each of them had no batch acknowledged that isn't there at the end
abbrev pub AllAreThere : List Batch → List Life → Type 0
AllAreThere last [] = Unit {0}
AllAreThere last (life ∷ lives) = IsPrefix (acknowledged_of life) last × AllAreThere last lives
