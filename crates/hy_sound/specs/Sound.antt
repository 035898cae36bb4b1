-- Which batches a database can be recovered from: what their lists have to be beside one another, and beside the load.
use Rattle.std.specs.Prelude.{◌≡◌, ℕ, suc, ◌+◌, ◌<◌, Bool, true, is_none, is_some, List, [], ◌∷◌, ◌++◌, filter, length, Result, Ok, Err, slice_index_or}
use Rattle.std.specs.List.{filter_map, list_all, list_any, range_with_len}
use Rattle.hy_rows.specs.Ranges.{is_between}
use Rattle.hy_rows.specs.Tables.{Lists}
use Rattle.hy_schema.specs.declared.refusal.Refusal.{Refusal}
use Rattle.hy_schema.specs.declared.refusal.Refusal.TheVariants as refusals
use Rattle.hy_passes.specs.SerialList.{projection}
use Rattle.hy_commands.specs.declared.command.Command.{Command}
use Rattle.hy_commands.specs.declared.command.Commit.{Commit}
use Rattle.hy_commands.specs.Commands.{command_of, number_of, warehouses_of_commit}
use Rattle.hy_commands.specs.Parts.{database_of, refusal_in}
use Rattle.hy_batches.specs.Batches.{Batch}
use Rattle.hy_batches.specs.Encoding.{log_bytes}

-- ---- the lists of a batch beside one another

-- the list at a place; the first is that of warehouse 1
abbrev pub list_at : List (List Commit) → ℕ → List Commit
list_at lists place = slice_index_or lists place []

-- the commits of several warehouses among some commits
abbrev pub crossings_of : List Commit → List Commit
crossings_of commits = filter (λ commit. is_some (number_of commit)) commits

-- whether a commit names one of so many warehouses
abbrev pub names_one_of : ℕ → Commit → Bool
names_one_of count commit = list_any (is_between 1 count) (warehouses_of_commit commit)

-- the lists of so many warehouses agree on the commits of several: these have the numbers behind those of before, and each
-- list has, in the order of their numbers, those that name its warehouse, and no others
pub record AreInStep (before after count : ℕ) (lists : ℕ → List Commit) : Type 0 where
  pub crossings : List Commit
  pub numbered : filter_map number_of crossings ≡ range_with_len (suc before) (length crossings)
  pub named : list_all (names_one_of count) crossings ≡ true
  pub each : (place : ℕ) → place < count
      → crossings_of (lists place) ≡ projection warehouses_of_commit (suc place) crossings
  pub last : after ≡ before + length crossings

-- ---- beside the load

-- whether the database of a load refuses a command for no reason. What it refuses is known from the load, since no
-- warehouse, district, customer or item ever comes or goes
abbrev pub is_known : Lists → Command → Bool
is_known lists command = is_none (refusal_in (database_of lists) command)

abbrev pub is_replayable : Lists → Commit → Bool
is_replayable lists commit = is_known lists (command_of commit)

abbrev pub are_replayable : Lists → List Commit → Bool
are_replayable lists commits = list_all (is_replayable lists) commits

-- a batch of any edition, with a list for each warehouse of the load, whose commits of several have the numbers between
-- these two
pub record IsSoundBatch (lists : Lists) (before after : ℕ) (batch : Batch) : Type 0 where
  pub count : length batch.lists ≡ length lists.tables.warehouses
  pub in_step : AreInStep before after (length batch.lists) (list_at batch.lists)
  pub replayable : (place : ℕ) → are_replayable lists (list_at batch.lists place) ≡ true

-- ---- logs

-- each batch is sound, and their numbers go on, also from one edition to the next
abbrev pub AreSound : Lists → ℕ → ℕ → List Batch → Type 0
AreSound lists before after [] = after ≡ before
AreSound lists before after (batch ∷ batches) =
    (middle : ℕ) × IsSoundBatch lists before middle batch × AreSound lists middle after batches

-- from the first number on
abbrev pub IsSoundLog : Lists → List Batch → Type 0
IsSoundLog lists batches = (last : ℕ) × AreSound lists 0 last batches

-- the first batch that is none begins at this place of the log
pub record IsFirstUnsound (lists : Lists) (batches : List Batch) (place : ℕ) : Type 0 where
  pub front : List Batch
  pub batch : Batch
  pub rest : List Batch
  pub last : ℕ
  pub batches_are : batches ≡ front ++ batch ∷ rest
  pub sound : AreSound lists 0 last front
  pub unsound : (after : ℕ) → IsSoundBatch lists last after batch → ⊥
  pub place_is : place ≡ length (log_bytes front)

-- what looking answers: that all batches are sound, or the place of the first one that isn't
abbrev pub Looks : Lists → List Batch → Result (Unit {0}) Refusal → Type 0
Looks lists batches (Ok done) = IsSoundLog lists batches
Looks lists batches (Err (refusals.LogMalformed place)) = IsFirstUnsound lists batches place
Looks lists batches (Err why) = ⊥
