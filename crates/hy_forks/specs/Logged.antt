-- What the batches of a log and the serial list have in common.
use Rattle.std.specs.Prelude.{◌≡◌, true, ℕ, suc, ◌<◌, List, length}
use Rattle.std.specs.List.{flat_map}
use Rattle.hy_rows.specs.Tables.{Lists}
use Rattle.hy_passes.specs.SerialList.{IsSerial, numbers_of}
use Rattle.hy_commands.specs.declared.command.Commit.{Commit}
use Rattle.hy_commands.specs.Commands.{number_of, warehouses_of_commit}
use Rattle.hy_batches.specs.Batches.{Batch}
use Rattle.hy_batches.specs.Grammar.{are_batches}
use Rattle.hy_crossing.specs.of_partition.Jobs.{Log}
use Rattle.hy_crossing.specs.of_partition.Partition.{projection_of}
use Rattle.hy_crossing.specs.Crossings.{next_number}
use Rattle.hy_sound.specs.Sound.{AreSound, list_at}

-- the lists at a place of all batches, one behind another
abbrev pub joined : List Batch → ℕ → List Commit
joined batches place = flat_map (λ batch. list_at batch.lists place) batches

-- how many commits of several warehouses a serial list has
abbrev pub crossings_in : Log → ℕ
crossings_in log = length (numbers_of warehouses_of_commit number_of log)

-- the numbers of commits of several warehouses go on behind those of the batches
abbrev pub GoesOn : Lists → List Batch → Log → Type 0
GoesOn lists batches log = (last : ℕ) × AreSound lists 0 last batches × (next_number log ≡ suc last)

-- the whole batches of a log and a serial list say the same: both are in order, and of each warehouse they have the same
-- commits
pub record SaySame (lists : Lists) (batches : List Batch) (log : Log) : Type 0 where
  pub serial : IsSerial warehouses_of_commit number_of (length lists.tables.warehouses) log
  pub told : are_batches batches ≡ true
  pub numbers : GoesOn lists batches log
  pub joined_are : (place : ℕ) → place < length lists.tables.warehouses
      → joined batches place ≡ projection_of (suc place) log
