-- The one history of all warehouses, as whoever has all their partitions and the journal finds it.
use Rattle.std.specs.Prelude.{◌≡◌, ℕ, zero, suc, List, [], length, slice_get, Option, Some, None, IfSome}
use Rattle.hy_passes.specs.Agreement.{Agree}
use Rattle.hy_passes.specs.SerialList.{IsSerial}
use Rattle.hy_commands.specs.declared.command.Commit.{Commit}
use Rattle.hy_commands.specs.Commands.{number_of, warehouses_of_commit}
use Rattle.hy_crossing.specs.of_partition.Jobs.{Log}
use Rattle.hy_crossing.specs.of_partition.Partition.{PartitionState, projection_of}

-- what a partition has kept, if one is there, and what the warehouse with a number has
abbrev pub kept_in : Option PartitionState → List Commit
kept_in None = []
kept_in (Some p) = p.kept

abbrev pub kept_at : List PartitionState → ℕ → List Commit
kept_at parts zero = []
kept_at parts (suc place) = kept_in (slice_get parts place)

-- the serial list names warehouses of the kit, numbers the commits of several of them 1, 2, 3 and so on, and respects
-- its stamps; each kept list is its projection; and the kept lists agree on the commits of several warehouses
pub record IsOneHistory (partitions : ℕ) (log : Log) (parts : List PartitionState) : Type 0 where
  pub serial : IsSerial warehouses_of_commit number_of partitions log
  pub kept : (place : ℕ) → IfSome (slice_get parts place) (λ p. p.kept ≡ projection_of (suc place) log)
  pub agree : Agree warehouses_of_commit number_of (length parts) (kept_at parts)
