-- The partitions of a load as they are made.
use Rattle.std.specs.Prelude.{◌≡◌, ◌⊎◌, ◌≤◌, ℕ, suc, List, length, slice_get, IfSome}
use Rattle.hy_rows.specs.Tables.{Lists, of_warehouse}
use Rattle.hy_schema.specs.declared.refusal.Refusal.{Refusal}
use Rattle.hy_schema.specs.declared.refusal.Refusal.TheVariants as refusals
use Rattle.hy_partition.specs.Frames.{frames_for}
use Rattle.hy_partition.specs.Partition.{PartitionState}
use Rattle.hy_partition.specs.Steps.{Begins}

-- one for each warehouse, in order, with the loaded rows, nothing kept and no snapshot
pub record AllBegin (lists : Lists) (frames commits : ℕ) (parts : List PartitionState) : Type 0 where
  pub count : length parts ≡ length lists.tables.warehouses
  pub each : (place : ℕ) → IfSome (slice_get parts place) (Begins lists (suc place) frames commits)

-- the rows of some warehouse and their entries take at most as many frames as there may be, or more
pub record SomeIsShort (page_size : ℕ) (lists : Lists) (frames : ℕ) : Type 0 where
  pub number : ℕ
  pub first : 1 ≤ number
  pub last : number ≤ length lists.tables.warehouses
  pub short : frames ≤ frames_for page_size (of_warehouse number lists.tables)

-- why no partitions are made: frames lack for one of them, or memory is refused
abbrev pub IsWhyNoneMade : ℕ → Lists → ℕ → Refusal → Type 0
IsWhyNoneMade page_size lists frames why =
    ((why ≡ refusals.NoFrame) × SomeIsShort page_size lists frames) ⊎ (why ≡ refusals.NoMemory)
