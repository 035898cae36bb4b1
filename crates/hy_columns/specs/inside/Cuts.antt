-- Slots that are cut into blocks.
use Rattle.std.specs.Prelude.{◌≡◌, ℕ, All, List, ◌++◌, Option, take}
use Rattle.std.specs.List.{flat_map}
use Rattle.hy_rows.specs.Spelling.{list_at, live_rows}
use Rattle.hy_query.specs.Rows.{Row}
use Rattle.hy_columns.specs.Blocks.{IsAmong, rows_among}
use Rattle.hy_columns.specs.declared.block.Block.{Block}

-- the slots of a table, warehouse by warehouse
abbrev pub Slots : Type 0
Slots = List (List (Option Row))

-- blocks are added that have the rows in the first slots of a warehouse, so many
pub record Adds (slots : Slots) (warehouse count : ℕ) (old new : List Block) : Type 0 where
  pub rows : flat_map (rows_among slots) new
      ≡ flat_map (rows_among slots) old ++ live_rows (take count (list_at slots warehouse))
  pub each : All (IsAmong slots) old → All (IsAmong slots) new
