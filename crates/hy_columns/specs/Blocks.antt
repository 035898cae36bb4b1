-- Blocks: slots of a table in one warehouse.
use Rattle.std.specs.Prelude.{ℕ, ◌+◌, ◌<◌, ◌≤◌, List, [], ◌∷◌, Option, None, Some, drop, length, map, take}
use Rattle.hy_rows.specs.Catalogue.{columns_of, definition_of}
use Rattle.hy_rows.specs.Columns.{row_width, values_in}
use Rattle.hy_rows.specs.Rows.{item_values}
use Rattle.hy_rows.specs.Spelling.{list_at, live_rows, slots_of}
use Rattle.hy_rows.specs.declared.catalogue.Table.{Table}
use Rattle.hy_query.specs.Rows.{Row}
use Rattle.hy_columns.specs.Scans.{ScanState}
use Rattle.hy_columns.specs.declared.block.Block.{Block}

-- the used slots of a table on the pages of its segment, warehouse by warehouse: in each the row, as its values, or none
-- where it was erased. Those of a table that lies on no pages are the items
abbrev pub slots_by : Option ℕ → ℕ → ScanState → Table → List (List (Option Row))
slots_by None n scan table = map (λ item. Some (item_values item)) scan.items ∷ []
slots_by (Some segment) n scan table =
    map (λ bytes. slots_of n (row_width (columns_of table)) (values_in (columns_of table)) (list_at bytes segment)) scan.pages

abbrev pub slots_in : ℕ → ScanState → Table → List (List (Option Row))
slots_in n scan table = slots_by (definition_of table).segment n scan table

-- the rows in the slots of a block, of these slots
abbrev pub rows_among : List (List (Option Row)) → Block → List Row
rows_among slots block = live_rows (take block.slots (drop block.first (list_at slots block.warehouse)))

-- a block of these slots
pub record IsAmong (slots : List (List (Option Row))) (block : Block) : Type 0 where
  pub there : block.warehouse < length slots
  pub within : block.first + block.slots ≤ length (list_at slots block.warehouse)

-- the rows in a block of a table, and what is one
abbrev pub rows_in_block : ℕ → ScanState → Table → Block → List Row
rows_in_block n scan table = rows_among (slots_in n scan table)

abbrev pub IsBlock : ℕ → ScanState → Table → Block → Type 0
IsBlock n scan table = IsAmong (slots_in n scan table)
