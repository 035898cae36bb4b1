-- The items in blocks.
use Rattle.std.specs.Prelude.{◌+◌, ◌≤◌, List, drop, length, take}
use Rattle.std.specs.List.{flat_map}
use Rattle.hy_rows.specs.declared.item.Item.{Item}
use Rattle.hy_columns.specs.declared.block.Block.{Block}

-- a block's items are there
pub record IsWithin (items : List Item) (block : Block) : Type 0 where
  pub within : block.first + block.slots ≤ length items

-- those of some blocks
abbrev pub items_in : List Item → List Block → List Item
items_in items blocks = flat_map (λ block. take block.slots (drop block.first items)) blocks
