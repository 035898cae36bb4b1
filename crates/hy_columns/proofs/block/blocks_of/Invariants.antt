use Rattle.std.proofs.Common.{◌≡◌, take}
use Rattle.std.specs.List.{flat_map}
use Rattle.std.specs.Prelude.{All}
use Rattle.hy_rows.specs.Spelling.{live_rows}
use Rattle.hy_columns.specs.Blocks.{IsBlock, rows_in_block, slots_in}
use Rattle.hy_columns.proofs.block.blocks_of.Given as goal

-- the blocks so far have the slots of the warehouses so far
abbrev pub invariant-loop-place : goal.invariant-loop-place
invariant-loop-place g l = record {
  each : All (IsBlock g.row.N l.scan l.table) l.blocks.items;
  rows : flat_map (rows_in_block g.row.N l.scan l.table) l.blocks.items
      ≡ flat_map live_rows (take l.place (slots_in g.row.N l.scan l.table));
}
