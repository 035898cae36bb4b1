use Rattle.std.proofs.Common.{◌≡◌, map, take}
use Rattle.hy_columns.specs.inside.Items.{items_in}
use Rattle.hy_columns.proofs.items.read_blocks.Given as goal

-- the values of the items in the blocks so far
abbrev pub invariant-loop-block : goal.invariant-loop-block
invariant-loop-block g l =
    map g.C.ItemColumn.value_of l.values.items
    ≡ map g.C.ItemColumn.value_in (items_in l.items (take l.block-index l.blocks))
