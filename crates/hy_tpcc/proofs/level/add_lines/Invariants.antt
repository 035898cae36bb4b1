-- The items of the other entries, added to those so far, are all.
use Rattle.std.proofs.Common.{◌≡◌, drop}
use Rattle.hy_commands.specs.StockLevels.{is_low}
use Rattle.hy_writers.specs.of_store.Writes.{stored_in}
use Rattle.hy_tpcc.specs.Levels.{items_named, with_items}
use Rattle.hy_tpcc.proofs.level.add_lines.Given as goal

abbrev pub invariant-loop-entry : goal.invariant-loop-entry
invariant-loop-entry g l =
    with_items (is_low l.level.warehouse l.level.threshold (stored_in g.row.N l.space).tables.stock) l.low.items
    (items_named (stored_in g.row.N l.space).tables.order_lines (drop l.entry-index l.entries))
    ≡ with_items (is_low l.level.warehouse l.level.threshold (stored_in g.row.N l.space).tables.stock) l.initial.low.items
    (items_named (stored_in g.row.N l.space).tables.order_lines l.entries)
