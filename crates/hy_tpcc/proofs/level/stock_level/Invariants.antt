-- The low items of the orders so far.
use Rattle.std.proofs.Common.{◌≤◌}
use Rattle.hy_commands.specs.StockLevels.{is_low}
use Rattle.hy_writers.specs.of_store.Writes.{stored_in}
use Rattle.hy_tpcc.proofs.LevelLaws.{AreLow}
use Rattle.hy_tpcc.proofs.level.stock_level.Given as goal

abbrev pub invariant-loop-order : goal.invariant-loop-order
invariant-loop-order g l = record {
  from : l.initial.order ≤ l.order;
  low : AreLow (is_low l.level.warehouse l.level.threshold (stored_in g.row.N l.space).tables.stock) l.level.district
      l.initial.order l.order (stored_in g.row.N l.space).tables.order_lines l.low.items;
}
