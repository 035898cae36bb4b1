-- The lines so far and those of the other entries are all.
use Rattle.std.proofs.Common.{◌≡◌, ◌++◌, drop}
use Rattle.hy_writers.specs.of_store.Writes.{stored_in}
use Rattle.hy_tpcc.specs.Lines.{lines_named}
use Rattle.hy_tpcc.proofs.status.read_lines.Given as goal

abbrev pub invariant-loop-entry : goal.invariant-loop-entry
invariant-loop-entry g l =
    l.lines.items ++ lines_named (stored_in g.row.N l.space).tables.order_lines (drop l.entry-index l.entries)
    ≡ lines_named (stored_in g.row.N l.space).tables.order_lines l.entries
