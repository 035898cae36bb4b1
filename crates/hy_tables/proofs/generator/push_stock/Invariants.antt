use Rattle.std.proofs.Common.{◌≡◌, ◌++◌}
use Rattle.hy_tables.specs.Generated.{generated_stock, rows_up_to}
use Rattle.hy_tables.proofs.generator.push_stock.Given as goal

abbrev pub invariant-loop-before : goal.invariant-loop-before
invariant-loop-before l = l.rows.items ≡ l.initial.rows.items ++ rows_up_to (generated_stock l.warehouse) l.before
