use Rattle.std.proofs.Common.{◌≡◌}
use Rattle.hy_tables.specs.Generated.{generated_warehouse, rows_up_to}
use Rattle.hy_tables.proofs.generator.warehouse_rows.Given as goal

abbrev pub invariant-loop-before : goal.invariant-loop-before
invariant-loop-before l = l.rows.items ≡ rows_up_to (generated_warehouse l.customers) l.before
