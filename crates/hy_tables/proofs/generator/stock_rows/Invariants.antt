use Rattle.std.proofs.Common.{◌≡◌}
use Rattle.hy_tables.specs.Generated.{generated_stock, joined_up_to, rows_up_to}
use Rattle.hy_tables.proofs.generator.stock_rows.Given as goal

abbrev pub invariant-loop-before : goal.invariant-loop-before
invariant-loop-before l = l.rows.items ≡ joined_up_to (λ warehouse. rows_up_to (generated_stock warehouse) l.items) l.before
