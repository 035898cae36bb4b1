use Rattle.std.proofs.Common.{◌≡◌, ◌++◌}
use Rattle.hy_tables.specs.Generated.{generated_customer, rows_up_to}
use Rattle.hy_tables.proofs.generator.push_customers_of.Given as goal

abbrev pub invariant-loop-before : goal.invariant-loop-before
invariant-loop-before l = l.rows.items ≡ l.initial.rows.items ++ rows_up_to (generated_customer l.warehouse l.district) l.before
