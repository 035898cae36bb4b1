use Rattle.std.proofs.Common.{◌≡◌, ◌++◌}
use Rattle.hy_tables.specs.Generated.{generated_customer, joined_up_to, rows_up_to}
use Rattle.hy_tables.proofs.generator.push_customers.Given as goal

abbrev pub invariant-loop-before : goal.invariant-loop-before
invariant-loop-before l = l.rows.items ≡ l.initial.rows.items ++ joined_up_to (λ district. rows_up_to (generated_customer l.warehouse district) l.customers) l.before
