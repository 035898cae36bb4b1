use Rattle.std.proofs.Common.{◌≡◌}
use Rattle.hy_tables.specs.Generated.{by_customer, generated_customer, joined_up_to}
use Rattle.hy_tables.proofs.generator.customer_rows.Given as goal

abbrev pub invariant-loop-before : goal.invariant-loop-before
invariant-loop-before l = l.rows.items ≡ joined_up_to (by_customer generated_customer l.customers) l.before
