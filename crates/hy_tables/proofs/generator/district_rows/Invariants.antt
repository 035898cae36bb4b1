use Rattle.std.proofs.Common.{◌≡◌}
use Rattle.hy_tables.specs.Generated.{generated_district, joined_up_to, rows_up_to}
use Rattle.hy_tables.proofs.generator.district_rows.Given as goal

abbrev pub invariant-loop-before : goal.invariant-loop-before
invariant-loop-before l = l.rows.items ≡ joined_up_to (λ warehouse. rows_up_to (generated_district l.customers warehouse) 10) l.before
