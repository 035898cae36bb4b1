use Rattle.std.proofs.Common.{◌≡◌, ◌++◌}
use Rattle.hy_tables.specs.Generated.{generated_district, rows_up_to}
use Rattle.hy_tables.proofs.generator.push_districts.Given as goal

abbrev pub invariant-loop-before : goal.invariant-loop-before
invariant-loop-before l = l.rows.items ≡ l.initial.rows.items ++ rows_up_to (generated_district l.customers l.warehouse) l.before
