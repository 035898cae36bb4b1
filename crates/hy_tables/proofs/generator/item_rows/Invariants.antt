use Rattle.std.proofs.Common.{◌≡◌}
use Rattle.hy_tables.specs.Generated.{generated_item, rows_up_to}
use Rattle.hy_tables.proofs.generator.item_rows.Given as goal

abbrev pub invariant-loop-before : goal.invariant-loop-before
invariant-loop-before l = l.rows.items ≡ rows_up_to generated_item l.before
