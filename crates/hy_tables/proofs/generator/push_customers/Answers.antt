use Rattle.std.proofs.Common.{rules, ◌≡◌, ◌+◌, ◌++◌, ◌∙◌}
use Rattle.hy_tables.specs.Generated.{generated_customer, rows_up_to}
use Rattle.hy_tables.proofs.GeneratedLaws.{joined_up_to-next}
use Rattle.hy_tables.proofs.generator.push_customers.Goals as goal

pub loop-before-preserved : goal.loop-before-preserved
loop-before-preserved c =
    let more : c.push_customers_of.new.rows.items ≡ c.loop-before.rows.items ++ rows_up_to (generated_customer c.args.warehouse (c.loop-before.before + 1)) c.args.customers = search rules in
    more ∙ joined_up_to-next (λ district. rows_up_to (generated_customer c.args.warehouse district) c.args.customers) c.loop-before.before _ _ c.loop-before.invariant
