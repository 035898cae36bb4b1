use Rattle.std.proofs.Common.{rules, ◌≡◌, ◌+◌, ◌∷◌, [], ◌++◌, ◌∙◌}
use Rattle.hy_tables.specs.Generated.{generated_customer}
use Rattle.hy_tables.proofs.GeneratedLaws.{rows_up_to-next}
use Rattle.hy_tables.proofs.generator.push_customers_of.Goals as goal

pub loop-before-preserved : goal.loop-before-preserved
loop-before-preserved c =
    let more : c.push.new.self.items ≡ c.loop-before.rows.items ++ generated_customer c.args.warehouse c.args.district (c.loop-before.before + 1) ∷ [] = search rules in
    more ∙ rows_up_to-next (generated_customer c.args.warehouse c.args.district) c.loop-before.before _ _ c.loop-before.invariant
