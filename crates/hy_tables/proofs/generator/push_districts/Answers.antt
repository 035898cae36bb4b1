use Rattle.std.proofs.Common.{rules, ◌≡◌, ◌+◌, ◌∷◌, [], ◌++◌, ◌∙◌}
use Rattle.hy_tables.specs.Generated.{generated_district}
use Rattle.hy_tables.proofs.GeneratedLaws.{rows_up_to-next}
use Rattle.hy_tables.proofs.generator.push_districts.Goals as goal

pub loop-before-preserved : goal.loop-before-preserved
loop-before-preserved c =
    let more : c.push.new.self.items ≡ c.loop-before.rows.items ++ generated_district c.args.customers c.args.warehouse (c.loop-before.before + 1) ∷ [] = search rules in
    more ∙ rows_up_to-next (generated_district c.args.customers c.args.warehouse) c.loop-before.before _ _ c.loop-before.invariant
