-- A line from the warehouse decides, and one from elsewhere leaves it to the others.
use Rattle.std.proofs.Common.{◌==◌}
use Rattle.std.proofs.lemmas.Bool.{eq-eqb, ne_eqb}
use Rattle.hy_commands.proofs.LineLaws.{any-failed, any-passed}
use Rattle.hy_batches.proofs.seen.SeenLines.any_comes_from.Goals as goal

pub returns-then-line-warehouse : goal.returns-then-line-warehouse
returns-then-line-warehouse c =
    any-passed (λ line. line.supply_warehouse == c.args.warehouse) c.args.self.now c.loop-place.place c.line.result
    c.line.ensures _ c.loop-place.invariant
    (eq-eqb c.line.result.supply_warehouse c.args.warehouse c.if-line-warehouse.true)

pub loop-place-preserved : goal.loop-place-preserved
loop-place-preserved c =
    any-failed (λ line. line.supply_warehouse == c.args.warehouse) c.args.self.now c.loop-place.place c.line.result
    c.line.ensures _ c.loop-place.invariant
    (ne_eqb c.line.result.supply_warehouse c.args.warehouse c.if-line-warehouse.false)
