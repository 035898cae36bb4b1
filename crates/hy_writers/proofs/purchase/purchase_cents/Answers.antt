-- The line at the place adds its cents.
use Rattle.std.proofs.Common.{◌+◌, arith}
use Rattle.hy_commands.specs.NewOrders.{line_cents}
use Rattle.hy_commands.proofs.LineLaws.{folded}
use Rattle.hy_writers.proofs.purchase.purchase_cents.Goals as goal

pub loop-place-preserved : goal.loop-place-preserved
loop-place-preserved c = record {
  cents =
      rw c.line_cents-cents.ensures.cents
      (folded (λ cents line. cents + line_cents c.args.layout.now.load.items line) c.args.lines.now c.loop-place.place
      c.line.result c.line.ensures c.loop-place.cents _ c.loop-place.invariant.cents);
  small = omega (arith, c.line_cents-cents.ensures.small, c.loop-place.invariant.small);
}
