use Rattle.std.proofs.Common.{arith, ap, length}
use Rattle.hy_events.proofs.PartLaws.{few_parts}
use Rattle.hy_events.proofs.lines.Lines.new.Goals as goal

pub invariant_of-result : goal.invariant_of-result
invariant_of-result c =
    omega (arith, few_parts 10 c.args.bytes.now, ap length c.new.ensures, c.well_formed.0.1)
