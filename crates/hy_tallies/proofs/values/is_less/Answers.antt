use Rattle.std.proofs.Common.{◌∙◌, ap, sym}
use Rattle.std.specs.Ordering.{is_lt}
use Rattle.hy_tallies.proofs.OrderLaws.{is_less-order}
use Rattle.hy_tallies.proofs.values.is_less.Goals as goal

pub returns : goal.returns
returns c = c.is_lt.ensures ∙ ap is_lt c.order_of.ensures ∙ sym (is_less-order c.args.one.now c.args.other.now)
