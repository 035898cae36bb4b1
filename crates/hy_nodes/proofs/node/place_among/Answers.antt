use Rattle.std.proofs.Common.{◌-◌, arith, sym, ◌∙◌}
use Rattle.hy_nodes.proofs.PlaceLaws.{IsBound-all, IsBound-before}
use Rattle.hy_nodes.proofs.node.place_among.Goals as goal

pub returns-then-is_below : goal.returns-then-is_below
returns-then-is_below c = IsBound-all c.args.key_bytes c.args.page.now c.args.sought.now c.args.count c.requires.rising (c.args.count - 1) (omega (arith, c.requires.some)) (sym c.is_below.ensures ∙ c.if-is_below.true)

pub returns : goal.returns
returns c = IsBound-before c.args.key_bytes c.args.page.now c.args.sought.now c.args.count c.requires.rising (c.args.count - 1) c.lower_bound.result (omega (arith, c.requires.some)) (sym c.is_below.ensures ∙ c.if-is_below.false) c.lower_bound.ensures
