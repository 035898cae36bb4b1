use Rattle.std.proofs.Common.{refl, arith, length}
use Rattle.hy_nodes.proofs.PlaceLaws.{IsSought-at, IsSought-none}
use Rattle.hy_nodes.specs.Nodes.{item_count}
use Rattle.hy_nodes.proofs.node.seek.Goals as goal

pub returns-then-place-count : goal.returns-then-place-count
returns-then-place-count c = IsSought-none (length c.args.sought.now) c.args.page.now c.args.sought.now (item_count c.args.page.now) c.requires.rising refl c.place_of-place.result c.place_of-place.ensures (omega (arith, c.if-place-count.true, c.count-count.ensures.value))

pub returns : goal.returns
returns c = IsSought-at (length c.args.sought.now) c.args.page.now c.args.sought.now (item_count c.args.page.now) c.requires.rising refl c.place_of-place.result c.is_above.result c.place_of-place.ensures (omega (arith, c.place_of-place.ensures.within, c.if-place-count.false, c.count-count.ensures.value)) c.is_above.ensures
