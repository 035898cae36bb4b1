-- A purchase names its home and who supplies its lines.
use Rattle.std.proofs.Common.{refl}
use Rattle.std.proofs.lemmas.Bool.{eq-eqb, ne_eqb}
use Rattle.hy_commands.proofs.NamedLaws.{named-purchase}
use Rattle.hy_batches.specs.inside.Seen.{purchase_seen}
use Rattle.hy_batches.proofs.seen.SeenPurchase.names.Goals as goal

pub returns-then-self-warehouse : goal.returns-then-self-warehouse
returns-then-self-warehouse c =
    let order = purchase_seen c.args.self.now in
    let same = eq-eqb order.warehouse c.args.warehouse c.if-self-warehouse.true in
    rw (named-purchase c.args.warehouse order.warehouse order.lines, same) refl

pub returns-else-self-warehouse : goal.returns-else-self-warehouse
returns-else-self-warehouse c =
    let order = purchase_seen c.args.self.now in
    let other = ne_eqb order.warehouse c.args.warehouse c.if-self-warehouse.false in
    rw (named-purchase c.args.warehouse order.warehouse order.lines, other) c.any_comes_from.ensures
