-- A purchase names several warehouses where its home doesn't supply all lines.
use Rattle.std.proofs.Common.{not, sym, ap, ◌∙◌}
use Rattle.hy_commands.proofs.NamedLaws.{several-purchase}
use Rattle.hy_batches.specs.inside.Seen.{purchase_seen}
use Rattle.hy_batches.proofs.seen.SeenPurchase.is_crossing.Goals as goal

pub returns : goal.returns
returns c =
    let order = purchase_seen c.args.self.now in
    ap not c.all_come_from.ensures ∙ sym (several-purchase order.warehouse order.lines)
