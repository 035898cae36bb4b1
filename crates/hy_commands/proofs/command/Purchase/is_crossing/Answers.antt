-- A purchase names several warehouses where its home doesn't supply all lines.
use Rattle.std.proofs.Common.{not, sym, ap, ◌∙◌}
use Rattle.hy_commands.proofs.NamedLaws.{several-purchase}
use Rattle.hy_commands.proofs.command.Purchase.is_crossing.Goals as goal

pub returns : goal.returns
returns c =
    ap not c.all_come_from.ensures ∙ sym (several-purchase c.args.self.now.warehouse c.args.self.now.lines)
