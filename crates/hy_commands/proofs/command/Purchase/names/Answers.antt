-- A purchase names its home and who supplies its lines.
use Rattle.std.proofs.Common.{refl}
use Rattle.std.proofs.lemmas.Bool.{eq-eqb, ne_eqb}
use Rattle.hy_commands.proofs.NamedLaws.{named-purchase}
use Rattle.hy_commands.proofs.command.Purchase.names.Goals as goal

pub returns-then-self-warehouse : goal.returns-then-self-warehouse
returns-then-self-warehouse c =
    let same = eq-eqb c.args.self.now.warehouse c.args.warehouse c.if-self-warehouse.true in
    rw (named-purchase c.args.warehouse c.args.self.now.warehouse c.args.self.now.lines, same) refl

pub returns-else-self-warehouse : goal.returns-else-self-warehouse
returns-else-self-warehouse c =
    let other = ne_eqb c.args.self.now.warehouse c.args.warehouse c.if-self-warehouse.false in
    rw (named-purchase c.args.warehouse c.args.self.now.warehouse c.args.self.now.lines, other) c.any_comes_from.ensures
