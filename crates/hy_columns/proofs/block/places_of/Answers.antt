use Rattle.std.proofs.Common.{sym, ◌∙◌}
use Rattle.hy_columns.proofs.TableLaws.{length-items, length-slots}
use Rattle.hy_columns.proofs.block.places_of.Goals as goal

pub returns-in-Some : goal.returns-in-Some
returns-in-Some g c =
    c.len.ensures.len ∙ sym (length-slots g.row.N c.args.scan.now c.args.table c.in-Some._segment (sym c.in-Some.ensures))

pub returns-in-None : goal.returns-in-None
returns-in-None g c = sym (length-items g.row.N c.args.scan.now c.args.table (sym c.in-None.ensures))
