use Rattle.std.proofs.Common.{sym, ◌∙◌}
use Rattle.hy_columns.proofs.TableLaws.{length-all}
use Rattle.hy_columns.proofs.count.count_of.Goals as goal

pub returns-in-Some : goal.returns-in-Some
returns-in-Some g c = c.count_all.ensures ∙ sym (length-all g.row.N c.args.scan.now c.args.table c.in-Some.segment (sym c.in-Some.ensures))
