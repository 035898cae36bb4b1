use Rattle.std.proofs.Common.{sym, ◌∙◌}
use Rattle.hy_fill.proofs.CountLaws.{keeps-own}
use Rattle.hy_fill.proofs.rows.push_own_row.Goals as goal

pub returns-in_err-push_row-clause-pages : goal.returns-in_err-push_row-clause-pages
returns-in_err-push_row-clause-pages g c =
    keeps-own g.row.N g.R.Row.SEGMENT _ (g.R.Row.is_of c.args.warehouse) c.args.row.now c.args.space.now c.push_row.new.space
    (sym c.belongs_to.ensures ∙ c.if-not-belongs_to.false) c.push_row.ensures.pages

pub returns-clause-pages : goal.returns-clause-pages
returns-clause-pages g c =
    keeps-own g.row.N g.R.Row.SEGMENT _ (g.R.Row.is_of c.args.warehouse) c.args.row.now c.args.space.now c.push_row.new.space
    (sym c.belongs_to.ensures ∙ c.if-not-belongs_to.false) c.push_row.ensures.pages
