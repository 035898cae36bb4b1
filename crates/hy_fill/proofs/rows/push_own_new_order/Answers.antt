use Rattle.std.proofs.Common.{◌==◌, sym, ◌∙◌}
use Rattle.hy_rows.specs.declared.new_order.NewOrder.{NewOrder}
use Rattle.hy_indexes.specs.of_store.Stored.{new_order_segment}
use Rattle.hy_fill.proofs.CountLaws.{keeps-own}
use Rattle.hy_fill.proofs.rows.push_own_new_order.Goals as goal

pub returns-in_err-push_new_order-clause-pages : goal.returns-in_err-push_new_order-clause-pages
returns-in_err-push_new_order-clause-pages g c =
    keeps-own g.row.N new_order_segment _ (λ (row : NewOrder). row.warehouse == c.args.warehouse) c.args.row.now c.args.space.now c.push_new_order.new.space
    (sym c.belongs_to.ensures ∙ c.if-not-belongs_to.false) c.push_new_order.ensures.pages

pub returns-clause-pages : goal.returns-clause-pages
returns-clause-pages g c =
    keeps-own g.row.N new_order_segment _ (λ (row : NewOrder). row.warehouse == c.args.warehouse) c.args.row.now c.args.space.now c.push_new_order.new.space
    (sym c.belongs_to.ensures ∙ c.if-not-belongs_to.false) c.push_new_order.ensures.pages
