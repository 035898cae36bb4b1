use Rattle.std.proofs.Common.{refl, not, take, ap, ◌∙◌}
use Rattle.std.specs.List.{list_any}
use Rattle.hy_schema.specs.Related.{is_new_order}
use Rattle.hy_loads.specs.There.{is_new_order_with}
use Rattle.hy_loads.proofs.KeyLaws.{decides-new}
use Rattle.hy_loads.proofs.orders.NewOrderRuleRuleNewOrderIndexSetOrderId.is_right.Goals as goal

-- the key is new
pub returns-clause-decides : goal.returns-clause-decides
returns-clause-decides c =
    let row = c.args.row.now in
    let before = take c.args._place c.args.self.now.rows.now in
    let there = c.requires.seen c.new.result ∙ ap (λ key. list_any (is_new_order_with key) before) c.new.ensures in
    decides-new c.in_ok-is_new.is_new (list_any (is_new_order row.warehouse row.district row.order) before) (c.if-not-is_new_order_of.ensures.0 refl)
    (λ rest new. (rest.0, new, rest.1)) (λ right. right.1) (c.in_ok-is_new.ensures.added ∙ ap not there)
