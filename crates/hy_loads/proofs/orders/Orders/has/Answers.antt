use Rattle.std.proofs.Common.{ap, ◌∙◌}
use Rattle.std.specs.List.{list_any}
use Rattle.hy_loads.specs.There.{is_order_with}
use Rattle.hy_loads.proofs.orders.Orders.has.Goals as goal

-- the set has the keys of the orders
pub returns : goal.returns
returns c =
    c.contains.ensures ∙ c.requires c.new.result
    ∙ ap (λ key. list_any (is_order_with key) c.args.self.now.rows.now) c.new.ensures
