use Rattle.std.proofs.Common.{ap, ◌∙◌}
use Rattle.std.specs.List.{list_any}
use Rattle.hy_loads.specs.There.{is_customer_by}
use Rattle.hy_loads.proofs.orders.Customers.has.Goals as goal

-- the set has the keys of the customers
pub returns : goal.returns
returns c =
    c.contains.ensures ∙ c.requires.customers c.new.result
    ∙ ap (λ key. list_any (is_customer_by key) c.args.self.now.rows.now) c.new.ensures
