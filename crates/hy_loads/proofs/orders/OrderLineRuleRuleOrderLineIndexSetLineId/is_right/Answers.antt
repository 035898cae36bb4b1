use Rattle.std.proofs.Common.{refl, not, take, ap, sym, ◌∙◌}
use Rattle.std.specs.List.{list_any}
use Rattle.hy_schema.specs.Related.{is_line}
use Rattle.hy_conditions.specs.declared.keys.OrderId.{OrderId}
use Rattle.hy_loads.specs.declared.keys.LineId.{LineId}
use Rattle.hy_loads.specs.Keys.{same_line}
use Rattle.hy_loads.specs.There.{is_line_with}
use Rattle.hy_loads.proofs.KeyLaws.{HasKeys-one_more, decides-new}
use Rattle.hy_loads.proofs.orders.OrderLineRuleRuleOrderLineIndexSetLineId.is_right.Goals as goal

-- the key is new
pub returns-clause-decides : goal.returns-clause-decides
returns-clause-decides c =
    let row = c.args.row.now in
    let before = take c.args._place c.args.self.now.rows.now in
    let own : OrderId → LineId = λ order. record { order = order; number = row.number } in
    let there =
    c.requires.seen (own c.new-order.result)
    ∙ ap (λ order. list_any (is_line_with (own order)) before) c.new-order.ensures in
    decides-new c.in_ok-is_new.is_new (list_any (is_line row.warehouse row.district row.order row.number) before)
    (c.if-not-is_line.ensures.0 refl)
    (λ rest new. (rest.0, new, rest.1, rest.2, rest.3)) (λ right. right.1) (c.in_ok-is_new.ensures.added ∙ ap not there)

-- the set has one key more
pub returns-clause-seen : goal.returns-clause-seen
returns-clause-seen c = λ new.
    let row = c.args.row.now in
    let before = take c.args._place c.args.self.now.rows.now in
    let own : OrderId → LineId = λ order. record { order = order; number = row.number } in
    HasKeys-one_more same_line is_line_with c.args.seen.now c.insert.new.self before row (own c.new-order.result)
    (λ key. ap (λ order. same_line (own order) key) (sym c.new-order.ensures)) c.requires.seen
    c.in_ok-is_new.ensures.updates
