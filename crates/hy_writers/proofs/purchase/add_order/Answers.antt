use Rattle.std.proofs.Common.{◌-◌}
use Rattle.hy_indexes.specs.of_store.Writes.{stored_in}
use Rattle.hy_writers.proofs.PurchaseLaws.{order-added}
use Rattle.hy_writers.proofs.WritesLaws.{on_ok-then, writes-then}
use Rattle.hy_writers.proofs.purchase.add_order.Goals as goal

-- src/purchase.rt:147:1
pub returns-clause-added : goal.returns-clause-added
returns-clause-added g c =
    on_ok-then c.add_waiting.result (λ added. record {
      store = added.store;
      changed = order-added c.args.layout.now.warehouse (c.args.order.now.district - 1) c.in_ok-place.place c.args.order.now
          c.requires.can.begun (stored_in g.row.N c.args.space.now) (stored_in g.row.N c.put_row.new.space)
          (stored_in g.row.N c.push_row.new.space) (stored_in g.row.N c.enter_order.new.space)
          (stored_in g.row.N c.add_waiting.new.space) c.own_district-district.result c.district_after.result c.order_for.result
          c.own_district-district.ensures c.district_after.ensures c.order_for.ensures c.in_ok-place.ensures.place
          c.in_ok-put_row.ensures.put.changed c.in_ok-place.ensures.pushed.changed c.in_ok-enter_order.ensures.entered.changed
          added.changed;
    })
    c.add_waiting.ensures.added

-- src/purchase.rt:147:1
pub returns-clause-writes : goal.returns-clause-writes
returns-clause-writes g c =
    writes-then (writes-then (writes-then c.put_row.ensures.writes c.push_row.ensures.writes) c.enter_order.ensures.writes)
    c.add_waiting.ensures.writes
