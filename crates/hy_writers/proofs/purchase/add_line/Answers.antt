use Rattle.std.proofs.Common.{◌-◌, ap}
use Rattle.hy_indexes.specs.of_store.Writes.{stored_in}
use Rattle.hy_writers.proofs.PurchaseLaws.{line-added}
use Rattle.hy_writers.proofs.WritesLaws.{on_ok-then, writes-then}
use Rattle.hy_writers.proofs.purchase.add_line.Goals as goal

pub returns-in_err-place-clause-writes : goal.returns-in_err-place-clause-writes
returns-in_err-place-clause-writes g c = writes-then c.sell_line.ensures.writes c.push_row.ensures.writes

pub returns-clause-added : goal.returns-clause-added
returns-clause-added g c =
    on_ok-then c.insert_entry.result (λ inserted. record {
      store = inserted.store;
      changed = line-added c.args.layout.now.load.items c.args.layout.now.warehouse
          (c.args.order.now.district - 1) c.in_ok-place.place (c.own_next_order-number.result - 1) c.args.lines
          c.cents_of-cents.result c.args.order.now c.args.line.now c.args.item.now (stored_in g.row.N c.args.space.now)
          (stored_in g.row.N c.sell_line.new.space) (stored_in g.row.N c.push_row.new.space)
          (stored_in g.row.N c.insert_entry.new.space) c.own_next_order-number.ensures.0 c.line_for-row.result
          c.requires.can.begun.home c.own_next_order-number.ensures.1
          (ap (λ n. n - 1) c.own_next_order-number.ensures.2) c.requires.can.found c.cents_of-cents.ensures.cents
          c.line_for-row.ensures c.in_ok-place.ensures.place
          c.in_ok-sell_line.ensures.sold.changed c.in_ok-place.ensures.pushed.changed inserted.changed;
    }) c.insert_entry.ensures.inserted

pub returns-clause-writes : goal.returns-clause-writes
returns-clause-writes g c =
    writes-then (writes-then c.sell_line.ensures.writes c.push_row.ensures.writes) c.insert_entry.ensures.writes
