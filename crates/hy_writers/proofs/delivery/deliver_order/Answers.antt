use Rattle.std.proofs.Common.{◌≡◌, ◌<◌, ◌∙◌, ◌*◌, List, ap, length, lit<, of_z, rules, subst, sym, to_z, w64}
use Rattle.std.specs.Prelude.{All}
use Rattle.std.proofs.lemmas.Int.{to_z-of_z}
use Rattle.hy_rows.specs.declared.customer.Customer.{Customer}
use Rattle.hy_rows.specs.declared.order.Order.{Order}
use Rattle.hy_commands.specs.Growth.{IsCustomerUpTo}
use Rattle.hy_indexes.specs.of_store.Stored.{Stored}
use Rattle.hy_indexes.specs.of_store.Writes.{stored_in}
use Rattle.hy_writers.specs.Deliveries.{with_delivery}
use Rattle.hy_writers.specs.Limits.{most_applied}
use Rattle.hy_writers.proofs.DeliverLaws.{cents-still, customers-still, delivered-store, lines-still, order-district, order-is, order-only, put-taken}
use Rattle.hy_writers.proofs.FindLaws.{within-at}
use Rattle.hy_writers.proofs.WritesLaws.{on_ok-then, writes-then}
use Rattle.hy_writers.proofs.delivery.deliver_order.Goals as goal

pub deliver_order_lines-requires : goal.deliver_order_lines-requires
deliver_order_lines-requires g c =
    let s : Stored = stored_in g.row.N c.args.space.now in
    let order = c.row_at-order.result in
    let place = c.order_place-place.result in
    let waiting = c.args.waiting.now in
    let is = put-taken s (stored_in g.row.N c.take_waiting.new.space) (stored_in g.row.N c.put_row.new.space) waiting place
    c.order_after.result c.in_ok-take_waiting.ensures.taken.changed c.in_ok-put_row.ensures.put.changed in (
      lit< tt,
      (
        lit< tt,
        (
          record { store = c.in_ok-put_row.ensures.put.store; undo_log = c.put_row.ensures.writes.undoes.undo_log },
          (
            lines-still c.args.layout.now s waiting c.requires.sound c.requires.waiting c.know_store.ensures.new_orders
                c.know_entries.ensures place order c.order_place-place.ensures.found c.row_at-order.ensures
                (stored_in g.row.N c.put_row.new.space) c.order_after.result is,
            order-district c.args.layout.now s waiting c.requires.sound c.requires.waiting c.know_store.ensures.new_orders
                c.know_entries.ensures place order c.order_place-place.ensures.found c.row_at-order.ensures,
          ),
        ),
      ),
    )

pub charge-requires : goal.charge-requires
charge-requires g c =
    let s : Stored = stored_in g.row.N c.args.space.now in
    let order = c.row_at-order.result in
    let place = c.order_place-place.result in
    let waiting = c.args.waiting.now in
    let layout = c.args.layout.now in
    let mid : Stored = stored_in g.row.N c.put_row.new.space in
    let after : Stored = stored_in g.row.N c.deliver_order_lines.new.space in
    let is = put-taken s (stored_in g.row.N c.take_waiting.new.space) mid waiting place c.order_after.result
    c.in_ok-take_waiting.ensures.taken.changed c.in_ok-put_row.ensures.put.changed in
    let customers : after.tables.customers ≡ s.tables.customers =
    customers-still layout s waiting c.requires.sound c.requires.waiting c.know_store.ensures.new_orders
    c.know_entries.ensures place order c.order_place-place.ensures.found c.row_at-order.ensures mid c.order_after.result is
    after _ c.in_ok-cents.ensures.delivered.changed in
    let kept : to_z w64 (of_z w64 c.in_ok-cents.cents) ≡ c.in_ok-cents.cents =
    to_z-of_z w64 c.in_ok-cents.cents (search rules) in
    let within = cents-still layout s waiting c.requires.sound c.requires.waiting c.know_store.ensures.new_orders
    c.know_entries.ensures place order c.order_place-place.ensures.found c.row_at-order.ensures mid
    c.order_after.result is (to_z w64 (of_z w64 c.in_ok-cents.cents)) (kept ∙ c.in_ok-cents.ensures.cents) in
    let there = subst (λ (rows : List Customer). c.buyer_place-customer.result < length rows) (sym customers)
    (within-at s.tables.customers c.buyer_place-customer.result c.buyer_place-customer.ensures.row
    c.buyer_place-customer.ensures.here) in
    let bounds = subst (All (IsCustomerUpTo most_applied (10 * most_applied))) (sym customers)
    c.requires.sound.bounds.customers in (
      lit< tt,
      (
        lit< tt,
        (
          record {
            store = c.in_ok-cents.ensures.delivered.store;
            undo_log = c.deliver_order_lines.ensures.writes.undoes.undo_log;
          },
          (there, (bounds, within)),
        ),
      ),
    )

pub returns-clause-delivered : goal.returns-clause-delivered
returns-clause-delivered g c =
    let s : Stored = stored_in g.row.N c.args.space.now in
    let order = c.row_at-order.result in
    let place = c.order_place-place.result in
    let waiting = c.args.waiting.now in
    let layout = c.args.layout.now in
    let delivery = c.args.delivery.now in
    let mid : Stored = stored_in g.row.N c.put_row.new.space in
    let after : Stored = stored_in g.row.N c.deliver_order_lines.new.space in
    let last : Stored = stored_in g.row.N c.charge.new.space in
    let kept : to_z w64 (of_z w64 c.in_ok-cents.cents) ≡ c.in_ok-cents.cents =
    to_z-of_z w64 c.in_ok-cents.cents (search rules) in
    let named = order-is layout.warehouse place s waiting order
    (order-only layout s waiting c.requires.sound c.requires.waiting c.know_store.ensures.new_orders
    c.know_entries.ensures place order c.order_place-place.ensures.found c.row_at-order.ensures) in
    on_ok-then c.charge.result (λ charged. record {
      store = charged.store;
      changed = delivered-store layout s waiting c.requires.sound c.requires.waiting c.know_store.ensures.new_orders
          c.know_entries.ensures place order c.order_place-place.ensures.found c.row_at-order.ensures delivery
          c.buyer_place-customer.result (to_z w64 (of_z w64 c.in_ok-cents.cents)) (stored_in g.row.N c.take_waiting.new.space)
          mid after last c.order_after.result c.know_entries-2.ensures c.buyer_place-customer.ensures c.order_after.ensures
          (kept ∙ c.in_ok-cents.ensures.cents) c.in_ok-take_waiting.ensures.taken.changed c.in_ok-put_row.ensures.put.changed
          c.in_ok-cents.ensures.delivered.changed charged.step
          ∙ ap (λ (row : Order). with_delivery delivery row waiting.slot s) (sym named);
    })
    c.charge.ensures.charged

pub returns-clause-writes : goal.returns-clause-writes
returns-clause-writes g c =
    writes-then (writes-then (writes-then c.take_waiting.ensures.writes c.put_row.ensures.writes)
    c.deliver_order_lines.ensures.writes) c.charge.ensures.writes
