use Rattle.std.proofs.Common.{lit<, length, slice_get, subst, sym, ap, arith}
use Rattle.hy_indexes.specs.Finds.{IsIndexOf}
use Rattle.hy_indexes.specs.Indexes.{buyer_key_at}
use Rattle.hy_indexes.specs.of_store.Stored.{last_order_index}
use Rattle.hy_indexes.specs.of_store.Writes.{stored_in}
use Rattle.hy_layout.specs.Layout.{own_rows}
use Rattle.hy_fill.proofs.CountLaws.{stays-within}
use Rattle.hy_fill.proofs.last_orders.fill_last_orders.Goals as goal

pub give_orders-requires : goal.give_orders-requires
give_orders-requires g c = (
  lit< tt,
  (
    lit< tt,
    (
      c.requires.writable,
      (
        subst (IsIndexOf buyer_key_at (slice_get (stored_in g.row.N c.args.space.now).tables.orders)) (sym c.as_slice.ensures.value)
            (subst (λ orders. IsIndexOf buyer_key_at (slice_get orders) c.in_ok-entries.entries.items) (sym c.requires.orders)
            c.in_ok-entries.ensures.index),
        c.requires.empty,
      ),
    ),
  ),
)

pub returns-clause-pages : goal.returns-clause-pages
returns-clause-pages g c =
    stays-within g.row.N last_order_index (length c.as_slice.result.now) (own_rows c.args.layout.now) c.args.space.now
    c.give_orders.new.space
    (omega (arith, ap length c.as_slice.ensures.value, c.in_ok-entries.ensures.count)) c.give_orders.ensures.pages
