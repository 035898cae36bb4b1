use Rattle.std.proofs.Common.{sym}
use Rattle.hy_indexes.specs.of_store.Stored.{Stored}
use Rattle.hy_indexes.specs.of_store.Writes.{stored_in}
use Rattle.hy_indexes.specs.Indexes.{order_key_at}
use Rattle.hy_indexes.proofs.IndexLaws.{index-finds}
use Rattle.hy_indexes.proofs.KeyOrders.{order-of_orders}
use Rattle.hy_indexes.specs.of_store.Keys.{is_lesser_order}
use Rattle.std.specs.Prelude.{slice_get}
use Rattle.hy_writers.proofs.DeliverLaws.{order-found}
use Rattle.hy_writers.proofs.FindLaws.{within-at}
use Rattle.hy_writers.proofs.delivery.order_place.Goals as goal

pub unreachable-requires : goal.unreachable-requires
unreachable-requires g c =
    order-found c.args.layout.now (stored_in g.row.N c.args.space.now) c.args.waiting.now c.requires.sound c.requires.waiting
    c.know_store.ensures.new_orders c.know_entries.ensures (sym c.in-None.ensures)

pub returns-clause-there : goal.returns-clause-there
returns-clause-there g c =
    let s : Stored = stored_in g.row.N c.args.space.now in
    let finds = index-finds is_lesser_order order-of_orders order_key_at (slice_get s.tables.orders) s.orders
    c.know_entries.ensures c.requires.sound.indexes.orders
    (record { order = c.args.waiting.now.key.order; district = c.args.waiting.now.key.district }) c.in-Some.place
    (sym c.in-Some.ensures) in
    within-at s.tables.orders c.in-Some.place finds.0 finds.1
