use Rattle.std.proofs.Common.{ℕ, ◌==◌, filter, refl}
use Rattle.hy_rows.specs.Tables.{Tables}
use Rattle.hy_rows.specs.declared.new_order.NewOrder.{NewOrder}
use Rattle.hy_indexes.specs.of_store.Stored.{new_order_segment}
use Rattle.hy_indexes.specs.of_store.Writes.{stored_in}
use Rattle.hy_layout.specs.Layout.{own_rows}
use Rattle.hy_fill.proofs.CountLaws.{filled-within, own-passed}
use Rattle.hy_fill.proofs.rows.fill_new_orders.Goals as goal

-- the pages of NEW-ORDER are for the rows that it has at most
pub returns-clause-pages : goal.returns-clause-pages
returns-clause-pages g c =
    let layout = c.args.layout.now in
    let own : Tables = own_rows layout in
    let is_of = λ (number : ℕ) (row : NewOrder). row.warehouse == number in
    filled-within g.row.N new_order_segment own c.args.space.now c.push_new_orders.new.space
    (stored_in g.row.N c.args.space.now).new_order_slots (filter (is_of c.warehouse.result) c.list-rows.result.now)
    own.new_orders
    (own-passed (λ (all : Tables). all.new_orders) is_of (λ number all. refl) layout c.load.result.now c.tables.result.now
    c.warehouse.result c.list-rows.result.now c.load.ensures c.tables.ensures c.warehouse.ensures c.list-rows.ensures)
    c.requires.empty refl c.push_new_orders.ensures.pages
