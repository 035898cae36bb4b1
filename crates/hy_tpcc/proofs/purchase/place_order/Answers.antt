use Rattle.std.proofs.Common.{lit<, subst}
use Rattle.hy_schema.specs.Loads.{IsLoad}
use Rattle.hy_slices.proofs.GrowingSlices.{number-near}
use Rattle.hy_commands.specs.declared.command.Command.TheVariants as commands
use Rattle.hy_writers.specs.of_store.Writes.{stored_in}
use Rattle.hy_writers.specs.Purchases.{CanAddOrder}
use Rattle.hy_writers.proofs.WritesLaws.{on_ok-then}
use Rattle.hy_tpcc.proofs.PurchaseLaws.{customer-small, head-done, purchase-begun}
use Rattle.hy_tpcc.proofs.SliceLaws.{sound-begun}
use Rattle.hy_tpcc.proofs.purchase.place_order.Goals as goal

pub add_order-requires : goal.add_order-requires
add_order-requires g c =
    let layout = c.args.layout.now in
    let edition = c.requires.done.0 in
    let before = c.requires.done.1 in
    let now = c.requires.done.2 in
    let sound = sound-begun layout edition (commands.NewOrder c.args.order.now) c.args.place before
    (stored_in g.row.N c.args.space.now) now in
    let near = number-near layout.load (subst IsLoad c.load.ensures c.sound.ensures) layout.warehouse
    c.know_places.ensures.warehouse in
    let begun = purchase-begun layout.warehouse c.args.order.now before near now.begun.begun in
    let small = customer-small layout edition c.args.order.now c.args.place before now.begun in
    let can : CanAddOrder layout c.args.order.now (stored_in g.row.N c.args.space.now) =
    record { rows = sound.sound.rows; bounds = sound.bounds; begun = begun; customer = small } in
    (lit< tt, (lit< tt, (c.requires.writable, can)))

pub returns-clause-done : goal.returns-clause-done
returns-clause-done g c =
    on_ok-then c.add_order.result
    (λ added. record {
      store = added.store;
      step = λ edition before now.
          head-done c.args.layout.now edition c.args.order.now c.args.place before (stored_in g.row.N c.args.space.now)
          (stored_in g.row.N c.add_order.new.space) c.know_store.ensures.new_orders added.changed now;
    })
    c.add_order.ensures.added
