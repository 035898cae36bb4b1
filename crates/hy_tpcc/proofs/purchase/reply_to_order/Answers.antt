use Rattle.std.proofs.Common.{◌<◌, ◌-◌, ◌∙◌, ap, arith, lit<, subst}
use Rattle.hy_rows.specs.Finding.{is_district}
use Rattle.hy_rows.specs.declared.district.District.{District}
use Rattle.hy_commands.specs.declared.reply.Reply.TheVariants as replies
use Rattle.hy_schema.specs.Loads.{IsLoad}
use Rattle.hy_commands.proofs.ListLaws.{All-find}
use Rattle.hy_slices.proofs.GrowingSlices.{items-fit, number-near}
use Rattle.hy_writers.specs.of_store.Writes.{stored_in}
use Rattle.hy_tpcc.proofs.PurchaseLaws.{can-reply, reply-ordered}
use Rattle.hy_tpcc.proofs.purchase.reply_to_order.Goals as goal

pub own_next_order-number-requires : goal.own_next_order-number-requires
own_next_order-number-requires g c =
    let near = number-near c.args.layout.now.load (subst IsLoad c.load.ensures c.sound.ensures)
    c.args.layout.now.warehouse c.know_places.ensures.warehouse in
    let can = can-reply c.args.layout.now c.requires.done.0 c.args.order.now c.args.place c.requires.done.1
    (stored_in g.row.N c.args.space.now) near c.requires.done.2 in
    (lit< tt, (c.requires.store, (can.rows, can.begun.district)))

pub overflow_sub-number : goal.overflow_sub-number
overflow_sub-number g c =
    let near = number-near c.args.layout.now.load (subst IsLoad c.load.ensures c.sound.ensures)
    c.args.layout.now.warehouse c.know_places.ensures.warehouse in
    let s = stored_in g.row.N c.args.space.now in
    let can = can-reply c.args.layout.now c.requires.done.0 c.args.order.now c.args.place c.requires.done.1 s near c.requires.done.2 in
    let read = c.own_next_order-number.ensures in
    let positive : 0 < (read.0).next_order = All-find (λ (row : District). 0 < row.next_order)
    (is_district c.args.layout.now.warehouse c.args.order.now.district) s.tables.districts
    read.0 can.next (read.1).found in
    omega (arith, positive, read.2)

pub purchase_total-requires : goal.purchase_total-requires
purchase_total-requires g c =
    let near = number-near c.args.layout.now.load (subst IsLoad c.load.ensures c.sound.ensures)
    c.args.layout.now.warehouse c.know_places.ensures.warehouse in
    let can = can-reply c.args.layout.now c.requires.done.0 c.args.order.now c.args.place c.requires.done.1
    (stored_in g.row.N c.args.space.now) near c.requires.done.2 in
    let fit = items-fit c.args.layout.now.load (subst IsLoad c.load.ensures c.sound.ensures) in
    (lit< tt, (c.requires.store, (can.rows, (can.begun, (fit, (can.known, can.buyer))))))

pub returns : goal.returns
returns g c = λ edition before now.
    let read = c.own_next_order-number.ensures in
    ap (λ n. replies.NewOrder (n - 1) c.purchase_total.result) read.2
    ∙ reply-ordered c.args.layout.now edition c.args.order.now c.args.place before (stored_in g.row.N c.args.space.now)
    read.0 c.purchase_total.result read.1 c.purchase_total.ensures now
