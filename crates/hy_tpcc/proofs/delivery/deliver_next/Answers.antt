use Rattle.std.proofs.Common.{lit<, ◌∙◌}
use Rattle.hy_writers.specs.of_store.Writes.{stored_in}
use Rattle.hy_tpcc.proofs.SliceLaws.{delivered-done, delivery-begun, oldest-delivered, sound-delivering}
use Rattle.hy_tpcc.proofs.delivery.deliver_next.Goals as goal

pub deliver_in-requires : goal.deliver_in-requires
deliver_in-requires g c =
    let edition = c.requires.done.0 in
    let before = c.requires.done.1 in
    let now = c.requires.done.2 in
    let layout = c.args.layout.now in (
      lit< tt,
      (
        lit< tt,
        (
          c.requires.writable,
          (
            sound-delivering layout edition c.args.delivery.now c.args.place c.args.done before
                (stored_in g.row.N c.args.space.now) c.requires.next now,
            delivery-begun layout.warehouse c.args.delivery.now before now.begun.begun,
          ),
        ),
      ),
    )

pub returns-clause-done : goal.returns-clause-done
returns-clause-done g c =
    let delivered = c.in_ok-number.ensures.delivered in
    record {
      store = delivered.store;
      step = λ edition before now.
          delivered-done c.args.layout.now edition c.args.delivery.now c.args.place c.args.done before
          (stored_in g.row.N c.args.space.now) (stored_in g.row.N c.deliver_in.new.space) delivered.step.rows
          delivered.step.indexes now;
    }

pub returns-clause-number : goal.returns-clause-number
returns-clause-number g c = λ edition before now.
    c.in_ok-number.ensures.number
    ∙ oldest-delivered c.args.layout.now edition c.args.delivery.now c.args.place c.args.done before
    (stored_in g.row.N c.args.space.now) now
