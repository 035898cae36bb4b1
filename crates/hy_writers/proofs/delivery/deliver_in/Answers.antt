use Rattle.std.proofs.Common.{◌∙◌, ap, subst, sym}
use Rattle.hy_indexes.specs.of_store.Stored.{Stored}
use Rattle.hy_indexes.specs.of_store.Writes.{stored_in}
use Rattle.hy_indexes.specs.Indexes.{HasIndexes}
use Rattle.hy_writers.specs.Waiting.{order_of_entry}
use Rattle.hy_writers.proofs.DeliverLaws.{delivered-oldest, entry-key}
use Rattle.hy_writers.proofs.KeptIndexLaws.{indexes-delivered}
use Rattle.hy_writers.proofs.delivery.deliver_in.Goals as goal

pub returns-in_ok-deliver_order-in-Some-clause-delivered :
    goal.returns-in_ok-deliver_order-in-Some-clause-delivered
returns-in_ok-deliver_order-in-Some-clause-delivered g c =
    let s : Stored = stored_in g.row.N c.args.space.now in
    let waiting = c.in-Some.ensures.waiting in
    let oldest = c.in-Some.ensures.oldest in
    let order = order_of_entry c.args.layout.now.warehouse s c.in-Some.waiting in
    let delivered = c.in_ok-deliver_order-in-Some.ensures.delivered in
    record {
      store = delivered.store;
      step = record {
        rows =
            ap (λ (t : Stored). t.tables) delivered.changed
            ∙ delivered-oldest c.args.layout.now s c.in-Some.waiting c.requires.sound waiting
            c.know_store.ensures.new_orders c.know_entries.ensures c.args.delivery.now c.args.district
            c.requires.delivery.home oldest.0 oldest.1;
        indexes =
            subst HasIndexes (sym delivered.changed)
            (indexes-delivered c.args.delivery.now order c.in-Some.waiting.slot waiting.row s c.requires.sound.indexes
            c.know_entries-2.ensures waiting.here
            (entry-key c.args.layout.now s c.in-Some.waiting c.requires.sound waiting c.know_store.ensures.new_orders
            c.know_entries.ensures));
      };
    }
