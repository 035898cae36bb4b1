use Rattle.std.proofs.Common.{◌∙◌, arith, lit<}
use Rattle.hy_writers.specs.of_store.Writes.{stored_in}
use Rattle.hy_tpcc.specs.Deliveries.{noting}
use Rattle.hy_tpcc.proofs.UnderWay.{delivery-answers, noted-length, noted-more}
use Rattle.hy_tpcc.proofs.delivery.deliver.Goals as goal

pub push-requires : goal.push-requires
push-requires g c =
    let now = c.requires.under_way.2 in
    let noted = noted-length c.args.layout.now.warehouse c.args.done c.requires.under_way.1 c.args.delivered.now.items
    now.delivered in
    (lit< tt, omega (arith, noted, c.requires.next))

pub returns-then-done-lt9-clause-under_way : goal.returns-then-done-lt9-clause-under_way
returns-then-done-lt9-clause-under_way g c = record {
  store = c.in_ok-number.ensures.done.store;
  step = λ edition before now. record {
    alone = now.alone;
    slices = c.in_ok-number.ensures.done.step edition before now.slices;
    delivered =
        c.push.ensures.items
        ∙ noted-more c.args.layout.now.warehouse c.args.done c.in_ok-number.number before c.args.delivered.now.items
        now.delivered (c.in_ok-number.ensures.number edition before now.slices);
  };
}

pub returns-clause-under_way : goal.returns-clause-under_way
returns-clause-under_way g c = record {
  store = c.in_ok-number.ensures.done.store;
  step = λ edition before now. record {
    alone = now.alone;
    slices = c.in_ok-number.ensures.done.step edition before now.slices;
    delivered =
        c.push.ensures.items
        ∙ noted-more c.args.layout.now.warehouse c.args.done c.in_ok-number.number before c.args.delivered.now.items
        now.delivered (c.in_ok-number.ensures.number edition before now.slices);
  };
}

pub returns-clause-reply : goal.returns-clause-reply
returns-clause-reply g c = λ edition before now.
    let all = c.push.ensures.items
    ∙ noted-more c.args.layout.now.warehouse c.args.done c.in_ok-number.number before c.args.delivered.now.items
    now.delivered (c.in_ok-number.ensures.number edition before now.slices) in
    delivery-answers (noting c.args.layout.now c.args.place c.args.delivered.now.items) edition c.args.delivery.now c.args.done
    before (stored_in g.row.N c.args.space.now) c.orders_of-orders.result
    (omega (arith, c.requires.next, c.if-done-lt9.false)) now.slices (c.orders_of-orders.ensures ∙ all)
