use Rattle.std.proofs.Common.{arith, lit<, subst}
use Rattle.hy_schema.specs.Loads.{IsLoad}
use Rattle.hy_writers.specs.of_store.Writes.{stored_in}
use Rattle.hy_writers.proofs.WritesLaws.{on_ok-then}
use Rattle.hy_tpcc.proofs.PartLaws.{can-pay_part, home-part, number-small}
use Rattle.hy_tpcc.proofs.parts.pay_at_home.Goals as goal

pub overflow_cast-number : goal.overflow_cast-number
overflow_cast-number g c =
    let small = number-small c.args.layout.now c.args.payment.now c.requires.part
    (subst IsLoad c.load.ensures c.sound.ensures) in
    omega (arith, small, c.number_of-number.ensures)

pub pay_home-requires : goal.pay_home-requires
pay_home-requires g c =
    let can = can-pay_part c.args.layout.now c.args.payment.now c.requires.part
    (subst IsLoad c.load.ensures c.sound.ensures) c.requires.home (stored_in g.row.N c.args.space.now)
    c.requires.sound in
    (lit< tt, (lit< tt, (c.requires.writable, can)))

pub returns-clause-done : goal.returns-clause-done
returns-clause-done g c =
    on_ok-then c.pay_home.result
    (λ paid. record {
      store = paid.store;
      step = λ edition.
          home-part c.args.layout.now c.args.payment.now c.requires.part c.requires.home edition
          (stored_in g.row.N c.args.space.now) (stored_in g.row.N c.pay_home.new.space) c.number_of-number.result
          c.number_of-number.ensures paid.changed c.requires.sound.indexes;
    }) c.pay_home.ensures.paid
