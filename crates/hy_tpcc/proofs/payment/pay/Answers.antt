use Rattle.std.proofs.Common.{◌+◌, lit<, subst, sym}
use Rattle.hy_schema.specs.Loads.{IsLoad}
use Rattle.hy_commands.specs.declared.command.Command.TheVariants as commands
use Rattle.hy_slices.proofs.GrowingSlices.{number-near}
use Rattle.hy_writers.specs.of_store.Writes.{stored_in}
use Rattle.hy_writers.specs.Payments.{CanPayCustomer, CanPayHome}
use Rattle.hy_writers.proofs.FindLaws.{within-at}
use Rattle.hy_tpcc.specs.Executor.{HasDone}
use Rattle.hy_tpcc.proofs.SliceLaws.{can-pay_customer, can-pay_home, home-done, paid-done, reply-paid}
use Rattle.hy_tpcc.proofs.payment.pay.Goals as goal

pub number_at-customer-requires : goal.number_at-customer-requires
number_at-customer-requires g c =
    let s = stored_in g.row.N c.args.space.now in
    let can = can-pay_customer c.args.layout.now c.args.edition c.args.payment.now c.args.place c.args.done c.requires.done.0 s
    c.requires.next c.requires.done.1 in
    (lit< tt, (c.requires.writable.store, within-at s.tables.customers c.args.place can.payer.row can.payer.here))

pub pay_home-requires : goal.pay_home-requires
pay_home-requires g c =
    let load = subst IsLoad c.load.ensures c.sound.ensures in
    let near = number-near c.args.layout.now.load load c.args.layout.now.warehouse c.know_places.ensures.warehouse in
    let can : CanPayHome c.args.layout.now c.args.payment.now (stored_in g.row.N c.args.space.now) =
    can-pay_home c.args.layout.now c.args.edition c.args.payment.now c.args.place c.args.done c.requires.done.0
    (stored_in g.row.N c.args.space.now) near c.requires.next c.requires.done.1 in
    (lit< tt, (lit< tt, (c.requires.writable, can)))

pub pay_customer-requires : goal.pay_customer-requires
pay_customer-requires g c =
    let can : CanPayCustomer c.args.layout.now c.args.payment.now c.args.place (stored_in g.row.N c.args.space.now) =
    can-pay_customer c.args.layout.now c.args.edition c.args.payment.now c.args.place c.args.done c.requires.done.0
    (stored_in g.row.N c.args.space.now) c.requires.next c.requires.done.1 in
    (lit< tt, (lit< tt, (c.requires.writable, can)))

pub returns-in-Ok-pay_customer-clause-done : goal.returns-in-Ok-pay_customer-clause-done
returns-in-Ok-pay_customer-clause-done g c = record {
  store = c.in-Ok-pay_customer.ensures.paid.store;
  step = λ before now.
      paid-done c.args.layout.now c.args.edition c.args.payment.now c.args.place c.args.done before
      (stored_in g.row.N c.args.space.now) (stored_in g.row.N c.pay_customer.new.space) c.requires.next
      c.if-done-eq0.false c.in-Ok-pay_customer.ensures.paid.changed now;
}

pub returns-in-Ok-pay_customer-clause-reply : goal.returns-in-Ok-pay_customer-clause-reply
returns-in-Ok-pay_customer-clause-reply g c = λ before now.
    reply-paid c.args.layout.now c.args.edition c.args.payment.now c.args.place c.args.done before
    (stored_in g.row.N c.args.space.now) c.in-Ok-pay_customer.reply c.requires.next c.if-done-eq0.false
    c.in-Ok-pay_customer.ensures.reply now

pub returns-in-Ok-clause-done : goal.returns-in-Ok-clause-done
returns-in-Ok-clause-done g c =
    let s = stored_in g.row.N c.args.space.now in
    let s1 = stored_in g.row.N c.pay_home.new.space in
    let read = c.number_at-customer.ensures in
    record {
      store = c.in-Ok.ensures.paid.store;
      step = λ before now.
          subst (λ n. HasDone c.args.layout.now c.args.edition (commands.Payment c.args.payment.now) c.args.place n before s
          → HasDone c.args.layout.now c.args.edition (commands.Payment c.args.payment.now) c.args.place (n + 1) before s1)
          (sym c.if-done-eq0.true)
          (home-done c.args.layout.now c.args.edition c.args.payment.now c.args.place c.number_at-customer.result before s s1 read.0
          read.1 read.2 c.in-Ok.ensures.paid.changed) now;
    }
