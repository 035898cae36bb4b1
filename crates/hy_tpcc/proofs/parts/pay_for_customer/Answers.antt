use Rattle.std.proofs.Common.{◌≡◌, Option, None, Some, unwrap_or, ap, lit<, subst}
use Rattle.hy_commands.specs.declared.command.Command.TheVariants as commands
use Rattle.hy_commands.specs.declared.command.Payment.{Payment}
use Rattle.hy_commands.specs.Commands.{CustomerName, customer_named}
use Rattle.hy_commands.specs.Customers.{customer_meant}
use Rattle.hy_commands.specs.inside.Named.{name_of}
use Rattle.hy_layout.specs.Layout.{IsMeantAt}
use Rattle.hy_writers.specs.of_store.Writes.{stored_in}
use Rattle.hy_writers.proofs.WritesLaws.{if_ok-then, on_ok-then}
use Rattle.hy_tpcc.proofs.PartLaws.{can-pay_own, customer-part, customer-reply, payer-meant}
use Rattle.hy_tpcc.proofs.parts.pay_for_customer.Goals as goal

-- the customer that is lent is the one who pays
lent : (name : CustomerName) (payment : Payment) → Some name ≡ customer_named (commands.Payment payment)
    → name
    ≡ record { warehouse = payment.customer_warehouse; district = payment.customer_district; who = payment.who }
lent name payment named = ap (λ (found : Option CustomerName). unwrap_or found name) named

pub unreachable-requires : goal.unreachable-requires
unreachable-requires g c =
    payer-meant c.args.layout.now c.args.payment.now c.requires.part c.know_places.ensures.warehouse
    c.requires.elsewhere (stored_in g.row.N c.args.space.now).tables c.requires.sound.places
    (subst (λ (name : CustomerName). customer_meant c.args.layout.now.warehouse name.district name.who
    (stored_in g.row.N c.args.space.now).tables.customers ≡ None)
    (lent (name_of c.customer.result) c.args.payment.now c.customer.ensures)
    (c.in_default.ensures (stored_in g.row.N c.args.space.now).tables c.requires.sound.places))

pub pay_customer-requires : goal.pay_customer-requires
pay_customer-requires g c =
    let s = stored_in g.row.N c.args.space.now in
    let can = can-pay_own c.args.layout.now c.args.payment.now c.requires.part c.know_places.ensures.warehouse
    c.requires.elsewhere c.in-Some.place s c.requires.sound (subst (λ (name : CustomerName). IsMeantAt c.args.layout.now.warehouse name.district name.who s.tables.customers
    c.in-Some.place) (lent (name_of c.customer.result) c.args.payment.now c.customer.ensures)
    (c.in-Some.ensures s.tables c.requires.sound.places)) in
    (lit< tt, (lit< tt, (c.requires.writable, can)))

pub returns-clause-done : goal.returns-clause-done
returns-clause-done g c =
    on_ok-then c.pay_customer.result
    (λ paid. record {
      store = paid.store;
      step =
          customer-part c.args.layout.now c.args.payment.now c.requires.part c.know_places.ensures.warehouse
          c.requires.elsewhere c.args.edition (stored_in g.row.N c.args.space.now)
          (stored_in g.row.N c.pay_customer.new.space)
          c.requires.sound paid.changed;
    }) c.pay_customer.ensures.paid

pub returns-clause-reply : goal.returns-clause-reply
returns-clause-reply g c =
    if_ok-then c.pay_customer.result
    (λ reply is. customer-reply c.args.layout.now c.args.payment.now c.requires.part c.know_places.ensures.warehouse
    c.requires.elsewhere c.args.edition (stored_in g.row.N c.args.space.now).tables reply is) c.pay_customer.ensures.reply
