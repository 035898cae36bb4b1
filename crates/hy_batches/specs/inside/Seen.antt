-- What a command is that was read without memory.
use Rattle.hy_commands.specs.declared.command.Payment.{Payment}
use Rattle.hy_commands.specs.declared.command.Purchase.{Purchase}
use Rattle.hy_commands.specs.declared.command.Who.{Who}
use Rattle.hy_commands.specs.declared.command.Who.TheVariants as who
use Rattle.hy_batches.specs.declared.seen.SeenPayment.{SeenPayment}
use Rattle.hy_batches.specs.declared.seen.SeenPurchase.{SeenPurchase}
use Rattle.hy_batches.specs.declared.seen.SeenWho.{SeenWho}
use Rattle.hy_batches.specs.declared.seen.SeenWho.TheVariants as seen_who

abbrev pub who_seen : SeenWho → Who
who_seen (seen_who.Number number) = who.Number number
who_seen (seen_who.Last name) = who.Last name.now

abbrev pub purchase_seen : SeenPurchase → Purchase
purchase_seen order = record {
  warehouse = order.warehouse;
  district = order.district;
  customer = order.customer;
  at = order.at;
  lines = order.lines;
}

abbrev pub payment_seen : SeenPayment → Payment
payment_seen payment = record {
  warehouse = payment.warehouse;
  district = payment.district;
  customer_warehouse = payment.customer_warehouse;
  customer_district = payment.customer_district;
  who = who_seen payment.who;
  amount = payment.amount;
  at = payment.at;
}
