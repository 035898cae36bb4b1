use Rattle.std.specs.Prelude.{◌≡◌, ◌++◌, codes}
use Rattle.std.specs.Fmt.{signed_decimal}
use Rattle.std.specs.Io.KnownBytes.{Appends}
use Rattle.std.proofs.Common.{rules, subst, w64}
use Rattle.std.proofs.lemmas.Int.{to_z-of_z}
use Rattle.hy_events.specs.Replies.{customer_text, order_text}
use Rattle.hy_events.proofs.WriterLaws.{appends-last, appends-then, regrouped}
use Rattle.hy_events.proofs.reply.write_reply.Goals as goal

pub returns-in_ok-write_balance-in-OrderStatus-clause-written : goal.returns-in_ok-write_balance-in-OrderStatus-clause-written
returns-in_ok-write_balance-in-OrderStatus-clause-written g c =
    let reply = c.in-OrderStatus in
    let start = g.O.Output.contents c.args.out.now in
    let one = g.O.Output.contents c.write_customer.new.out in
    let two = g.O.Output.contents c.write_balance.new.out in
    let all = g.O.Output.contents c.write_order.new.out in
    let customer = customer_text reply.customer reply.first reply.middle reply.last in
    let balance = codes " balance " ++ signed_decimal reply.balance ++ codes "\n" in
    let printed = rw (to_z-of_z w64 reply.balance (search rules)) at c.in_ok-write_balance-in-OrderStatus.ensures.written in
    let before = appends-then start one two customer balance c.in_ok-write_customer-in-OrderStatus.ensures.written printed in
    let line = customer ++ codes " balance " ++ signed_decimal reply.balance ++ codes "\n" in
    let same : customer ++ balance ≡ line =
    regrouped customer (codes " balance ") (signed_decimal reply.balance) (codes "\n") in
    let written = subst (Appends start two) same before in
    rw reply.is (appends-last c.write_order.result start two all line (order_text reply.order) written c.write_order.ensures.written)
