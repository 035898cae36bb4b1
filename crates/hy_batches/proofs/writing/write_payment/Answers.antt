use Rattle.std.proofs.Common.{◌∷◌, ◌++◌, append_assoc, subst, sym}
use Rattle.hy_batches.specs.Encoding.{number_bytes, who_bytes}
use Rattle.hy_batches.proofs.NumberLaws.{spread_4, spread_8}
use Rattle.hy_batches.proofs.writing.write_payment.Goals as goal

pub returns : goal.returns
returns g c =
    let takes = g.S.Sink.takes in
    let both = g.met.S.Sink.takes_both in
    let payment = c.args.payment.now in
    let front = 2 ∷ (number_bytes 1 payment.warehouse ++ number_bytes 1 payment.district
    ++ number_bytes 1 payment.customer_warehouse ++ number_bytes 1 payment.customer_district) in
    let amount = number_bytes 4 payment.amount in
    let at = number_bytes 8 payment.at in
    let first : takes c.args.sink.now c.put.new.self front = rw (
      sym c.low-warehouse.ensures,
      sym c.low-district.ensures,
      sym c.low-customer_warehouse.ensures,
      sym c.low-customer_district.ensures,
    ) c.put.ensures in
    let last : takes c.write_who.new.sink c.put-2.new.self (amount ++ at) = rw (
      spread_4 c.low_four.result payment.amount c.low_four.ensures,
      spread_8 c.all_eight.result payment.at c.all_eight.ensures,
    ) c.put-2.ensures in
    subst (takes c.args.sink.now c.put-2.new.self) (sym (append_assoc (front ++ who_bytes payment.who) amount at))
    (both _ _ _ (front ++ who_bytes payment.who) (amount ++ at) (both _ _ _ front (who_bytes payment.who) first c.write_who.ensures) last)
