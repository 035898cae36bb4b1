use Rattle.std.proofs.Common.{ap, rules, w64}
use Rattle.std.proofs.lemmas.Int.{to_z-of_z}
use Rattle.hy_rows.specs.declared.value.Value.TheVariants.{Text, Whole}
use Rattle.hy_rows.proofs.RecordLaws.{and_known, and_then, at_last_known}
use Rattle.hy_rows.proofs.customer.CustomerRecord.put.Goals as goal

-- the values were given one after another
pub returns : goal.returns
returns g c =
    let after = g.S.ValueSink.after in
    let row = c.args.self.now in
    let balance = ap Whole (to_z-of_z w64 row.balance (search rules)) in
    let ytd_payment = ap Whole (to_z-of_z w64 row.ytd_payment (search rules)) in
    let by_id = c.in_ok-u16.ensures in
    let by_district = and_then after c.in_ok-u8.ensures by_id in
    let by_warehouse = and_then after c.in_ok-u8-2.ensures by_district in
    let by_first = and_known after c.in_ok-text.ensures (ap Text c.as_bytes.ensures.bytes) by_warehouse in
    let by_middle = and_known after c.in_ok-text-2.ensures (ap Text c.as_bytes-2.ensures.bytes) by_first in
    let by_last = and_known after c.in_ok-text-3.ensures (ap Text c.as_bytes-3.ensures.bytes) by_middle in
    let by_credit = and_known after c.in_ok-text-4.ensures (ap Text c.as_bytes-4.ensures.bytes) by_last in
    let by_discount = and_then after c.in_ok-u16-2.ensures by_credit in
    let by_balance = and_known after c.in_ok-i64.ensures balance by_discount in
    let by_ytd_payment = and_known after c.in_ok-i64-2.ensures ytd_payment by_balance in
    let by_payment_count = and_then after c.in_ok-u64.ensures by_ytd_payment in
    let by_delivery_count = and_then after c.in_ok-u64-2.ensures by_payment_count in
    at_last_known after _ _ _ _ _ _ c.text-5.result c.text-5.ensures (ap Text c.as_bytes-5.ensures.bytes) by_delivery_count
