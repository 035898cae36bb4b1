use Rattle.hy_rows.proofs.RecordLaws.{and_then, at_last}
use Rattle.hy_rows.proofs.stock.StockRecord.put.Goals as goal

-- the values were given one after another
pub returns : goal.returns
returns g c =
    let after = g.S.ValueSink.after in
    let by_item = c.in_ok-u32.ensures in
    let by_warehouse = and_then after c.in_ok-u8.ensures by_item in
    let by_quantity = and_then after c.in_ok-u16.ensures by_warehouse in
    let by_ytd = and_then after c.in_ok-u64.ensures by_quantity in
    let by_order_count = and_then after c.in_ok-u64-2.ensures by_ytd in
    at_last after _ _ _ _ _ c.u64-3.result c.u64-3.ensures by_order_count
