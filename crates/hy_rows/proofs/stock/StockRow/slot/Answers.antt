use Rattle.std.proofs.Common.{ℕ, List, [], ◌∷◌, sym, ap, ◌∙◌, rules}
use Rattle.hy_page.specs.Bytes.{bytes_of}
use Rattle.hy_rows.specs.Catalogue.{columns_of}
use Rattle.hy_rows.specs.Rows.{stock_values, stock_with}
use Rattle.hy_rows.specs.declared.catalogue.Table.TheVariants as tables
use Rattle.hy_rows.proofs.ColumnLaws.{append-concat, append-number, append-pushed}
use Rattle.hy_rows.proofs.RowLaws.{length-row_bytes, values_in-row_bytes}
use Rattle.hy_rows.proofs.stock.StockRow.slot.Goals as goal

-- the columns were pushed one after another
pub returns-clause-bytes : goal.returns-clause-bytes
returns-clause-bytes c =
    let row = c.args.self.now in
    let slot : List ℕ = 1 ∷ [] in
    let by_item = append-number 4 row.item c.marked-slot.ensures.bytes c.into.ensures c.push_number.ensures.bytes in
    let by_warehouse = append-number 1 row.warehouse by_item c.into-2.ensures c.push_number-2.ensures.bytes in
    let by_quantity = append-number 2 row.quantity by_warehouse c.into-3.ensures c.push_number-3.ensures.bytes in
    let by_ytd = append-pushed (bytes_of 8 row.ytd) by_quantity c.push_number-4.ensures.bytes in
    let by_order_count = append-pushed (bytes_of 8 row.order_count) by_ytd c.push_number-5.ensures.bytes in
    let by_remote_count = append-pushed (bytes_of 8 row.remote_count) by_order_count c.push_number-6.ensures.bytes in
    by_remote_count ∙ sym (append-concat slot (bytes_of 4 row.item ∷ bytes_of 1 row.warehouse ∷ bytes_of 2 row.quantity ∷ bytes_of 8 row.ytd ∷ bytes_of 8 row.order_count ∷ bytes_of 8 row.remote_count ∷ []))

-- each fits its width
pub returns-clause-width : goal.returns-clause-width
returns-clause-width c =
    length-row_bytes (columns_of tables.Stock) (stock_values c.args.self.now) (search rules, (search rules, (search rules, (search rules, (search rules, (search rules, tt))))))

-- so that the bytes say the row
pub returns-clause-reads_back : goal.returns-clause-reads_back
returns-clause-reads_back c =
    ap stock_with (values_in-row_bytes (columns_of tables.Stock) (stock_values c.args.self.now) (search rules, (search rules, (search rules, (search rules, (search rules, (search rules, tt)))))))
