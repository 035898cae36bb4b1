use Rattle.std.proofs.Common.{ℕ, List, [], ◌∷◌, sym, ap, ◌∙◌, rules}
use Rattle.hy_page.specs.Bytes.{bytes_of}
use Rattle.hy_rows.specs.Catalogue.{columns_of}
use Rattle.hy_rows.specs.Rows.{order_values, order_with}
use Rattle.hy_rows.specs.declared.catalogue.Table.TheVariants as tables
use Rattle.hy_rows.proofs.ColumnLaws.{append-concat, append-number, append-pushed}
use Rattle.hy_rows.proofs.RowLaws.{length-row_bytes, values_in-row_bytes}
use Rattle.hy_rows.proofs.order.OrderRow.slot.Goals as goal

-- the columns were pushed one after another
pub returns-clause-bytes : goal.returns-clause-bytes
returns-clause-bytes c =
    let row = c.args.self.now in
    let slot : List ℕ = 1 ∷ [] in
    let by_id = append-number 4 row.id c.marked-slot.ensures.bytes c.into.ensures c.push_number.ensures.bytes in
    let by_district = append-number 1 row.district by_id c.into-2.ensures c.push_number-2.ensures.bytes in
    let by_warehouse = append-number 1 row.warehouse by_district c.into-3.ensures c.push_number-3.ensures.bytes in
    let by_customer = append-number 2 row.customer by_warehouse c.into-4.ensures c.push_number-4.ensures.bytes in
    let by_entry_date = append-pushed (bytes_of 8 row.entry_date) by_customer c.push_number-5.ensures.bytes in
    let by_carrier = append-number 1 row.carrier by_entry_date c.into-5.ensures c.push_number-6.ensures.bytes in
    let by_line_count = append-number 1 row.line_count by_carrier c.into-6.ensures c.push_number-7.ensures.bytes in
    let by_all_local = append-number 1 row.all_local by_line_count c.into-7.ensures c.push_number-8.ensures.bytes in
    by_all_local ∙ sym (append-concat slot (bytes_of 4 row.id ∷ bytes_of 1 row.district ∷ bytes_of 1 row.warehouse ∷ bytes_of 2 row.customer ∷ bytes_of 8 row.entry_date ∷ bytes_of 1 row.carrier ∷ bytes_of 1 row.line_count ∷ bytes_of 1 row.all_local ∷ []))

-- each fits its width
pub returns-clause-width : goal.returns-clause-width
returns-clause-width c =
    length-row_bytes (columns_of tables.Order) (order_values c.args.self.now) (search rules, (search rules, (search rules, (search rules, (search rules, (search rules, (search rules, (search rules, tt))))))))

-- so that the bytes say the row
pub returns-clause-reads_back : goal.returns-clause-reads_back
returns-clause-reads_back c =
    ap order_with (values_in-row_bytes (columns_of tables.Order) (order_values c.args.self.now) (search rules, (search rules, (search rules, (search rules, (search rules, (search rules, (search rules, (search rules, tt)))))))))
