use Rattle.std.proofs.Common.{◌≡◌, ℕ, List, [], ◌∷◌, ◌++◌, sym, ap, ◌∙◌, rules}
use Rattle.hy_page.specs.Bytes.{bytes_of}
use Rattle.hy_rows.specs.Catalogue.{columns_of}
use Rattle.hy_rows.specs.Columns.{signed_bytes}
use Rattle.hy_rows.specs.Rows.{order_line_values, order_line_with}
use Rattle.hy_rows.specs.declared.catalogue.Table.TheVariants as tables
use Rattle.hy_rows.proofs.ColumnLaws.{append-concat, append-number, append-pushed}
use Rattle.hy_rows.proofs.RowLaws.{length-row_bytes, values_in-row_bytes}
use Rattle.hy_rows.proofs.order_line.OrderLineRow.slot.Goals as goal

-- the columns were pushed one after another
pub returns-clause-bytes : goal.returns-clause-bytes
returns-clause-bytes c =
    let row = c.args.self.now in
    let slot : List ℕ = 1 ∷ [] in
    let by_order = append-number 4 row.order c.marked-slot.ensures.bytes c.into.ensures c.push_number.ensures.bytes in
    let by_district = append-number 1 row.district by_order c.into-2.ensures c.push_number-2.ensures.bytes in
    let by_warehouse = append-number 1 row.warehouse by_district c.into-3.ensures c.push_number-3.ensures.bytes in
    let by_number = append-number 1 row.number by_warehouse c.into-4.ensures c.push_number-4.ensures.bytes in
    let by_item = append-number 4 row.item by_number c.into-5.ensures c.push_number-5.ensures.bytes in
    let by_supply_warehouse = append-number 1 row.supply_warehouse by_item c.into-6.ensures c.push_number-6.ensures.bytes in
    let by_delivery_date = append-pushed (bytes_of 8 row.delivery_date) by_supply_warehouse c.push_number-7.ensures.bytes in
    let by_quantity = append-number 1 row.quantity by_delivery_date c.into-7.ensures c.push_number-8.ensures.bytes in
    let amount : c.push_signed.new.out.items ≡ c.push_number-8.new.out.items ++ signed_bytes row.amount = search rules in
    let by_amount = append-pushed (signed_bytes row.amount) by_quantity amount in
    by_amount ∙ sym (append-concat slot (bytes_of 4 row.order ∷ bytes_of 1 row.district ∷ bytes_of 1 row.warehouse ∷ bytes_of 1 row.number ∷ bytes_of 4 row.item ∷ bytes_of 1 row.supply_warehouse ∷ bytes_of 8 row.delivery_date ∷ bytes_of 1 row.quantity ∷ signed_bytes row.amount ∷ []))

-- each fits its width
pub returns-clause-width : goal.returns-clause-width
returns-clause-width c =
    length-row_bytes (columns_of tables.OrderLine) (order_line_values c.args.self.now) (search rules, (search rules, (search rules, (search rules, (search rules, (search rules, (search rules, (search rules, (search rules, tt)))))))))

-- so that the bytes say the row
pub returns-clause-reads_back : goal.returns-clause-reads_back
returns-clause-reads_back c =
    ap order_line_with (values_in-row_bytes (columns_of tables.OrderLine) (order_line_values c.args.self.now) (search rules, (search rules, (search rules, (search rules, (search rules, (search rules, (search rules, (search rules, (search rules, tt))))))))))
