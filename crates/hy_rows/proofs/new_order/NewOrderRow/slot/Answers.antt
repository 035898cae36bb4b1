use Rattle.std.proofs.Common.{ℕ, List, [], ◌∷◌, sym, ap, ◌∙◌, rules}
use Rattle.hy_page.specs.Bytes.{bytes_of}
use Rattle.hy_rows.specs.Catalogue.{columns_of}
use Rattle.hy_rows.specs.Rows.{new_order_values, new_order_with}
use Rattle.hy_rows.specs.declared.catalogue.Table.TheVariants as tables
use Rattle.hy_rows.proofs.ColumnLaws.{append-concat, append-number}
use Rattle.hy_rows.proofs.RowLaws.{length-row_bytes, values_in-row_bytes}
use Rattle.hy_rows.proofs.new_order.NewOrderRow.slot.Goals as goal

-- the columns were pushed one after another
pub returns-clause-bytes : goal.returns-clause-bytes
returns-clause-bytes c =
    let row = c.args.self.now in
    let slot : List ℕ = 1 ∷ [] in
    let by_order = append-number 4 row.order c.marked-slot.ensures.bytes c.into.ensures c.push_number.ensures.bytes in
    let by_district = append-number 1 row.district by_order c.into-2.ensures c.push_number-2.ensures.bytes in
    let by_warehouse = append-number 1 row.warehouse by_district c.into-3.ensures c.push_number-3.ensures.bytes in
    by_warehouse ∙ sym (append-concat slot (bytes_of 4 row.order ∷ bytes_of 1 row.district ∷ bytes_of 1 row.warehouse ∷ []))

-- each fits its width
pub returns-clause-width : goal.returns-clause-width
returns-clause-width c =
    length-row_bytes (columns_of tables.NewOrder) (new_order_values c.args.self.now) (search rules, (search rules, (search rules, tt)))

-- so that the bytes say the row
pub returns-clause-reads_back : goal.returns-clause-reads_back
returns-clause-reads_back c =
    ap new_order_with (values_in-row_bytes (columns_of tables.NewOrder) (new_order_values c.args.self.now) (search rules, (search rules, (search rules, tt))))
