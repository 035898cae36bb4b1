use Rattle.std.proofs.Common.{◌≡◌, ℕ, List, [], ◌∷◌, ◌++◌, sym, ap, ◌∙◌, rules}
use Rattle.hy_page.specs.Bytes.{bytes_of}
use Rattle.hy_rows.specs.Catalogue.{columns_of}
use Rattle.hy_rows.specs.Columns.{signed_bytes}
use Rattle.hy_rows.specs.Rows.{history_values, history_with}
use Rattle.hy_rows.specs.Texts.{padded}
use Rattle.hy_rows.specs.declared.catalogue.Table.TheVariants as tables
use Rattle.hy_rows.proofs.ColumnLaws.{append-concat, append-number, append-pushed}
use Rattle.hy_rows.proofs.RowLaws.{length-row_bytes, values_in-row_bytes}
use Rattle.hy_rows.proofs.history.HistoryRow.slot.Goals as goal

-- the columns were pushed one after another
pub returns-clause-bytes : goal.returns-clause-bytes
returns-clause-bytes c =
    let row = c.args.self.now in
    let slot : List ℕ = 1 ∷ [] in
    let by_customer = append-number 2 row.customer c.marked-slot.ensures.bytes c.into.ensures c.push_number.ensures.bytes in
    let by_customer_district = append-number 1 row.customer_district by_customer c.into-2.ensures c.push_number-2.ensures.bytes in
    let by_customer_warehouse = append-number 1 row.customer_warehouse by_customer_district c.into-3.ensures c.push_number-3.ensures.bytes in
    let by_district = append-number 1 row.district by_customer_warehouse c.into-4.ensures c.push_number-4.ensures.bytes in
    let by_warehouse = append-number 1 row.warehouse by_district c.into-5.ensures c.push_number-5.ensures.bytes in
    let by_date = append-pushed (bytes_of 8 row.date) by_warehouse c.push_number-6.ensures.bytes in
    let amount : c.push_signed.new.out.items ≡ c.push_number-6.new.out.items ++ signed_bytes row.amount = search rules in
    let by_amount = append-pushed (signed_bytes row.amount) by_date amount in
    let by_information = append-pushed (padded 24 row.information) by_amount c.push_text.ensures.bytes in
    by_information ∙ sym (append-concat slot (bytes_of 2 row.customer ∷ bytes_of 1 row.customer_district ∷ bytes_of 1 row.customer_warehouse ∷ bytes_of 1 row.district ∷ bytes_of 1 row.warehouse ∷ bytes_of 8 row.date ∷ signed_bytes row.amount ∷ padded 24 row.information ∷ []))

-- each fits its width
pub returns-clause-width : goal.returns-clause-width
returns-clause-width c =
    length-row_bytes (columns_of tables.History) (history_values c.args.self.now) (search rules, (search rules, (search rules, (search rules, (search rules, (search rules, (search rules, (search rules, tt))))))))

-- so that the bytes say the row
pub returns-clause-reads_back : goal.returns-clause-reads_back
returns-clause-reads_back c =
    ap history_with (values_in-row_bytes (columns_of tables.History) (history_values c.args.self.now) (search rules, (search rules, (search rules, (search rules, (search rules, (search rules, (search rules, (search rules, tt)))))))))
