use Rattle.std.proofs.Common.{◌≡◌, ℕ, List, [], ◌∷◌, ◌++◌, sym, ap, ◌∙◌, rules}
use Rattle.hy_page.specs.Bytes.{bytes_of}
use Rattle.hy_rows.specs.Catalogue.{columns_of}
use Rattle.hy_rows.specs.Columns.{signed_bytes}
use Rattle.hy_rows.specs.Rows.{customer_values, customer_with}
use Rattle.hy_rows.specs.Texts.{padded}
use Rattle.hy_rows.specs.declared.catalogue.Table.TheVariants as tables
use Rattle.hy_rows.proofs.ColumnLaws.{append-concat, append-number, append-pushed}
use Rattle.hy_rows.proofs.RowLaws.{length-row_bytes, values_in-row_bytes}
use Rattle.hy_rows.proofs.customer.CustomerRow.slot.Goals as goal

-- the columns were pushed one after another
pub returns-clause-bytes : goal.returns-clause-bytes
returns-clause-bytes c =
    let row = c.args.self.now in
    let slot : List ℕ = 1 ∷ [] in
    let by_id = append-number 2 row.id c.marked-slot.ensures.bytes c.into.ensures c.push_number.ensures.bytes in
    let by_district = append-number 1 row.district by_id c.into-2.ensures c.push_number-2.ensures.bytes in
    let by_warehouse = append-number 1 row.warehouse by_district c.into-3.ensures c.push_number-3.ensures.bytes in
    let by_first = append-pushed (padded 16 row.first) by_warehouse c.push_text.ensures.bytes in
    let by_middle = append-pushed (padded 2 row.middle) by_first c.push_text-2.ensures.bytes in
    let by_last = append-pushed (padded 16 row.last) by_middle c.push_text-3.ensures.bytes in
    let by_credit = append-pushed (padded 2 row.credit) by_last c.push_text-4.ensures.bytes in
    let by_discount = append-number 2 row.discount by_credit c.into-4.ensures c.push_number-4.ensures.bytes in
    let balance : c.push_signed.new.out.items ≡ c.push_number-4.new.out.items ++ signed_bytes row.balance = search rules in
    let by_balance = append-pushed (signed_bytes row.balance) by_discount balance in
    let ytd_payment : c.push_signed-2.new.out.items ≡ c.push_signed.new.out.items ++ signed_bytes row.ytd_payment = search rules in
    let by_ytd_payment = append-pushed (signed_bytes row.ytd_payment) by_balance ytd_payment in
    let by_payment_count = append-pushed (bytes_of 8 row.payment_count) by_ytd_payment c.push_number-5.ensures.bytes in
    let by_delivery_count = append-pushed (bytes_of 8 row.delivery_count) by_payment_count c.push_number-6.ensures.bytes in
    let by_information = append-pushed (padded 500 row.information) by_delivery_count c.push_long_text.ensures.bytes in
    by_information ∙ sym (append-concat slot (bytes_of 2 row.id ∷ bytes_of 1 row.district ∷ bytes_of 1 row.warehouse ∷ padded 16 row.first ∷ padded 2 row.middle ∷ padded 16 row.last ∷ padded 2 row.credit ∷ bytes_of 2 row.discount ∷ signed_bytes row.balance ∷ signed_bytes row.ytd_payment ∷ bytes_of 8 row.payment_count ∷ bytes_of 8 row.delivery_count ∷ padded 500 row.information ∷ []))

-- each fits its width
pub returns-clause-width : goal.returns-clause-width
returns-clause-width c =
    length-row_bytes (columns_of tables.Customer) (customer_values c.args.self.now) (search rules, (search rules, (search rules, (search rules, (search rules, (search rules, (search rules, (search rules, (search rules, (search rules, (search rules, (search rules, (search rules, tt)))))))))))))

-- so that the bytes say the row
pub returns-clause-reads_back : goal.returns-clause-reads_back
returns-clause-reads_back c =
    ap customer_with (values_in-row_bytes (columns_of tables.Customer) (customer_values c.args.self.now) (search rules, (search rules, (search rules, (search rules, (search rules, (search rules, (search rules, (search rules, (search rules, (search rules, (search rules, (search rules, (search rules, tt))))))))))))))
