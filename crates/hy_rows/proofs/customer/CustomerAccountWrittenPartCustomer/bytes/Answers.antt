use Rattle.std.proofs.Common.{◌≡◌, List, [], ◌∷◌, ◌++◌, drop, take, sym, ap, ◌∙◌, arith, rules}
use Rattle.hy_page.specs.Bytes.{bytes_of}
use Rattle.hy_rows.specs.Catalogue.{columns_of}
use Rattle.hy_rows.specs.Columns.{Column, signed_bytes}
use Rattle.hy_rows.specs.RowParts.{account_columns, account_values}
use Rattle.hy_rows.specs.Rows.{customer_with}
use Rattle.hy_rows.specs.Texts.{padded}
use Rattle.hy_rows.specs.declared.catalogue.Table.TheVariants as tables
use Rattle.hy_rows.proofs.ColumnLaws.{append-concat, append-number, append-pushed}
use Rattle.hy_rows.proofs.PartLaws.{values_in-part}
use Rattle.hy_rows.proofs.customer.CustomerAccountWrittenPartCustomer.bytes.Goals as goal

-- the columns were pushed one after another
pub returns-clause-bytes : goal.returns-clause-bytes
returns-clause-bytes c =
    let account = c.args.self.now in
    let by_credit = append-pushed (padded 2 account.credit) c.new-bytes.ensures c.push_text.ensures.bytes in
    let by_discount = append-number 2 account.discount by_credit c.into.ensures c.push_number.ensures.bytes in
    let balance : c.push_signed.new.out.items ≡ c.push_number.new.out.items ++ signed_bytes account.balance = search rules in
    let by_balance = append-pushed (signed_bytes account.balance) by_discount balance in
    let ytd_payment : c.push_signed-2.new.out.items ≡ c.push_signed.new.out.items ++ signed_bytes account.ytd_payment = search rules in
    let by_ytd_payment = append-pushed (signed_bytes account.ytd_payment) by_balance ytd_payment in
    let by_payment_count = append-pushed (bytes_of 8 account.payment_count) by_ytd_payment c.push_number-2.ensures.bytes in
    let by_delivery_count = append-pushed (bytes_of 8 account.delivery_count) by_payment_count c.push_number-3.ensures.bytes in
    by_delivery_count ∙ sym (append-concat [] (padded 2 account.credit ∷ bytes_of 2 account.discount ∷ signed_bytes account.balance ∷ signed_bytes account.ytd_payment ∷ bytes_of 8 account.payment_count ∷ bytes_of 8 account.delivery_count ∷ []))

-- so a row with these bytes has the account
pub returns-clause-written : goal.returns-clause-written
returns-clause-written c row size =
    let front : List Column = take 6 (columns_of tables.Customer) in
    let back : List Column = drop 12 (columns_of tables.Customer) in
    ap customer_with (values_in-part front account_columns back (account_values c.args.self.now) row
    (search rules, (search rules, (search rules, (search rules, (search rules, (search rules, tt)))))) (omega (arith, size)))
