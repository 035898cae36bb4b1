use Rattle.std.proofs.Common.{◌≡◌, ℕ, List, [], ◌∷◌, ◌++◌, sym, ap, ◌∙◌, rules}
use Rattle.hy_page.specs.Bytes.{bytes_of}
use Rattle.hy_rows.specs.Catalogue.{columns_of}
use Rattle.hy_rows.specs.Columns.{signed_bytes}
use Rattle.hy_rows.specs.Rows.{district_values, district_with}
use Rattle.hy_rows.specs.Texts.{padded}
use Rattle.hy_rows.specs.declared.catalogue.Table.TheVariants as tables
use Rattle.hy_rows.proofs.ColumnLaws.{append-concat, append-number, append-pushed}
use Rattle.hy_rows.proofs.RowLaws.{length-row_bytes, values_in-row_bytes}
use Rattle.hy_rows.proofs.district.DistrictRow.slot.Goals as goal

-- the columns were pushed one after another
pub returns-clause-bytes : goal.returns-clause-bytes
returns-clause-bytes c =
    let row = c.args.self.now in
    let slot : List ℕ = 1 ∷ [] in
    let by_id = append-number 1 row.id c.marked-slot.ensures.bytes c.into.ensures c.push_number.ensures.bytes in
    let by_warehouse = append-number 1 row.warehouse by_id c.into-2.ensures c.push_number-2.ensures.bytes in
    let by_name = append-pushed (padded 10 row.name) by_warehouse c.push_text.ensures.bytes in
    let by_tax = append-number 2 row.tax by_name c.into-3.ensures c.push_number-3.ensures.bytes in
    let ytd : c.push_signed.new.out.items ≡ c.push_number-3.new.out.items ++ signed_bytes row.ytd = search rules in
    let by_ytd = append-pushed (signed_bytes row.ytd) by_tax ytd in
    let by_next_order = append-number 4 row.next_order by_ytd c.into-4.ensures c.push_number-4.ensures.bytes in
    by_next_order ∙ sym (append-concat slot (bytes_of 1 row.id ∷ bytes_of 1 row.warehouse ∷ padded 10 row.name ∷ bytes_of 2 row.tax ∷ signed_bytes row.ytd ∷ bytes_of 4 row.next_order ∷ []))

-- each fits its width
pub returns-clause-width : goal.returns-clause-width
returns-clause-width c =
    length-row_bytes (columns_of tables.District) (district_values c.args.self.now) (search rules, (search rules, (search rules, (search rules, (search rules, (search rules, tt))))))

-- so that the bytes say the row
pub returns-clause-reads_back : goal.returns-clause-reads_back
returns-clause-reads_back c =
    ap district_with (values_in-row_bytes (columns_of tables.District) (district_values c.args.self.now) (search rules, (search rules, (search rules, (search rules, (search rules, (search rules, tt)))))))
