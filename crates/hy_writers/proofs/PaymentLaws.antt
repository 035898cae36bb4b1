-- The slices of a payment, write by write.
use Rattle.std.proofs.Common.{◌≡◌, ℕ, Bool, true, false, if◌then◌else◌, List, ◌++◌, ◌∷◌, [], Some, refl, sym, ap, ap₂, ◌∙◌}
use Rattle.std.specs.Prelude.{slice_get, slice_set, unwrap_or}
use Rattle.std.proofs.lemmas.List.{set-set}
use Rattle.hy_rows.specs.declared.customer.Customer.{Customer}
use Rattle.hy_rows.specs.declared.district.District.{District}
use Rattle.hy_rows.specs.declared.history.History.{History}
use Rattle.hy_rows.specs.declared.warehouse.Warehouse.{Warehouse}
use Rattle.hy_rows.specs.Finding.{first_or, is_customer, is_district, is_warehouse, with_changed}
use Rattle.hy_rows.specs.Rows.{customer_of, district_of, warehouse_of}
use Rattle.hy_rows.specs.Tables.{Tables}
use Rattle.hy_schema.specs.Keys.{IsOneWarehouse, customer_key}
use Rattle.hy_commands.specs.declared.command.Payment.{Payment}
use Rattle.hy_commands.specs.declared.edition.Edition.{Edition}
use Rattle.hy_commands.specs.declared.edition.Edition.TheVariants as editions
use Rattle.hy_commands.specs.Payments.{customer_paid, district_paid, history_row, noted, paid_in, payment_note, warehouse_paid}
use Rattle.hy_commands.specs.Transactions.{payer}
use Rattle.hy_layout.specs.Layout.{IsMeantAt}
use Rattle.hy_indexes.specs.of_store.Stored.{Stored}
use Rattle.hy_writers.specs.Begun.{IsCustomerPayment, IsHomePayment}
use Rattle.hy_writers.specs.Changes.{IsFoundAt}
use Rattle.hy_writers.specs.Payments.{account_paid, history_for, is_noted, note_of, with_customer_paid, with_noted_if}
use Rattle.hy_writers.proofs.FindLaws.{found-customer, same-row}

-- the customer who is meant, at a place
pub payer-at : (number : ℕ) (payment : Payment) (tables : Tables) (place : ℕ) (row : Customer)
    → IsCustomerPayment number payment
    → IsMeantAt number payment.customer_district payment.who tables.customers place
    → slice_get tables.customers place ≡ Some row → payer payment tables ≡ row
payer-at number payment tables place row begun meant here =
    let rows : Some meant.row ≡ Some row = sym meant.here ∙ here in
    let same : meant.row ≡ row = cc in
    rw (begun.customer_home) (ap (λ found. unwrap_or found (customer_of [])) meant.meant ∙ same)

pub history-found : (number customer : ℕ) (payment : Payment) (tables : Tables) (warehouse : Warehouse)
    (district : District) (place : ℕ) → IsHomePayment number payment
    → IsFoundAt (is_warehouse number) tables.warehouses 0 warehouse
    → IsFoundAt (is_district number payment.district) tables.districts place district
    → history_for payment customer warehouse district ≡ history_row payment customer tables
history-found number customer payment tables warehouse district place begun found_warehouse found_district =
    let home : first_or (warehouse_of []) (is_warehouse payment.warehouse) tables.warehouses ≡ warehouse =
    rw (begun.home) (ap (λ found. unwrap_or found (warehouse_of [])) found_warehouse.found) in
    let own : first_or (district_of []) (is_district payment.warehouse payment.district) tables.districts ≡ district =
    rw (begun.home) (ap (λ found. unwrap_or found (district_of [])) found_district.found) in
    ap₂ (λ (w : Warehouse) (d : District). history_for payment customer w d) (sym home) (sym own)

-- the warehouse, the district and the history, one after the other
module _ (number place customer : ℕ) (payment : Payment) (begun : IsHomePayment number payment) (s s1 s2 s3 : Stored)
    (warehouse warehouse_row : Warehouse) (district district_row : District) (row : History) where
  abbrev with_district : Stored → Stored
  with_district t = record t {
    tables = record t.tables { districts = slice_set t.tables.districts place district_row };
  }

  abbrev with_history : Stored → Stored
  with_history t = record t { tables = record t.tables { history = t.tables.history ++ row ∷ [] } }

  pub home-paid : IsFoundAt (is_warehouse number) s.tables.warehouses 0 warehouse
      → IsFoundAt (is_district number payment.district) s.tables.districts place district
      → warehouse_row ≡ warehouse_paid payment.amount warehouse → district_row ≡ district_paid payment.amount district
      → row ≡ history_for payment customer warehouse district
      → s1 ≡ record s { tables = record s.tables { warehouses = slice_set s.tables.warehouses 0 warehouse_row } }
      → s2 ≡ record s1 { tables = record s1.tables { districts = slice_set s1.tables.districts place district_row } }
      → s3 ≡ record s2 { tables = record s2.tables { history = s2.tables.history ++ row ∷ [] } }
      → s3 ≡ record s { tables = paid_in payment customer s.tables }
  home-paid found_warehouse found_district is_warehouse_row is_district_row is_row first second third =
      third ∙ ap with_history (second ∙ ap with_district first)
      ∙ rw (
        is_row,
        is_warehouse_row,
        is_district_row,
        history-found number customer payment s.tables warehouse district place begun found_warehouse found_district,
        sym (found_warehouse.changed (warehouse_paid payment.amount)),
        sym (found_district.changed (district_paid payment.amount)),
        sym begun.home,
      ) refl

-- what is noted of a customer whose district and warehouse a payment names is what it notes of the row
pub note-is : (number : ℕ) (payment : Payment) (row : Customer) → IsCustomerPayment number payment
    → customer_key row ≡ (number, payment.customer_district, row.id) → note_of payment row.id ≡ payment_note payment row
note-is number payment row begun key =
    let home : row.warehouse ≡ payment.customer_warehouse = ap (λ key. key.0) key ∙ sym begun.customer_home in
    let district : row.district ≡ payment.customer_district = ap (λ key. key.1) key in
    ap₂ (λ (d w : ℕ). payment_note payment (record row { district = d; warehouse = w })) (sym district) (sym home)

-- a customer whose account was changed, and who was then noted where that is due, is one who paid
customer-paid : (edition : Edition) (payment : Payment) (row : Customer) (is_due : Bool)
    → is_noted edition row.credit ≡ is_due → note_of payment row.id ≡ payment_note payment row
    → (if is_due
    then record (account_paid payment.amount row) { information = noted (note_of payment row.id) row.information }
    else account_paid payment.amount row)
    ≡ customer_paid edition payment row
customer-paid editions.First payment row true is note = absurd (cc)
customer-paid editions.First payment row false is note = refl
customer-paid editions.Second payment row true is note = rw (is, note) refl
customer-paid editions.Second payment row false is note = rw (is) refl

-- the payer's account and what is noted are written one behind the other
module _ (number place : ℕ) (edition : Edition) (payment : Payment) (s s1 s2 : Stored) (row paid : Customer) where
  pub payer-paid : IsCustomerPayment number payment → IsOneWarehouse number s.tables
      → IsMeantAt number payment.customer_district payment.who s.tables.customers place
      → slice_get s.tables.customers place ≡ Some row → paid ≡ account_paid payment.amount row
      → s1 ≡ record s { tables = record s.tables { customers = slice_set s.tables.customers place paid } }
      → s2 ≡ with_noted_if (is_noted edition row.credit) payment row.id place paid s1
      → s2 ≡ with_customer_paid edition payment s
  payer-paid begun rows meant here is put note =
      let payer_is = payer-at number payment s.tables place row begun meant here in
      let key = same-row customer_key s.tables.customers place meant.row row meant.here here meant.key in
      let same_id : meant.row.id ≡ row.id =
      ap (λ (r : Customer). r.id) (let rows_are : Some meant.row ≡ Some row = sym meant.here ∙ here in let same : meant.row ≡ row = cc in same) in
      let own_key : customer_key row ≡ (number, payment.customer_district, row.id) =
      key ∙ ap (λ (id : ℕ). (number, payment.customer_district, id)) same_id in
      let found = found-customer number payment.customer_district row.id s.tables place row rows here own_key in
      note ∙ ap (with_noted_if (is_noted edition row.credit) payment row.id place paid) put
      ∙ written (is_noted edition row.credit) refl (note-is number payment row begun own_key)
      ∙ ap with_customers (sym (found.changed (customer_paid edition payment))
      ∙ ap₂ (λ (w id : ℕ). with_changed (is_customer w payment.customer_district id) (customer_paid edition payment) s.tables.customers)
      (sym begun.customer_home) (ap (λ (r : Customer). r.id) (sym payer_is)))
    where
      with_customers : List Customer → Stored
      with_customers customers = record s { tables = record s.tables { customers = customers } }

      with_row : Customer → Stored
      with_row other = with_customers (slice_set s.tables.customers place other)

      written : (is_due : Bool) → is_noted edition row.credit ≡ is_due → note_of payment row.id ≡ payment_note payment row
          → with_noted_if is_due payment row.id place paid (with_row paid) ≡ with_row (customer_paid edition payment row)
      written true due note_is =
          ap with_customers (set-set s.tables.customers place paid (record paid { information = noted (note_of payment row.id) paid.information }))
          ∙ ap with_row (ap (λ (r : Customer). record r { information = noted (note_of payment row.id) r.information }) is
          ∙ customer-paid edition payment row true due note_is)
      written false due note_is = ap with_row (is ∙ customer-paid edition payment row false due note_is)
