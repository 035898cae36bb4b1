-- In the database of a load, what was paid for a customer in all warehouses is C_YTD_PAYMENT of the customer.
use Rattle.std.proofs.Common.{◌≡◌, ℕ, zero, suc, ℤ, pos, ◌+ℤ◌, ◌-ℤ◌, ◌==◌, Bool, true, false, cond, List, [], ◌∷◌, length, filter, refl, sym, ap, subst, ◌∙◌, arith}
use Rattle.std.specs.Prelude.{All, IfSome, slice_get}
use Rattle.std.specs.Bool.{Decides}
use Rattle.std.specs.List.{list_all, range_with_len}
use Rattle.std.proofs.lemmas.Bool.{and_parts, eqb-true}
use Rattle.std.proofs.lemmas.Bool.Decides.{Decides-by_and, Decides-int_eq}
use Rattle.std.proofs.lemmas.Int.{ints}
use Rattle.std.proofs.lemmas.List.Elements.{All-filter, All-head, All-tail, All-weaker, filter_passes}
use Rattle.std.proofs.lemmas.Option.{IfSome_then}
use Rattle.hy_rows.specs.Finding.{is_district}
use Rattle.hy_rows.specs.Tables.{Lists, Tables, of_warehouse}
use Rattle.hy_rows.specs.declared.customer.Customer.{Customer}
use Rattle.hy_rows.specs.declared.district.District.{District}
use Rattle.hy_rows.specs.declared.history.History.{History}
use Rattle.hy_rows.proofs.BetweenLaws.{IsBetween-bounds, bounds}
use Rattle.hy_rows.proofs.RangeLaws.{allowed-at}
use Rattle.hy_rows.specs.Catalogue.{columns_of}
use Rattle.hy_rows.specs.Rows.{district_values}
use Rattle.hy_rows.specs.declared.catalogue.Table.TheVariants as table
use Rattle.hy_schema.specs.Conditions.{column_sum, conditions, delivered_amount, is_balanced, is_delivered_less_paid, paid_amount}
use Rattle.hy_schema.specs.Loads.{IsDistrictAt, IsHistoryAt, IsLoad}
use Rattle.hy_schema.specs.Related.{is_payment_by, payments_by}
use Rattle.hy_schema.proofs.ConditionLaws.{consistent-unbroken}
use Rattle.hy_commands.specs.Parts.{database_of}
use Rattle.hy_commands.proofs.DatabaseLaws.{length-database, rows-load, there-load}
use Rattle.hy_commands.proofs.ListLaws.{All-find, All-of_both, column_sum-cons, find-any, find-passes}
use Rattle.hy_commands.proofs.OnceLaws.{tells-two}
use Rattle.hy_commands.proofs.SoundLoad.{all-by_place}
use Rattle.hy_database.proofs.NumberedLaws.{IsNumbered, sum-grows, sum-nothing, sum-same}
use Rattle.hy_database.proofs.PaidLaws.{HasPaid, IsPaid, paid_at, paid_for}

-- ---- the payments of all warehouses are those of the load

-- the rows that pass a test, by the first one
passing-cons : (keep : History → Bool) (row : History) (rows : List History)
    → paid_amount (filter keep (row ∷ rows)) ≡ paid_amount (filter keep rows) +ℤ cond (keep row) row.amount (pos 0)
passing-cons keep row rows =
    elim (keep row) as (λ b. paid_amount (cond b (row ∷ filter keep rows) (filter keep rows))
    ≡ paid_amount (filter keep rows) +ℤ cond b row.amount (pos 0)) [
      | true ↦ omega (arith, ints, column_sum-cons (λ (r : History). r.amount) row (filter keep rows))
      | false ↦ omega (arith, ints)
    ]

module _ (keep : History → Bool) where
  -- the sum over those of one warehouse
  abbrev here : List History → ℕ → ℤ
  here rows number = paid_amount (filter keep (filter (λ row. row.warehouse == number) rows))

  here-cons : (row : History) (rows : List History) (number : ℕ)
      → here (row ∷ rows) number ≡ here rows number
      +ℤ cond (row.warehouse == number) (cond (keep row) row.amount (pos 0)) (pos 0)
  here-cons row rows number =
      elim (row.warehouse == number) as (λ b.
      paid_amount (filter keep (cond b (row ∷ filter (λ r. r.warehouse == number) rows)
      (filter (λ r. r.warehouse == number) rows)))
      ≡ here rows number +ℤ cond b (cond (keep row) row.amount (pos 0)) (pos 0)) [
        | true ↦ passing-cons keep row (filter (λ r. r.warehouse == number) rows)
        | false ↦ omega (arith, ints)
      ]

  sum-parts : (first count : ℕ) (rows : List History) → All (λ row. IsNumbered first count row.warehouse) rows
      → column_sum (here rows) (range_with_len first count) ≡ paid_amount (filter keep rows)
  sum-parts first count [] all = sum-nothing first count
  sum-parts first count (row ∷ rows) all =
      let amount : ℤ = cond (keep row) row.amount (pos 0) in
      let grows = sum-grows (here (row ∷ rows)) (here rows) row.warehouse amount first count
      (All-head (λ row. IsNumbered first count row.warehouse) row rows all)
      (λ number is. here-cons row rows number) in
      let later = sum-parts first count rows (All-tail (λ row. IsNumbered first count row.warehouse) row rows all) in
      grows ∙ ap (λ sum. sum +ℤ amount) later ∙ sym (passing-cons keep row rows)

-- what a test of all rows says of each, and of the row at a place
passing-all : {Row : Type 0} (test : Row → Bool) (P : Row → Type 0) → ((row : Row) → Decides (test row) (P row))
    → (rows : List Row) → list_all test rows ≡ true → All P rows
passing-all test P each rows all = (Decides-by_and test P (list_all test) each refl (λ row rows. refl) rows).0 all

passes-at : {Row : Type 0} (test : Row → Bool) (rows : List Row) (place : ℕ) → list_all test rows ≡ true
    → IfSome (slice_get rows place) (λ row. test row ≡ true)
passes-at test [] place all = tt
passes-at test (row ∷ rows) zero all = (and_parts (test row) (list_all test rows) all).0
passes-at test (row ∷ rows) (suc place) all =
    passes-at test rows place (and_parts (test row) (list_all test rows) all).1

module _ (lists : Lists) (is_load : IsLoad lists) where
  abbrev count : ℕ
  count = length lists.tables.warehouses

  -- each payment was made in a warehouse that is there
  districts-numbered : All (λ row. IsNumbered 1 count row.warehouse) lists.tables.districts
  districts-numbered =
      all-by_place (λ (row : District). IsNumbered 1 count row.warehouse) lists.tables.districts
      (λ place. IfSome_then (slice_get lists.tables.districts place) {P = IsDistrictAt count place}
      {Q = λ row. IsNumbered 1 count row.warehouse} (is_load.districts.each place)
      (λ row right. record {
        low = (bounds 1 16 row.warehouse (allowed-at (columns_of table.District) (district_values row) right.0 1)).0;
        high = omega (arith, right.3);
      }))

  history-numbered : All (λ row. IsNumbered 1 count row.warehouse) lists.tables.history
  history-numbered =
      all-by_place (λ (row : History). IsNumbered 1 count row.warehouse) lists.tables.history
      (λ place. IfSome_then (slice_get lists.tables.history place)
      {P = IsHistoryAt lists.tables.districts lists.tables.customers place}
      {Q = λ row. IsNumbered 1 count row.warehouse} (is_load.history.each place)
      (λ row right.
      let found = find-any (is_district row.warehouse row.district) lists.tables.districts right.1 in
      let passes = find-passes (is_district row.warehouse row.district) lists.tables.districts found.0 found.1 in
      subst (IsNumbered 1 count) (tells-two found.0.warehouse found.0.id row.warehouse row.district passes).0
      (All-find (λ (d : District). IsNumbered 1 count d.warehouse) (is_district row.warehouse row.district)
      lists.tables.districts found.0 districts-numbered found.1)))

  paid-load : (customer : Customer)
      → paid_for (database_of lists) customer ≡ paid_amount (payments_by customer lists.tables.history)
  paid-load customer =
      ap (λ n. column_sum (paid_at (database_of lists) customer) (range_with_len 1 n)) (length-database lists)
      ∙ sum-same (paid_at (database_of lists) customer) (here (is_payment_by customer)
      lists.tables.history) 1 count
      (λ number is. ap (λ (tables : Tables). paid_amount (payments_by customer tables.history))
      (rows-load lists number (IsBetween-bounds 1 count number is.low (omega (arith, is.high)))))
      ∙ sum-parts (is_payment_by customer) 1 count lists.tables.history history-numbered

  -- by the conditions 10 and 12, each customer has what was paid
  abbrev IsPaidFor : Customer → Type 0
  IsPaidFor row = row.ytd_payment ≡ paid_amount (payments_by row lists.tables.history)

  customers-paid : All IsPaidFor lists.tables.customers
  customers-paid =
      let tables : Tables = lists.tables in
      let met = consistent-unbroken tables is_load.conditions in
      let less : All (λ row. row.balance ≡ delivered_amount tables.orders tables.order_lines row
      -ℤ paid_amount (payments_by row tables.history)) tables.customers =
      passing-all (is_delivered_less_paid tables) (λ row. row.balance
      ≡ delivered_amount tables.orders tables.order_lines row -ℤ paid_amount (payments_by row tables.history))
      (λ row. Decides-int_eq _ _) tables.customers (passes-at (λ condition. condition.1 tables) conditions 9 met) in
      let settled : All (λ row. row.balance +ℤ row.ytd_payment ≡ delivered_amount tables.orders tables.order_lines row)
      tables.customers =
      passing-all (is_balanced tables.orders tables.order_lines) (λ row. row.balance +ℤ row.ytd_payment
      ≡ delivered_amount tables.orders tables.order_lines row)
      (λ row. Decides-int_eq _ _) tables.customers (passes-at (λ condition. condition.1 tables) conditions 10 met) in
      All-of_both (λ row. row.balance ≡ delivered_amount tables.orders tables.order_lines row
      -ℤ paid_amount (payments_by row tables.history))
      (λ row. row.balance +ℤ row.ytd_payment ≡ delivered_amount tables.orders tables.order_lines row) IsPaidFor
      tables.customers (λ row one other. omega (arith, ints, one, other)) less settled

  pub is_paid-load : IsPaid (database_of lists)
  is_paid-load = record {
    history = λ number there.
        subst (λ (tables : Tables). All (λ row. row.warehouse ≡ number) tables.history)
        (sym (rows-load lists number (there-load lists number there)))
        (All-weaker (λ (row : History). (row.warehouse == number) ≡ true) (λ row. row.warehouse ≡ number)
        (λ row own. eqb-true row.warehouse number own) (of_warehouse number lists.tables).history
        (filter_passes (λ (row : History). row.warehouse == number) lists.tables.history));
    paid = λ number there.
        subst (λ (tables : Tables). All (HasPaid (database_of lists)) tables.customers)
        (sym (rows-load lists number (there-load lists number there)))
        (All-filter (λ (row : Customer). row.warehouse == number)
        (HasPaid (database_of lists)) lists.tables.customers
        (All-weaker IsPaidFor (HasPaid (database_of lists))
        (λ row has. has ∙ sym (paid-load row)) lists.tables.customers customers-paid));
  }
