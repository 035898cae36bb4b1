-- The generated lists meet the consistency conditions.
use Rattle.std.proofs.Common.{◌≡◌, ◌≢◌, ℕ, suc, ◌*◌, ◌<◌, ◌==◌, ◌&&◌, pos, negsuc, ◌-ℤ◌, int_eq, Bool, true, false, cond, not, List, [], ◌∷◌, filter, find, Some, None, option_map, refl, sym, ap, ◌∙◌, arith, eq-eqb, ne_eqb}
use Rattle.std.specs.Prelude.{⊤}
use Rattle.std.specs.List.{list_all}
use Rattle.std.proofs.lemmas.Bool.{and_from, and_left, and_right}
use Rattle.std.proofs.lemmas.Bool.Decides.{Decides-int_eq}
use Rattle.hy_rows.specs.declared.district.District.{District}
use Rattle.hy_rows.specs.declared.history.History.{History}
use Rattle.hy_rows.specs.Tables.{Tables}
use Rattle.hy_schema.specs.Conditions.{column_sum, condition_1, condition_10, condition_12, condition_2, condition_3, condition_4, condition_8, condition_9, conditions, first_broken, has_all_lines, has_new_orders_in_row, is_balanced, is_behind_orders, is_delivered_less_paid, is_paid_in, is_paid_in_district, is_sum_of_districts, paid_amount, ytd_of_districts}
use Rattle.hy_schema.specs.Related.{is_payment_by, payments_by, payments_in, payments_in_district}
use Rattle.hy_tables.specs.Generated.{by_customer, generated_customer, generated_district, generated_lists, generated_payment, generated_warehouse, joined_up_to, rows_up_to}
use Rattle.hy_tables.proofs.CustomerLaws.{each-in_warehouse, length-by_customer, payment_rows}
use Rattle.hy_tables.proofs.JoinedLaws.{column_sum-same, filter-joined_all, filter-joined_none, filter-joined_one, filter-rows_all, filter-rows_none, filter-rows_one, length-rows_up_to, list_all-joined, list_all-rows, rows_up_to-each}
use Rattle.hy_tables.proofs.ListLaws.{district_rows, districts_in}

-- rows that meet each of some conditions break none of them
abbrev MeetsEach : Tables → List (ℕ × (Tables → Bool)) → Type 0
MeetsEach tables [] = ⊤
MeetsEach tables (first ∷ tests) = (first.1 tables ≡ true) × MeetsEach tables tests

none_broken : (tables : Tables) (tests : List (ℕ × (Tables → Bool))) → MeetsEach tables tests
    → option_map (λ condition. condition.0) (find (λ condition. not (condition.1 tables)) tests) ≡ None
none_broken tables [] met = refl
none_broken tables (first ∷ tests) met =
    ap (λ b. option_map (λ condition. condition.0)
    (cond (not b) (Some first) (find (λ condition. not (condition.1 tables)) tests))) met.0
    ∙ none_broken tables tests met.1

-- two numbers that differ do so when each is one more
apart : (one other : ℕ) → one ≢ other → (suc one == suc other) ≡ false
apart one other differs = ne_eqb (suc one) (suc other) (λ same. differs (omega (arith, same)))

-- a test that each row for a customer passes
all-by_customer : {Row : Type 0} (test : Row → Bool) (row : ℕ → ℕ → ℕ → Row) (customers warehouses : ℕ)
    → ((warehouse district customer : ℕ) → warehouse < warehouses → district < 10 → customer < customers
    → test (row (suc warehouse) (suc district) (suc customer)) ≡ true)
    → list_all test (joined_up_to (by_customer row customers) warehouses) ≡ true
all-by_customer test row customers warehouses each =
    list_all-joined test (by_customer row customers) warehouses (λ warehouse of_all.
    list_all-joined test (λ district. rows_up_to (row (suc warehouse) district) customers) 10 (λ district of_ten.
    list_all-rows test (row (suc warehouse) (suc district)) customers (λ customer below.
    each warehouse district customer of_all of_ten below)))

-- a filter of such rows that those of one warehouse alone pass, and those of one district of it
module _ {Row : Type 0} (test : Row → Bool) (row : ℕ → ℕ → ℕ → Row) (customers : ℕ) where
  filter-warehouse : (warehouses warehouse : ℕ) → warehouse < warehouses
      → ((other district customer : ℕ) → other ≢ warehouse → test (row (suc other) district customer) ≡ false)
      → filter test (joined_up_to (by_customer row customers) warehouses)
      ≡ filter test (by_customer row customers (suc warehouse))
  filter-warehouse warehouses warehouse of_all others =
      filter-joined_one test (by_customer row customers) (filter test (by_customer row customers (suc warehouse)))
      warehouses warehouse of_all refl (λ other less differs.
      filter-joined_none test (λ district. rows_up_to (row (suc other) district) customers) 10 (λ district of_ten.
      filter-rows_none test (row (suc other) (suc district)) customers (λ customer below.
      others other (suc district) (suc customer) differs)))

  filter-district : (warehouse district : ℕ) → district < 10
      → ((other customer : ℕ) → other ≢ district → test (row warehouse (suc other) customer) ≡ false)
      → filter test (by_customer row customers warehouse)
      ≡ filter test (rows_up_to (row warehouse (suc district)) customers)
  filter-district warehouse district of_ten others =
      filter-joined_one test (λ number. rows_up_to (row warehouse number) customers)
      (filter test (rows_up_to (row warehouse (suc district)) customers)) 10 district of_ten refl (λ other less differs.
      filter-rows_none test (row warehouse (suc other)) customers (λ customer below.
      others other (suc customer) differs))

module _ (customers warehouses items : ℕ) where
  abbrev Rows : Tables
  Rows = (generated_lists warehouses customers items).tables

  -- condition 1
  districts-of : (warehouse : ℕ) → warehouse < warehouses
      → filter (λ row. row.warehouse == suc warehouse) (district_rows customers warehouses)
      ≡ districts_in customers (suc warehouse)
  districts-of warehouse of_all =
      let test : District → Bool = λ row. row.warehouse == suc warehouse in
      filter-joined_one test (districts_in customers) (districts_in customers (suc warehouse)) warehouses warehouse
      of_all
      (filter-rows_all test (generated_district customers (suc warehouse)) 10
      (λ district of_ten. eq-eqb (suc warehouse) (suc warehouse) refl))
      (λ other less differs. filter-rows_none test (generated_district customers (suc other)) 10
      (λ district of_ten. apart other warehouse differs))

  sum-of_districts : (warehouse : ℕ) → warehouse < warehouses
      → ytd_of_districts (suc warehouse) (district_rows customers warehouses) ≡ pos (10_000 * customers)
  sum-of_districts warehouse of_all =
      ap (column_sum (λ (row : District). row.ytd)) (districts-of warehouse of_all)
      ∙ column_sum-same (λ row. row.ytd) (1_000 * customers) (districts_in customers (suc warehouse))
      (rows_up_to-each (λ place row. row.ytd ≡ pos (1_000 * customers)) (generated_district customers (suc warehouse))
      10 (λ district of_ten. refl))
      ∙ ap (λ count. pos (1_000 * customers * count))
      (length-rows_up_to (generated_district customers (suc warehouse)) 10)
      ∙ ap pos (omega arith)

  meets-1 : condition_1 Rows ≡ true
  meets-1 =
      list_all-rows (is_sum_of_districts (district_rows customers warehouses)) (generated_warehouse customers)
      warehouses (λ warehouse of_all. (Decides-int_eq (pos (10_000 * customers)) (ytd_of_districts (suc warehouse)
      (district_rows customers warehouses))).1 (sym (sum-of_districts warehouse of_all)))

  -- conditions 2 to 4, of districts that have no orders
  each-district : (test : District → Bool)
      → ((warehouse district : ℕ) → warehouse < warehouses → district < 10
      → test (generated_district customers (suc warehouse) (suc district)) ≡ true)
      → list_all test (district_rows customers warehouses) ≡ true
  each-district test each =
      list_all-joined test (districts_in customers) warehouses (λ warehouse of_all.
      list_all-rows test (generated_district customers (suc warehouse)) 10
      (λ district of_ten. each warehouse district of_all of_ten))

  meets-2 : condition_2 Rows ≡ true
  meets-2 = each-district (is_behind_orders [] []) (λ warehouse district of_all of_ten. refl)

  meets-3 : condition_3 Rows ≡ true
  meets-3 = each-district (has_new_orders_in_row []) (λ warehouse district of_all of_ten. refl)

  meets-4 : condition_4 Rows ≡ true
  meets-4 = each-district (has_all_lines [] []) (λ warehouse district of_all of_ten. refl)

  -- condition 8
  paid-in_warehouse : (warehouse : ℕ) → warehouse < warehouses
      → paid_amount (payments_in (suc warehouse) (payment_rows customers warehouses)) ≡ pos (10_000 * customers)
  paid-in_warehouse warehouse of_all =
      let test : History → Bool = λ row. row.warehouse == suc warehouse in
      ap paid_amount (filter-warehouse test generated_payment customers warehouses warehouse of_all
      (λ other district customer differs. apart other warehouse differs)
      ∙ filter-joined_all test (λ district. rows_up_to (generated_payment (suc warehouse) district) customers) 10
      (λ district of_ten. filter-rows_all test (generated_payment (suc warehouse) (suc district)) customers
      (λ customer below. eq-eqb (suc warehouse) (suc warehouse) refl)))
      ∙ column_sum-same (λ row. row.amount) 1_000 (by_customer generated_payment customers (suc warehouse))
      (each-in_warehouse generated_payment customers (λ row. row.amount ≡ pos 1_000) (suc warehouse)
      (λ district customer of_ten below. refl))
      ∙ ap pos (omega (arith, length-by_customer generated_payment customers (suc warehouse)))

  meets-8 : condition_8 Rows ≡ true
  meets-8 =
      list_all-rows (is_paid_in (payment_rows customers warehouses)) (generated_warehouse customers) warehouses
      (λ warehouse of_all. (Decides-int_eq (pos (10_000 * customers)) (paid_amount (payments_in (suc warehouse)
      (payment_rows customers warehouses)))).1 (sym (paid-in_warehouse warehouse of_all)))

  -- condition 9
  paid-in_district : (warehouse district : ℕ) → warehouse < warehouses → district < 10
      → paid_amount (payments_in_district (suc warehouse) (suc district) (payment_rows customers warehouses))
      ≡ pos (1_000 * customers)
  paid-in_district warehouse district of_all of_ten =
      let test : History → Bool = λ row. (row.warehouse == suc warehouse) && (row.district == suc district) in
      let rows : List History = rows_up_to (generated_payment (suc warehouse) (suc district)) customers in
      ap paid_amount (filter-warehouse test generated_payment customers warehouses warehouse of_all
      (λ other number customer differs. and_left _ _ (apart other warehouse differs))
      ∙ filter-district test generated_payment customers (suc warehouse) district of_ten
      (λ other customer differs. and_right _ _ (apart other district differs))
      ∙ filter-rows_all test (generated_payment (suc warehouse) (suc district)) customers
      (λ customer below. and_from _ _ (eq-eqb (suc warehouse) (suc warehouse) refl)
      (eq-eqb (suc district) (suc district) refl)))
      ∙ column_sum-same (λ row. row.amount) 1_000 rows
      (rows_up_to-each (λ place row. row.amount ≡ pos 1_000) (generated_payment (suc warehouse) (suc district))
      customers (λ customer below. refl))
      ∙ ap pos (omega (arith, length-rows_up_to (generated_payment (suc warehouse) (suc district)) customers))

  meets-9 : condition_9 Rows ≡ true
  meets-9 = each-district (is_paid_in_district (payment_rows customers warehouses)) (λ warehouse district of_all of_ten.
      (Decides-int_eq (pos (1_000 * customers)) (paid_amount (payments_in_district (suc warehouse) (suc district)
      (payment_rows customers warehouses)))).1 (sym (paid-in_district warehouse district of_all of_ten)))

  -- condition 10: each customer paid once
  payment-of : (warehouse district customer : ℕ) → warehouse < warehouses → district < 10 → customer < customers
      → payments_by (generated_customer (suc warehouse) (suc district) (suc customer))
      (payment_rows customers warehouses)
      ≡ generated_payment (suc warehouse) (suc district) (suc customer) ∷ []
  payment-of warehouse district customer of_all of_ten below =
      let test : History → Bool = is_payment_by (generated_customer (suc warehouse) (suc district) (suc customer)) in
      filter-warehouse test generated_payment customers warehouses warehouse of_all
      (λ other number payer differs. and_left _ _ (and_left _ _ (apart other warehouse differs)))
      ∙ filter-district test generated_payment customers (suc warehouse) district of_ten
      (λ other payer differs. and_left _ _ (and_right _ _ (apart other district differs)))
      ∙ filter-rows_one test (generated_payment (suc warehouse) (suc district)) customers customer below
      (and_from _ _
      (and_from _ _ (eq-eqb (suc warehouse) (suc warehouse) refl) (eq-eqb (suc district) (suc district) refl))
      (eq-eqb (suc customer) (suc customer) refl))
      (λ other less differs. and_right _ _ (apart other customer differs))

  meets-10 : condition_10 Rows ≡ true
  meets-10 = all-by_customer (is_delivered_less_paid Rows) generated_customer customers warehouses
      (λ warehouse district customer of_all of_ten below.
      ap (λ (payments : List History). int_eq (negsuc 999) (pos 0 -ℤ paid_amount payments))
      (payment-of warehouse district customer of_all of_ten below))

  -- condition 12
  meets-12 : condition_12 Rows ≡ true
  meets-12 = all-by_customer (is_balanced [] []) generated_customer customers warehouses
      (λ warehouse district customer of_all of_ten below. refl)

  pub none_broken-generated : first_broken Rows ≡ None
  none_broken-generated =
      none_broken Rows conditions (
        meets-1,
        (meets-2, (meets-3, (meets-4, (refl, (refl, (refl, (meets-8, (meets-9, (meets-10, (meets-12, tt)))))))))),
      )
