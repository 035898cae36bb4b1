-- A payment keeps the rows of a warehouse sound.
use Rattle.std.proofs.Common.{◌≡◌, ℕ, ◌<◌, ℤ, pos, ◌+ℤ◌, ◌==◌, ◌&&◌, Bool, true, false, cond, List, [], ◌∷◌, ◌++◌, filter, Some, refl, sym, ap, subst, ◌∙◌, arith}
use Rattle.std.specs.Prelude.{All}
use Rattle.std.specs.List.{find}
use Rattle.std.proofs.lemmas.Int.{ints}
use Rattle.std.proofs.lemmas.Bool.{eq-eqb}
use Rattle.std.proofs.lemmas.Bool.Decides.{nat_tests}
use Rattle.std.proofs.lemmas.List.Elements.{All-nil, All-cons, All-weaker, filter-append}
use Rattle.hy_rows.specs.Finding.{is_customer, is_district, is_warehouse}
use Rattle.hy_rows.specs.Ranges.{IsBetween}
use Rattle.hy_rows.specs.Tables.{Tables}
use Rattle.hy_rows.specs.declared.customer.Customer.{Customer}
use Rattle.hy_rows.specs.declared.district.District.{District}
use Rattle.hy_rows.specs.declared.history.History.{History}
use Rattle.hy_rows.specs.declared.item.Item.{Item}
use Rattle.hy_rows.specs.declared.warehouse.Warehouse.{Warehouse}
use Rattle.hy_schema.specs.Conditions.{paid_amount, ytd_of_districts}
use Rattle.hy_schema.specs.Keys.{AreUnique, HasUniqueKeys, IsOneWarehouse, customer_key, district_key}
use Rattle.hy_schema.proofs.ChangedLists.{All-with_changed, column_sum-changed, finds-key, map-with_changed}
use Rattle.hy_schema.proofs.KeptConditionLaws.{finds-district}
use Rattle.hy_schema.proofs.KeyLaws.{HasUniqueKeys-one_warehouse}
use Rattle.hy_commands.specs.declared.command.Payment.{Payment}
use Rattle.hy_commands.specs.declared.edition.Edition.{Edition}
use Rattle.hy_commands.specs.Invariant.{HasOwnOrders, IsOwnOrder, IsSoundWarehouse}
use Rattle.hy_commands.specs.Payments.{customer_paid, district_paid, history_row, paid_by, paid_in, warehouse_paid}
use Rattle.hy_commands.proofs.AcceptedLaws.{IsAcceptedPayment}
use Rattle.hy_commands.proofs.ListLaws.{All-changed_once, All-of_both, column_sum-append, list_any-with_changed}
use Rattle.hy_commands.proofs.MeetsLaws.{CountsDistrict, IsBalanced, Meets, NumbersInRow, PaidIn, PaidInDistrict, SumsDistricts, behind-orders, meets-facts, meets-tests}
use Rattle.hy_commands.proofs.OnceLaws.{All-keys, once-district, once-warehouse, tells-two}

-- the row of the one warehouse has its number
pub own-warehouse : (number : ℕ) (tables : Tables) → IsOneWarehouse number tables
    → All (λ row. row.id ≡ number) tables.warehouses
own-warehouse number tables rows =
    All-keys (λ id. id ≡ number) (λ (row : Warehouse). row.id) tables.warehouses
    (subst (All (λ id. id ≡ number)) (sym rows.warehouse)
    (All-cons (λ id. id ≡ number) number [] refl (All-nil (λ id. id ≡ number))))

-- the district with a number from 1 to 10 is there
pub own-district : (number district : ℕ) (tables : Tables) → IsOneWarehouse number tables → IsBetween 1 10 district
    → (row : District) × (find (is_district number district) tables.districts ≡ Some row)
own-district number district tables rows between =
    let key_found = finds-district number district between in
    finds-key district_key (λ key. (key.0 == number) && (key.1 == district)) tables.districts _ key_found.0
    rows.districts key_found.1

-- a payment more
module _ (row : History) (cents : ℤ) (is : row.amount ≡ cents) (history : List History) (keep : History → Bool) where
  paid-more : keep row ≡ true → paid_amount (filter keep (history ++ row ∷ [])) ≡ paid_amount (filter keep history) +ℤ
      cents
  paid-more counts =
      ap paid_amount (filter-append keep history (row ∷ []))
      ∙ ap (λ b. paid_amount (filter keep history ++ cond b (row ∷ []) [])) counts
      ∙ column_sum-append (λ (r : History). r.amount) (filter keep history) (row ∷ [])
      ∙ omega (arith, ints, is)

  paid-same : keep row ≡ false → paid_amount (filter keep (history ++ row ∷ [])) ≡ paid_amount (filter keep history)
  paid-same counts =
      ap paid_amount (filter-append keep history (row ∷ []))
      ∙ ap (λ b. paid_amount (filter keep history ++ cond b (row ∷ []) [])) counts
      ∙ column_sum-append (λ (r : History). r.amount) (filter keep history) []
      ∙ omega (arith, ints)

-- ---- at the home warehouse

module _ (items : List Item) (number : ℕ) (payment : Payment) (customer : ℕ) (tables : Tables)
    (accepted : IsAcceptedPayment number payment) (sound : IsSoundWarehouse items number tables) where
  abbrev with_paid_in : Tables
  with_paid_in = paid_in payment customer tables

  paid_in-rows : IsOneWarehouse number with_paid_in
  paid_in-rows = record {
    warehouse =
        map-with_changed (λ (row : Warehouse). row.id) (is_warehouse payment.warehouse) (warehouse_paid payment.amount)
        (λ row. refl) tables.warehouses ∙ sound.rows.warehouse;
    districts =
        map-with_changed district_key (is_district payment.warehouse payment.district) (district_paid payment.amount)
        (λ row. refl) tables.districts ∙ sound.rows.districts;
    customers = sound.rows.customers;
    unique = sound.rows.unique;
  }

  paid_in-orders : HasOwnOrders items number with_paid_in
  paid_in-orders = record {
    unique_orders = sound.orders.unique_orders;
    unique_new_orders = sound.orders.unique_new_orders;
    unique_lines = sound.orders.unique_lines;
    next_orders =
        All-with_changed (λ (row : District). 0 < row.next_order) (is_district payment.warehouse payment.district)
        (district_paid payment.amount) (λ row some. some) tables.districts sound.orders.next_orders;
    orders = sound.orders.orders;
    new_orders = sound.orders.new_orders;
    order_lines = sound.orders.order_lines;
  }

  abbrev cents : ℤ
  cents = pos payment.amount

  -- the districts together grow by the amount
  districts-more : (id : ℕ) → id ≡ number → ytd_of_districts id with_paid_in.districts ≡ ytd_of_districts id
      tables.districts
      +ℤ cents
  districts-more id is =
      let found = own-district number payment.district tables sound.rows accepted.district in
      let home : payment.warehouse ≡ id = accepted.home ∙ sym is in
      column_sum-changed (λ (row : District). row.ytd) (is_district payment.warehouse payment.district)
      (λ row. row.warehouse == id) (district_paid payment.amount) cents (λ row. refl) (λ row. refl)
      (λ row passes. eq-eqb row.warehouse id
      ((tells-two row.warehouse row.id payment.warehouse payment.district passes).0 ∙ home)) tables.districts found.0
      (subst (λ w. find (is_district w payment.district) tables.districts ≡ Some found.0) (sym accepted.home) found.1)

  unique : HasUniqueKeys tables
  unique = HasUniqueKeys-one_warehouse number tables sound.rows

  abbrev paid : History
  paid = history_row payment customer tables

  -- what holds of the one warehouse, once its row has grown
  warehouse-paid : (P Q : Warehouse → Type 0)
      → ((row : Warehouse) → row.id ≡ number → P row → Q (warehouse_paid payment.amount row))
      → All P tables.warehouses → All Q with_paid_in.warehouses
  warehouse-paid P Q grows all =
      All-changed_once (λ row. P row × (row.id ≡ number)) Q (is_warehouse payment.warehouse) (warehouse_paid
      payment.amount)
      tables.warehouses (once-warehouse payment.warehouse tables.warehouses unique.warehouses)
      (λ row passes found both. grows row both.1 both.0)
      (λ row fails both. absurd (grind (arith, nat_tests, fails, both.1, accepted.home)))
      (All-of_both P (λ row. row.id ≡ number) (λ row. P row × (row.id ≡ number)) tables.warehouses
      (λ row p own. (p, own)) all (own-warehouse number tables sound.rows))

  paid_in-meets : Meets tables → Meets with_paid_in
  paid_in-meets meets = record {
    districts =
        warehouse-paid (SumsDistricts tables.districts) (SumsDistricts with_paid_in.districts)
        (λ row own sums. omega (arith, ints, sums, districts-more row.id own)) meets.districts;
    numbers =
        All-with_changed (NumbersInRow tables.orders tables.new_orders) (is_district payment.warehouse payment.district)
        (district_paid payment.amount) (λ row in_row. in_row) tables.districts meets.numbers;
    district_lines =
        All-with_changed (CountsDistrict tables.orders tables.order_lines) (is_district payment.warehouse
        payment.district)
        (district_paid payment.amount) (λ row counts. counts) tables.districts meets.district_lines;
    carried = meets.carried;
    lines = meets.lines;
    delivered = meets.delivered;
    paid =
        warehouse-paid (PaidIn tables.history) (PaidIn with_paid_in.history)
        (λ row own sums.
        let more = paid-more paid cents refl tables.history (λ payment. payment.warehouse == row.id)
        (eq-eqb payment.warehouse row.id (accepted.home ∙ sym own)) in
        omega (arith, ints, sums, more)) meets.paid;
    district_paid =
        All-changed_once (PaidInDistrict tables.history) (PaidInDistrict with_paid_in.history)
        (is_district payment.warehouse payment.district) (district_paid payment.amount) tables.districts
        (once-district payment.warehouse payment.district tables.districts unique.districts)
        (λ row passes found sums.
        let more = paid-more paid cents refl tables.history
        (λ payment. (payment.warehouse == row.warehouse) && (payment.district == row.id))
        (grind (arith, nat_tests, passes)) in
        omega (arith, ints, sums, more))
        (λ row fails sums.
        let same = paid-same paid cents refl tables.history
        (λ payment. (payment.warehouse == row.warehouse) && (payment.district == row.id))
        (grind (arith, nat_tests, fails)) in
        omega (arith, ints, sums, same)) meets.district_paid;
    balances = meets.balances;
  }

  pub sound-paid_in : IsSoundWarehouse items number with_paid_in
  sound-paid_in = record {
    rows = paid_in-rows;
    orders = paid_in-orders;
    numbers =
        behind-orders with_paid_in paid_in-orders.next_orders (paid_in-meets (meets-facts tables sound.conditions));
    stock = record { unique = sound.stock.unique; each = sound.stock.each };
    conditions = meets-tests with_paid_in (paid_in-meets (meets-facts tables sound.conditions));
  }

-- ---- at the customer's warehouse

module _ (items : List Item) (number : ℕ) (edition : Edition) (payment : Payment) (customer : ℕ) (tables : Tables)
    (sound : IsSoundWarehouse items number tables) where
  abbrev with_paid_by : Tables
  with_paid_by = paid_by edition payment customer tables

  abbrev is_payer : Customer → Bool
  is_payer = is_customer payment.customer_warehouse payment.customer_district customer

  paid_by-rows : IsOneWarehouse number with_paid_by
  paid_by-rows =
      let same_keys = map-with_changed customer_key is_payer (customer_paid edition payment) (λ row. refl)
      tables.customers in
      record {
        warehouse = sound.rows.warehouse;
        districts = sound.rows.districts;
        customers =
            All-with_changed (λ (row : Customer). row.warehouse ≡ number) is_payer (customer_paid edition payment)
            (λ row own. own) tables.customers sound.rows.customers;
        unique = subst AreUnique (sym same_keys) sound.rows.unique;
      }

  paid_by-orders : HasOwnOrders items number with_paid_by
  paid_by-orders = record {
    unique_orders = sound.orders.unique_orders;
    unique_new_orders = sound.orders.unique_new_orders;
    unique_lines = sound.orders.unique_lines;
    next_orders = sound.orders.next_orders;
    orders =
        All-weaker (IsOwnOrder number tables.customers) (IsOwnOrder number with_paid_by.customers)
        (λ row own. record {
          warehouse = own.warehouse;
          district = own.district;
          positive = own.positive;
          customer =
              list_any-with_changed (is_customer row.warehouse row.district row.customer) is_payer
              (customer_paid edition payment) (λ row. refl) tables.customers ∙ own.customer;
        }) tables.orders sound.orders.orders;
    new_orders = sound.orders.new_orders;
    order_lines = sound.orders.order_lines;
  }

  pub sound-paid_by : IsSoundWarehouse items number with_paid_by
  sound-paid_by = record {
    rows = paid_by-rows;
    orders = paid_by-orders;
    numbers = sound.numbers;
    stock = record { unique = sound.stock.unique; each = sound.stock.each };
    conditions = meets-tests with_paid_by (paid_by-meets (meets-facts tables sound.conditions));
  }
    where
      paid_by-meets : Meets tables → Meets with_paid_by
      paid_by-meets meets = record {
        districts = meets.districts;
        numbers = meets.numbers;
        district_lines = meets.district_lines;
        carried = meets.carried;
        lines = meets.lines;
        delivered = meets.delivered;
        paid = meets.paid;
        district_paid = meets.district_paid;
        balances =
            All-with_changed (IsBalanced tables.orders tables.order_lines) is_payer (customer_paid edition payment)
            (λ row settled. omega (arith, ints, settled)) tables.customers meets.balances;
      }

-- ---- both at one warehouse

pub sound-paid : (items : List Item) (number : ℕ) (edition : Edition) (payment : Payment) (customer : ℕ) (tables : Tables)
    → IsAcceptedPayment number payment → IsSoundWarehouse items number tables
    → IsSoundWarehouse items number (paid_by edition payment customer (paid_in payment customer tables))
sound-paid items number edition payment customer tables accepted sound =
    sound-paid_by items number edition payment customer (paid_in payment customer tables)
    (sound-paid_in items number payment customer tables accepted sound)
