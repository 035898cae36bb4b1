-- The generated lists of customers and of their payments are right.
use Rattle.std.proofs.Common.{◌≡◌, ℕ, zero, suc, ◌*◌, ◌<◌, ◌≤◌, Bool, true, List, length, Option, Some, None, IfSome, slice_get, refl, sym, subst, ◌∙◌, inl, inr, arith}
use Rattle.std.specs.Prelude.{IsSomeAnd, ⊤}
use Rattle.std.specs.List.{list_any}
use Rattle.std.proofs.lemmas.Bool.{and_from, eq-eqb}
use Rattle.std.proofs.lemmas.Nat.{mul-le}
use Rattle.hy_rows.specs.declared.customer.Customer.{Customer}
use Rattle.hy_rows.specs.declared.district.District.{District}
use Rattle.hy_rows.specs.declared.history.History.{History}
use Rattle.hy_rows.specs.Finding.{is_customer, is_district}
use Rattle.hy_rows.specs.Limits.{districts_per_warehouse, max_customers, max_warehouses}
use Rattle.hy_rows.specs.Ranges.{IsBetween}
use Rattle.hy_rows.specs.Rows.{IsCustomerInRange}
use Rattle.hy_rows.proofs.BetweenLaws.{bounds}
use Rattle.hy_schema.specs.Loads.{HasAllCustomers, IsCustomerAfter, IsCustomerAt, IsHistoryAt, IsRight, row_before}
use Rattle.hy_tables.specs.Generated.{by_customer, generated_customer, generated_district, generated_payment, joined_up_to, rows_up_to}
use Rattle.hy_tables.proofs.FollowLaws.{Follow, follow-each, follow-joined, follow-rows, last_of, last_of-joined, last_of-rows, row_before-end}
use Rattle.hy_tables.proofs.JoinedLaws.{Each, joined_up_to-each, length-joined_up_to, length-rows_up_to, list_any-joined, list_any-rows, rows_up_to-each}
use Rattle.hy_tables.proofs.ListLaws.{district_rows, districts_in, numbered}
use Rattle.hy_tables.proofs.RangeLaws.{customer_in_range, payment_in_range}

-- rows for each customer of each district
module _ {Row : Type 0} (row : ℕ → ℕ → ℕ → Row) (customers : ℕ) where
  pub length-by_customer : (warehouse : ℕ) → length (by_customer row customers warehouse) ≡ 10 * customers
  length-by_customer warehouse =
      length-joined_up_to (λ district. rows_up_to (row warehouse district) customers) customers
      (λ district. length-rows_up_to (row warehouse district) customers) 10

  -- there are few
  pub few-by_customer : (warehouses : ℕ) → warehouses ≤ max_warehouses → customers ≤ max_customers
      → length (joined_up_to (by_customer row customers) warehouses) ≤ 480_000
  few-by_customer warehouses few_warehouses few_customers =
      omega (
        arith,
        length-joined_up_to (by_customer row customers) (10 * customers) length-by_customer warehouses,
        mul-le warehouses (10 * customers) 16 30_000 few_warehouses (omega (arith, few_customers)),
      )

  -- what holds of the row of each customer of a warehouse, and of all
  pub each-in_warehouse : (P : Row → Type 0) (warehouse : ℕ)
      → ((district customer : ℕ) → district < 10 → customer < customers
      → P (row warehouse (suc district) (suc customer)))
      → Each (λ place row. P row) (by_customer row customers warehouse)
  each-in_warehouse P warehouse each =
      joined_up_to-each (λ place row. P row) (λ district. rows_up_to (row warehouse district) customers) customers
      (λ district. length-rows_up_to (row warehouse district) customers) 10
      (λ district of_ten. rows_up_to-each (λ place row. P row) (row warehouse (suc district)) customers
      (λ customer below. each district customer of_ten below))

  pub each-by_customer : (P : Row → Type 0) (warehouses : ℕ)
      → ((warehouse district customer : ℕ) → warehouse < warehouses → district < 10 → customer < customers
      → P (row (suc warehouse) (suc district) (suc customer)))
      → Each (λ place row. P row) (joined_up_to (by_customer row customers) warehouses)
  each-by_customer P warehouses each =
      joined_up_to-each (λ place row. P row) (by_customer row customers) (10 * customers) length-by_customer warehouses
      (λ warehouse of_all. each-in_warehouse P (suc warehouse)
      (λ district customer of_ten below. each warehouse district customer of_all of_ten below))

-- the customers of a district, of a warehouse and of all stand in their order
customers-follow : (few warehouse district : ℕ)
    → IsCustomerAfter (Some (generated_customer warehouse district (suc few)))
    (generated_customer warehouse district (suc (suc few)))
customers-follow few warehouse district = inl (refl, refl, omega arith)

in_warehouse-follow : (few warehouse : ℕ) (before : Option Customer)
    → IsCustomerAfter before (generated_customer warehouse 1 1)
    → Follow IsCustomerAfter before (by_customer generated_customer (suc few) warehouse)
in_warehouse-follow few warehouse before first =
    follow-joined IsCustomerAfter (λ district. rows_up_to (generated_customer warehouse district) (suc few))
    (λ district. generated_customer warehouse district (suc few))
    (λ district other. last_of-rows (generated_customer warehouse district) few other) before
    (follow-rows IsCustomerAfter (generated_customer warehouse 1) before first
    (λ number. customers-follow number warehouse 1) (suc few))
    (λ district. follow-rows IsCustomerAfter (generated_customer warehouse (suc (suc district)))
    (Some (generated_customer warehouse (suc district) (suc few))) (inr (inl (refl, omega arith), refl))
    (λ number. customers-follow number warehouse (suc (suc district))) (suc few)) 10

warehouse-ends : (few warehouse : ℕ) (before : Option Customer)
    → last_of before (by_customer generated_customer (suc few) warehouse)
    ≡ Some (generated_customer warehouse 10 (suc few))
warehouse-ends few warehouse before =
    last_of-joined (λ district. rows_up_to (generated_customer warehouse district) (suc few))
    (λ district. generated_customer warehouse district (suc few))
    (λ district other. last_of-rows (generated_customer warehouse district) few other) 9 before

all-follow : (few warehouses : ℕ)
    → Follow IsCustomerAfter None (joined_up_to (by_customer generated_customer (suc few)) warehouses)
all-follow few warehouses =
    follow-joined IsCustomerAfter (by_customer generated_customer (suc few))
    (λ warehouse. generated_customer warehouse 10 (suc few)) (warehouse-ends few) None
    (in_warehouse-follow few 1 None (refl, refl, refl))
    (λ warehouse. in_warehouse-follow few (suc (suc warehouse)) (Some (generated_customer (suc warehouse) 10 (suc few)))
    (inr (inr (refl, omega arith, refl), refl))) warehouses

-- and end with the last district
all-customers : (few last : ℕ)
    → HasAllCustomers (suc last) (joined_up_to (by_customer generated_customer (suc few)) (suc last))
all-customers few last =
    let rows : List Customer = joined_up_to (by_customer generated_customer (suc few)) (suc last) in
    subst (λ end. IsSomeAnd end (λ row. (row.warehouse ≡ suc last) × (row.district ≡ districts_per_warehouse)))
    (sym (row_before-end rows ∙ last_of-joined (by_customer generated_customer (suc few))
    (λ warehouse. generated_customer warehouse 10 (suc few)) (warehouse-ends few) last None)) (refl, refl)

-- two facts on a row
both_some : {Row : Type 0} (P Q R : Row → Type 0) (row : Option Row) → ((one : Row) → P one → Q one → R one)
    → IfSome row P → IfSome row Q → IfSome row R
both_some P Q R None follows first second = tt
both_some P Q R (Some row) follows first second = follows row first second

-- CUSTOMER
abbrev pub customer_rows : ℕ → ℕ → List Customer
customer_rows customers warehouses = joined_up_to (by_customer generated_customer customers) warehouses

pub customers-right : (customers warehouses : ℕ) → IsBetween 1 max_customers customers
    → IsBetween 1 max_warehouses warehouses
    → IsRight (IsCustomerAt warehouses (customer_rows customers warehouses))
    (HasAllCustomers warehouses (customer_rows customers warehouses)) (customer_rows customers warehouses)
customers-right zero warehouses customers_between between =
    absurd (omega (arith, (bounds 1 max_customers 0 customers_between).0))
customers-right (suc few) zero customers_between between =
    absurd (omega (arith, (bounds 1 max_warehouses 0 between).0))
customers-right (suc few) (suc last) customers_between between =
    let rows : List Customer = customer_rows (suc few) (suc last) in
    let In : Customer → Type 0 = λ row. IsCustomerInRange row × (row.warehouse ≤ suc last) in
    let in_range : Each (λ place row. In row) rows =
    each-by_customer generated_customer (suc few) In (suc last) (λ warehouse district customer of_all of_ten below. (
      customer_in_range (suc warehouse) (suc district) (suc customer)
          (numbered max_warehouses (suc last) warehouse between of_all)
          (numbered districts_per_warehouse districts_per_warehouse district refl of_ten)
          (numbered max_customers (suc few) customer customers_between below),
      omega (arith, of_all),
    )) in
    record {
      each = λ place. both_some In (λ row. IsCustomerAfter (row_before rows place) row)
          (IsCustomerAt (suc last) rows place) (slice_get rows place) (λ row within after. (within.0, within.1, after))
          (in_range place) (follow-each IsCustomerAfter rows (all-follow few (suc last)) place);
      few = omega (
        arith,
        few-by_customer generated_customer (suc few) (suc last)
            ((bounds 1 max_warehouses (suc last) between).1) ((bounds 1 max_customers (suc few) customers_between).1),
      );
      whole = all-customers few last;
    }

-- HISTORY
abbrev pub payment_rows : ℕ → ℕ → List History
payment_rows customers warehouses = joined_up_to (by_customer generated_payment customers) warehouses

-- the district and the customer of a payment are there
district-there : (customers warehouses warehouse district : ℕ) → warehouse < warehouses → district < 10
    → list_any (is_district (suc warehouse) (suc district)) (district_rows customers warehouses) ≡ true
district-there customers warehouses warehouse district of_all of_ten =
    list_any-joined (is_district (suc warehouse) (suc district)) (districts_in customers) warehouses warehouse of_all
    (list_any-rows (is_district (suc warehouse) (suc district)) (generated_district customers (suc warehouse)) 10
    district of_ten
    (and_from _ _ (eq-eqb (suc warehouse) (suc warehouse) refl) (eq-eqb (suc district) (suc district) refl)))

customer-there : (customers warehouses warehouse district customer : ℕ) → warehouse < warehouses → district < 10
    → customer < customers
    → list_any (is_customer (suc warehouse) (suc district) (suc customer)) (customer_rows customers warehouses) ≡ true
customer-there customers warehouses warehouse district customer of_all of_ten below =
    let test : Customer → Bool = is_customer (suc warehouse) (suc district) (suc customer) in
    list_any-joined test (by_customer generated_customer customers) warehouses warehouse of_all
    (list_any-joined test (λ number. rows_up_to (generated_customer (suc warehouse) number) customers) 10 district
    of_ten
    (list_any-rows test (generated_customer (suc warehouse) (suc district)) customers customer below
    (and_from _ _
    (and_from _ _ (eq-eqb (suc warehouse) (suc warehouse) refl) (eq-eqb (suc district) (suc district) refl))
    (eq-eqb (suc customer) (suc customer) refl))))

pub history-right : (customers warehouses : ℕ) → IsBetween 1 max_customers customers
    → IsBetween 1 max_warehouses warehouses
    → IsRight (IsHistoryAt (district_rows customers warehouses) (customer_rows customers warehouses)) ⊤
    (payment_rows customers warehouses)
history-right customers warehouses customers_between between =
    let districts : List District = district_rows customers warehouses in
    record {
      each = each-by_customer generated_payment customers
          (IsHistoryAt districts (customer_rows customers warehouses) 0) warehouses
          (λ warehouse district customer of_all of_ten below. (
            payment_in_range (suc warehouse) (suc district) (suc customer)
                (numbered max_warehouses warehouses warehouse between of_all)
                (numbered districts_per_warehouse districts_per_warehouse district refl of_ten)
                (numbered max_customers customers customer customers_between below),
            district-there customers warehouses warehouse district of_all of_ten,
            customer-there customers warehouses warehouse district customer of_all of_ten below,
          ));
      few = omega (
        arith,
        few-by_customer generated_payment customers warehouses
            ((bounds 1 max_warehouses warehouses between).1) ((bounds 1 max_customers customers customers_between).1),
      );
      whole = tt;
    }
