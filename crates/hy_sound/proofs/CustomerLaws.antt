-- The customers of a load, looked at one after the other: those of a district stand one behind another, and some passes a
-- test exactly where the customer who is meant is there.
use Rattle.std.proofs.Common.{◌≡◌, ◌+◌, ◌-◌, ◌/◌, ◌<◌, ◌≤◌, ◌==◌, ◌&&◌, ◌||◌, ℕ, zero, suc, Bool, true, false, cond, List, [], ◌∷◌, length, filter, get_or, Option, None, Some, is_some, inl, inr, refl, sym, ap, ◌∙◌, subst, arith}
use Rattle.std.specs.Prelude.{IfSome, slice_get}
use Rattle.std.specs.List.{list_any}
use Rattle.std.specs.List.Sorted.{IsNonDecreasingBy}
use Rattle.std.specs.Str.{bytes_eq}
use Rattle.std.proofs.lemmas.Bool.{and_parts, eq-eqb, eqb-true}
use Rattle.std.proofs.lemmas.Bool.Decides.{nat_tests}
use Rattle.std.proofs.lemmas.List.Sorted.{IsNonDecreasingBy-from_all_adjacent}
use Rattle.std.proofs.lemmas.Map.Views.{any-filter_same}
use Rattle.std.proofs.lemmas.Option.{slice_get-get_or}
use Rattle.hy_rows.specs.Finding.{is_customer}
use Rattle.hy_rows.specs.Ranges.{is_between}
use Rattle.hy_rows.specs.Tables.{Lists, of_warehouse}
use Rattle.hy_rows.specs.declared.customer.Customer.{Customer}
use Rattle.hy_rows.proofs.BetweenLaws.{bounds}
use Rattle.hy_schema.specs.Loads.{IsCustomerAfter, IsCustomerAt, IsLoad, row_before}
use Rattle.hy_commands.specs.declared.command.Command.{Command}
use Rattle.hy_commands.specs.declared.command.Who.TheVariants as who
use Rattle.hy_commands.specs.Commands.{CustomerName, customer_home_of, customer_named, home_of, home_or, is_district_number, refusal_of_numbers}
use Rattle.hy_commands.specs.inside.Kinds.{named-district}
use Rattle.hy_commands.specs.Customers.{customer_meant, is_earlier, is_named, middle_of}
use Rattle.hy_commands.specs.Parts.{database_of, rows_of}
use Rattle.hy_commands.specs.Sorting.{inserted, sorted}
use Rattle.hy_commands.specs.Transactions.{is_customer_there}
use Rattle.hy_commands.proofs.AcceptedLaws.{passed-numbers}
use Rattle.hy_commands.proofs.DatabaseLaws.{rows-load}
use Rattle.hy_commands.proofs.ListLaws.{found-any}
use Rattle.hy_loads.proofs.ThereLaws.{few_warehouses}
use Rattle.hy_sound.specs.inside.Places.{district_place, knows_customer, stands_at}
use Rattle.hy_sound.proofs.KnownLaws.{home-there}

-- ---- districts rise along the customers

after-rises : (before row : Customer) → IsCustomerAfter (Some before) row → stands_at before ≤ stands_at row
after-rises before row after = elim after [
  | inl same ↦ omega (arith, same.0, same.1)
  | inr (inl same, first) ↦ omega (arith, same.0, same.1)
  | inr (inr next, first) ↦ omega (arith, next.0, next.1, next.2)
]

row_before-suc : (rows : List Customer) (place : ℕ) → row_before rows (suc place) ≡ slice_get rows place
row_before-suc rows place =
    let some : (suc place == 0) ≡ false = grind (arith, nat_tests) in
    let same : suc place - 1 ≡ place = omega arith in
    rw (some, same) refl

module _ (warehouses : ℕ) (rows : List Customer)
    (each : (place : ℕ) → IfSome (slice_get rows place) (IsCustomerAt warehouses rows place)) where
  after-at : (place : ℕ) (before row : Customer) → slice_get rows place ≡ Some before
      → slice_get rows (suc place) ≡ Some row → IsCustomerAfter (Some before) row
  after-at place before row there next =
      let right = subst (λ (found : Option Customer). IfSome found (IsCustomerAt warehouses rows (suc place))) next (each (suc place)) in
      subst (λ (found : Option Customer). IsCustomerAfter found row) (row_before-suc rows place ∙ there) right.2

  pub places-rise : IsNonDecreasingBy stands_at rows
  places-rise =
      IsNonDecreasingBy-from_all_adjacent stands_at rows (λ k d within.
      let same : suc k ≡ k + 1 = omega arith in
      subst (λ n. stands_at (get_or rows k d) ≤ stands_at (get_or rows n d)) same
      (after-rises (get_or rows k d) (get_or rows (suc k) d)
      (after-at k (get_or rows k d) (get_or rows (suc k) d)
      (slice_get-get_or rows k d (omega (arith, within))) (slice_get-get_or rows (suc k) d (omega (arith, within))))))

-- ---- a customer of a district

module _ (warehouse district : ℕ) where
  abbrev place : ℕ
  place = district_place warehouse district

  numbered-here : (number : ℕ) (row : Customer) → is_customer warehouse district number row ≡ true
      → (stands_at row == place) ≡ true
  numbered-here number row is =
      let both = and_parts ((row.warehouse == warehouse) && (row.district == district)) (row.id == number) is in
      let key = and_parts (row.warehouse == warehouse) (row.district == district) both.0 in
      let one : row.warehouse ≡ warehouse = eqb-true row.warehouse warehouse key.0 in
      let other : row.district ≡ district = eqb-true row.district district key.1 in
      eq-eqb (stands_at row) place (omega (arith, one, other))

  named-here : (name : List ℕ) (row : Customer) → is_named warehouse district name row ≡ true
      → (stands_at row == place) ≡ true
  named-here name row is =
      let both = and_parts ((row.warehouse == warehouse) && (row.district == district)) (bytes_eq row.last name) is in
      let key = and_parts (row.warehouse == warehouse) (row.district == district) both.0 in
      let one : row.warehouse ≡ warehouse = eqb-true row.warehouse warehouse key.0 in
      let other : row.district ≡ district = eqb-true row.district district key.1 in
      eq-eqb (stands_at row) place (omega (arith, one, other))

  -- some customer of the district passes exactly where one of all does
  pub any-numbered : (number : ℕ) (rows : List Customer)
      → list_any (is_customer warehouse district number) (filter (λ row. stands_at row == place) rows)
      ≡ list_any (is_customer warehouse district number) rows
  any-numbered number rows =
      any-filter_same (is_customer warehouse district number) (λ row. stands_at row == place) true (numbered-here number) rows

  pub any-named : (name : List ℕ) (rows : List Customer)
      → list_any (is_named warehouse district name) (filter (λ row. stands_at row == place) rows)
      ≡ list_any (is_named warehouse district name) rows
  any-named name rows =
      any-filter_same (is_named warehouse district name) (λ row. stands_at row == place) true (named-here name) rows

-- ---- the one in the middle of some

abbrev is_filled : List Customer → Bool
is_filled [] = false
is_filled (row ∷ rows) = true

get-within : (rows : List Customer) (place : ℕ) → place < length rows → is_some (slice_get rows place) ≡ true
get-within [] place within = absurd (omega (arith, within))
get-within (row ∷ rows) zero within = refl
get-within (row ∷ rows) (suc place) within = get-within rows place (omega (arith, within))

filled-middle : (rows : List Customer) → is_some (middle_of rows) ≡ is_filled rows
filled-middle [] = refl
filled-middle (row ∷ rows) = get-within (row ∷ rows) ((length (row ∷ rows) + 1) / 2 - 1) (omega arith)

filled-inserted : (less : Customer → Customer → Bool) (new : Customer) (rows : List Customer)
    → is_filled (inserted less new rows) ≡ true
filled-inserted less new [] = refl
filled-inserted less new (row ∷ rows) =
    elim (less new row) as (λ b. is_filled (cond b (new ∷ row ∷ rows) (row ∷ inserted less new rows)) ≡ true) [
      | true ↦ refl
      | false ↦ refl
    ]

filled-sorted : (less : Customer → Customer → Bool) (rows : List Customer)
    → is_filled (sorted less rows) ≡ is_filled rows
filled-sorted less [] = refl
filled-sorted less (row ∷ rows) = filled-inserted less row (sorted less rows)

filled-filter : (test : Customer → Bool) (rows : List Customer) → is_filled (filter test rows) ≡ list_any test rows
filled-filter test [] = refl
filled-filter test (row ∷ rows) =
    elim (test row) as (λ b. is_filled (cond b (row ∷ filter test rows) (filter test rows)) ≡ (b || list_any test rows)) [
      | true ↦ refl
      | false ↦ filled-filter test rows
    ]

-- ---- the customer who is meant

module _ (warehouse district : ℕ) (rows : List Customer) where
  abbrev own : List Customer
  own = filter (λ row. row.warehouse == warehouse) rows

  pub meant-number : (number : ℕ) → list_any (is_customer warehouse district number) rows
      ≡ is_some (customer_meant warehouse district (who.Number number) own)
  meant-number number =
      sym (any-filter_same (is_customer warehouse district number) (λ row. row.warehouse == warehouse) true
      (λ row is. (and_parts (row.warehouse == warehouse) (row.district == district)
      (and_parts ((row.warehouse == warehouse) && (row.district == district)) (row.id == number) is).0).0) rows)
      ∙ sym (found-any (is_customer warehouse district number) own)

  pub meant-name : (name : List ℕ) → list_any (is_named warehouse district name) rows
      ≡ is_some (customer_meant warehouse district (who.Last name) own)
  meant-name name =
      sym (any-filter_same (is_named warehouse district name) (λ row. row.warehouse == warehouse) true
      (λ row is. (and_parts (row.warehouse == warehouse) (row.district == district)
      (and_parts ((row.warehouse == warehouse) && (row.district == district)) (bytes_eq row.last name) is).0).0) rows)
      ∙ sym (filled-filter (is_named warehouse district name) own)
      ∙ sym (filled-sorted is_earlier (filter (is_named warehouse district name) own))
      ∙ sym (filled-middle (sorted is_earlier (filter (is_named warehouse district name) own)))

-- ---- what a command asks for

module _ (lists : Lists) (command : Command)
    (passed : refusal_of_numbers (is_between 1 (length lists.tables.warehouses)) command ≡ None) where
  abbrev home : ℕ
  home = customer_home_of command

  rows-are : of_warehouse home lists.tables ≡ rows_of home (database_of lists)
  rows-are = sym (rows-load lists home (home-there lists command passed))

  -- a warehouse that is there has a small number, and so has a district
  pub small-home : IsLoad lists → home ≤ 255
  small-home is =
      let last = (bounds 1 (length lists.tables.warehouses) home (home-there lists command passed)).1 in
      omega (arith, last, few_warehouses lists.tables.warehouses is.warehouses)

  module _ (customer : CustomerName) (named : customer_named command ≡ Some customer) where
    pub small-warehouse : IsLoad lists → customer.warehouse ≤ 255
    small-warehouse is = subst (λ n. n ≤ 255) (ap (home_or (home_of command)) named) (small-home is)

    pub small-district : customer.district ≤ 255
    small-district =
        let districts = (passed-numbers (is_between 1 (length lists.tables.warehouses)) command passed).districts in
        let is : is_district_number customer.district ≡ true =
        subst (λ (named : Option CustomerName). IfSome named (λ customer. is_district_number customer.district ≡ true)) named
        (named-district command districts) in
        let last = (bounds 1 10 customer.district is).1 in
        omega (arith, last)

    pub knows-customer : is_some (customer_meant customer.warehouse customer.district customer.who
        (of_warehouse customer.warehouse lists.tables).customers) ≡ knows_customer lists command
    knows-customer =
        let here : home ≡ customer.warehouse = ap (home_or (home_of command)) named in
        ap (λ w. is_customer_there (of_warehouse w lists.tables) (Some customer)) (sym here)
        ∙ ap (λ tables. is_customer_there tables (Some customer)) rows-are
        ∙ ap (is_customer_there (rows_of home (database_of lists))) (sym named)

pub knows-nobody : (lists : Lists) (command : Command) → customer_named command ≡ None → true ≡ knows_customer lists command
knows-nobody lists command none =
    ap (is_customer_there (rows_of (customer_home_of command) (database_of lists))) (sym none)
