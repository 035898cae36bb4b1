-- Rows that break none of the conditions meet them all, and what was delivered to a customer is seen in the rows of the
-- customer's warehouse alone.
use Rattle.std.proofs.Common.{◌≡◌, ℕ, ◌==◌, Bool, true, false, cond, List, [], ◌∷◌, ◌++◌, filter, refl, ap, ap₂, ◌∙◌}
use Rattle.std.specs.Prelude.{not, Some, None, option_map, ◌&&◌}
use Rattle.std.specs.List.{flat_map, list_all, find}
use Rattle.std.proofs.lemmas.Bool.{and_parts, eq-eqb, eqb-true}
use Rattle.hy_rows.specs.Tables.{Tables}
use Rattle.hy_rows.specs.declared.customer.Customer.{Customer}
use Rattle.hy_rows.specs.declared.order.Order.{Order}
use Rattle.hy_rows.specs.declared.order_line.OrderLine.{OrderLine}
use Rattle.hy_schema.specs.Conditions.{column_sum, conditions, delivered_amount, first_broken, is_consistent}
use Rattle.hy_schema.specs.Related.{is_delivered, is_line_of, is_order_by, lines_of, orders_by}

-- rows that break none of some conditions meet them all
all-unbroken : (tables : Tables) (tests : List (ℕ × (Tables → Bool)))
    → option_map (λ condition. condition.0) (find (λ condition. not (condition.1 tables)) tests) ≡ None
    → list_all (λ condition. condition.1 tables) tests ≡ true
all-unbroken tables [] unbroken = refl
all-unbroken tables (first ∷ tests) unbroken = elim (first.1 tables) as (λ b.
    option_map (λ condition. condition.0) (cond (not b) (Some first) (find (λ condition. not (condition.1 tables)) tests)) ≡ None
    → (b && list_all (λ condition. condition.1 tables) tests) ≡ true) [
      | true ↦ λ later. all-unbroken tables tests later
      | false ↦ λ broken. absurd (cc)
    ] unbroken

pub consistent-unbroken : (tables : Tables) → first_broken tables ≡ None → is_consistent tables ≡ true
consistent-unbroken tables unbroken = all-unbroken tables conditions unbroken

-- where each row that passes a test passes another, filtering by the other first changes nothing
pub filter-implied : {Row : Type 0} (test other : Row → Bool) → ((row : Row) → test row ≡ true → other row ≡ true)
    → (rows : List Row) → filter test (filter other rows) ≡ filter test rows
filter-implied test other implied [] = refl
filter-implied test other implied (row ∷ rows) =
    elim (other row) as (λ b. other row ≡ b
    → filter test (cond b (row ∷ filter other rows) (filter other rows)) ≡ filter test (row ∷ rows)) [
      | true ↦ λ passes. ap (λ later. cond (test row) (row ∷ later) later) (filter-implied test other implied rows)
      | false ↦ λ fails.
          elim (test row) as (λ b. test row ≡ b
          → filter test (filter other rows) ≡ cond b (row ∷ filter test rows) (filter test rows)) [
            | true ↦ λ chosen. absurd (not_both (other row) fails (implied row chosen))
            | false ↦ λ left. filter-implied test other implied rows
          ] refl
    ] refl
  where
    not_both : (b : Bool) → b ≡ false → b ≡ true → ⊥
    not_both true fails passes = absurd (cc)
    not_both false fails passes = absurd (cc)

-- a customer's orders and their lines are rows of the customer's warehouse
module _ (number : ℕ) (customer : Customer) (home : customer.warehouse ≡ number) where
  order_at_home : (row : Order) → is_order_by customer row ≡ true → (row.warehouse == number) ≡ true
  order_at_home row ordered =
      let same = eqb-true row.warehouse customer.warehouse (and_parts _ _ (and_parts _ _ ordered).0).0 in
      eq-eqb row.warehouse number (same ∙ home)

  line_at_home : (order : Order) → (order.warehouse == number) ≡ true → (line : OrderLine) → is_line_of order line ≡ true
      → (line.warehouse == number) ≡ true
  line_at_home order at_home line of_order =
      let same = eqb-true line.warehouse order.warehouse (and_parts _ _ (and_parts _ _ of_order).0).0 in
      eq-eqb line.warehouse number (same ∙ eqb-true order.warehouse number at_home)

  own_lines : (orders : List Order) (lines : List OrderLine)
      → flat_map (λ order. lines_of order (filter (λ line. line.warehouse == number) lines)) (orders_by customer orders)
      ≡ flat_map (λ order. lines_of order lines) (orders_by customer orders)
  own_lines [] lines = refl
  own_lines (order ∷ orders) lines =
      let Own : List OrderLine = filter (λ line. line.warehouse == number) lines in
      elim (is_order_by customer order) as (λ b. is_order_by customer order ≡ b
      → flat_map (λ order. lines_of order Own) (cond b (order ∷ orders_by customer orders) (orders_by customer orders))
      ≡ flat_map (λ order. lines_of order lines) (cond b (order ∷ orders_by customer orders) (orders_by customer orders))) [
        | true ↦ λ ordered.
            ap₂ (λ these others. these ++ others)
            (filter-implied (is_line_of order) (λ line. line.warehouse == number)
            (line_at_home order (order_at_home order ordered)) lines)
            (own_lines orders lines)
        | false ↦ λ other. own_lines orders lines
      ] refl

  -- so what was delivered to a customer is seen in the rows of the warehouse
  pub delivered-own : (orders : List Order) (lines : List OrderLine)
      → delivered_amount (filter (λ row. row.warehouse == number) orders)
      (filter (λ row. row.warehouse == number) lines) customer ≡ delivered_amount orders lines customer
  delivered-own orders lines =
      let Own : List OrderLine = filter (λ row. row.warehouse == number) lines in
      ap (λ own. column_sum (λ line. line.amount) (filter is_delivered (flat_map (λ order. lines_of order Own) own)))
      (filter-implied (is_order_by customer) (λ row. row.warehouse == number) order_at_home orders)
      ∙ ap (λ all. column_sum (λ line. line.amount) (filter is_delivered all)) (own_lines orders lines)
