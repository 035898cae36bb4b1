-- The rows of all warehouses together meet the consistency conditions, where the rows of each meet them alone and carry
-- its number: who looks for the rows of one warehouse among all finds the same ones.
use Rattle.std.proofs.Common.{◌≡◌, ℕ, ◌+◌, ◌-◌, ◌-ℤ◌, ◌==◌, ◌&&◌, Bool, true, cond, not, Some, None, List, [], ◌∷◌, flat_map, length, map, filter, refl, sym, ap, subst, ◌∙◌, ext_get_or, arith}
use Rattle.std.specs.Prelude.{All, IsTrue, slice_index_or}
use Rattle.std.specs.List.{find, list_all, range_with_len, sum}
use Rattle.std.specs.Option.{option_map}
use Rattle.std.proofs.lemmas.Int.{ints}
use Rattle.std.proofs.lemmas.Bool.{and_from, and_parts, eqb-true}
use Rattle.std.proofs.lemmas.Bool.Decides.{Decides-by_and, Decides-int_eq, nat_tests}
use Rattle.std.proofs.lemmas.List.Elements.{All-weaker, filter_passes}
use Rattle.std.proofs.lemmas.List.Folds.{flat_map-map}
use Rattle.std.proofs.lemmas.List.FromFn.{get_or-map-range_with_len, length-map-range_with_len}
use Rattle.hy_rows.specs.Tables.{Tables, no_rows, of_warehouse}
use Rattle.hy_rows.specs.declared.customer.Customer.{Customer}
use Rattle.hy_rows.specs.declared.district.District.{District}
use Rattle.hy_rows.specs.declared.history.History.{History}
use Rattle.hy_rows.specs.declared.new_order.NewOrder.{NewOrder}
use Rattle.hy_rows.specs.declared.order.Order.{Order}
use Rattle.hy_rows.specs.declared.order_line.OrderLine.{OrderLine}
use Rattle.hy_rows.specs.declared.warehouse.Warehouse.{Warehouse}
use Rattle.hy_schema.specs.Conditions.{column_sum, condition_10, conditions, delivered_amount, first_broken, is_delivered_less_paid, new_order_numbers, order_numbers, paid_amount}
use Rattle.hy_schema.specs.Related.{is_line_of, is_new_order_of, is_payment_by, lines_of, payments_by}
use Rattle.hy_schema.proofs.ConditionLaws.{delivered-own, filter-implied}
use Rattle.hy_commands.specs.Invariant.{MeetsOwnConditions}
use Rattle.hy_commands.specs.Parts.{Database, is_there, rows_of}
use Rattle.hy_commands.proofs.ListLaws.{All-of_both, any-filter-same, column_sum-flat_map}
use Rattle.hy_commands.proofs.MeetsLaws.{CarriedOrNew, CountsDistrict, CountsLines, DeliveredWithLines, IsBalanced, Meets, NumbersInRow, PaidIn, PaidInDistrict, SumsDistricts}
use Rattle.hy_commands.proofs.NumberLaws.{AreInRow}
use Rattle.hy_database.specs.Database.{all_rows}
use Rattle.hy_database.proofs.NumberedLaws.{All-joined, joined-own}
use Rattle.hy_database.proofs.PaidLaws.{HasPaid, IsPaid, numbered-there, paid_for, there-numbered}

-- ---- the warehouses of a database by their numbers

abbrev pub numbers : Database → List ℕ
numbers database = range_with_len 1 (length database.warehouses)

warehouses-numbered : (database : Database)
    → database.warehouses ≡ map (λ number. rows_of number database) (numbers database)
warehouses-numbered database =
    let count : ℕ = length database.warehouses in
    ext_get_or no_rows database.warehouses (map (λ number. rows_of number database) (numbers database))
    (sym (length-map-range_with_len (λ number. rows_of number database) 1 count))
    (λ place within.
    let here : place ≡ 1 + place - 1 = omega arith in
    ap (λ k. slice_index_or database.warehouses k no_rows) here
    ∙ sym (get_or-map-range_with_len (λ number. rows_of number database) 1 count place (1 + place) no_rows within refl))

pub parts-numbered : {Row : Type 0} (part : Tables → List Row) (database : Database)
    → flat_map part database.warehouses ≡ flat_map (λ number. part (rows_of number database)) (numbers database)
parts-numbered part database =
    ap (flat_map part) (warehouses-numbered database)
    ∙ flat_map-map part (λ number. rows_of number database) (numbers database)

module _ {Row : Type 0} (part : Tables → List Row) (database : Database) where
  -- what holds of the rows of each warehouse holds of all
  pub All-parts : (P : Row → Type 0)
      → ((number : ℕ) → IsTrue (is_there database number) → All P (part (rows_of number database)))
      → All P (flat_map part database.warehouses)
  All-parts P each =
      subst (All P) (sym (parts-numbered part database))
      (All-joined (λ number. part (rows_of number database)) P 1 (length database.warehouses)
      (λ number is. each number (there-numbered database number is)))

  -- the rows of a warehouse among all are its own
  pub own-part : (owner : Row → ℕ)
      → ((number : ℕ) → IsTrue (is_there database number)
      → All (λ row. owner row ≡ number) (part (rows_of number database)))
      → (number : ℕ) → IsTrue (is_there database number)
      → filter (λ row. owner row == number) (flat_map part database.warehouses) ≡ part (rows_of number database)
  own-part owner own number there =
      ap (filter (λ row. owner row == number)) (parts-numbered part database)
      ∙ joined-own (λ number. part (rows_of number database)) owner 1 (length database.warehouses) number
      (numbered-there database number there) (λ other is. own other (there-numbered database other is))

-- ---- the conditions of one warehouse among all

-- what the conditions say of the rows of one warehouse, among all rows
pub record MeetsIn (all here : Tables) : Type 0 where
  pub districts : All (SumsDistricts all.districts) here.warehouses
  pub numbers : All (NumbersInRow all.orders all.new_orders) here.districts
  pub district_lines : All (CountsDistrict all.orders all.order_lines) here.districts
  pub carried : All (CarriedOrNew all.new_orders) here.orders
  pub lines : All (CountsLines all.order_lines) here.orders
  pub delivered : All (DeliveredWithLines all.order_lines) here.orders
  pub paid : All (PaidIn all.history) here.warehouses
  pub district_paid : All (PaidInDistrict all.history) here.districts
  pub balances : All (IsBalanced all.orders all.order_lines) here.customers

-- what follows for the rows that pass a test, since they pass it
passing : {Row : Type 0} (test : Row → Bool) (P Q : Row → Type 0) (rows : List Row)
    → ((row : Row) → P row → test row ≡ true → Q row) → All P (filter test rows) → All Q (filter test rows)
passing test P Q rows follows all =
    All-of_both P (λ row. test row ≡ true) Q (filter test rows) follows all (filter_passes test rows)

module _ (number : ℕ) (all : Tables) where
  abbrev here : Tables
  here = of_warehouse number all

  all-orders : (row : Order) → row.warehouse ≡ number → lines_of row here.order_lines ≡ lines_of row all.order_lines
  all-orders row home =
      filter-implied (is_line_of row) (λ line. line.warehouse == number)
      (λ line passes. grind (arith, nat_tests, passes, home)) all.order_lines

  all-district_orders : (row : District) → row.warehouse ≡ number
      → filter (λ (order : Order). (order.warehouse == row.warehouse) && (order.district == row.id)) here.orders
      ≡ filter (λ (order : Order). (order.warehouse == row.warehouse) && (order.district == row.id)) all.orders
  all-district_orders row home =
      filter-implied (λ order. (order.warehouse == row.warehouse) && (order.district == row.id))
      (λ order. order.warehouse == number) (λ order passes. grind (arith, nat_tests, passes, home)) all.orders

  all-numbers : (row : District) → row.warehouse ≡ number → NumbersInRow here.orders here.new_orders row
      → NumbersInRow all.orders all.new_orders row
  all-numbers row home in_row =
      let orders : order_numbers here.orders row ≡ order_numbers all.orders row =
      ap (map (λ (order : Order). order.id)) (all-district_orders row home) in
      let news : new_order_numbers here.new_orders row ≡ new_order_numbers all.new_orders row =
      ap (map (λ (new : NewOrder). new.order))
      (filter-implied (λ new. (new.warehouse == row.warehouse) && (new.district == row.id))
      (λ new. new.warehouse == number) (λ new passes. grind (arith, nat_tests, passes, home)) all.new_orders) in
      subst (λ list. AreInRow row.next_order list (new_order_numbers all.new_orders row)) orders
      (subst (λ list. AreInRow row.next_order (order_numbers here.orders row) list) news in_row)

  all-counts : (row : District) → row.warehouse ≡ number → CountsDistrict here.orders here.order_lines row
      → CountsDistrict all.orders all.order_lines row
  all-counts row home counts =
      sym (ap (λ orders. sum (map (λ (order : Order). order.line_count) orders)) (all-district_orders row home))
      ∙ counts
      ∙ ap length
      (filter-implied (λ line. (line.warehouse == row.warehouse) && (line.district == row.id))
      (λ line. line.warehouse == number) (λ line passes. grind (arith, nat_tests, passes, home)) all.order_lines)

  meets-in : Meets here → MeetsIn all here
  meets-in meets = record {
    districts =
        passing (λ row. row.id == number) (SumsDistricts here.districts) (SumsDistricts all.districts) all.warehouses
        (λ row sums own. sums ∙ ap (column_sum (λ (district : District). district.ytd))
        (filter-implied (λ district. district.warehouse == row.id) (λ district. district.warehouse == number)
        (λ district passes. grind (arith, nat_tests, passes, own)) all.districts)) meets.districts;
    numbers =
        passing (λ row. row.warehouse == number) (NumbersInRow here.orders here.new_orders)
        (NumbersInRow all.orders all.new_orders) all.districts
        (λ row in_row own. all-numbers row (eqb-true row.warehouse number own) in_row) meets.numbers;
    district_lines =
        passing (λ row. row.warehouse == number) (CountsDistrict here.orders here.order_lines)
        (CountsDistrict all.orders all.order_lines) all.districts
        (λ row counts own. all-counts row (eqb-true row.warehouse number own) counts) meets.district_lines;
    carried =
        passing (λ row. row.warehouse == number) (CarriedOrNew here.new_orders) (CarriedOrNew all.new_orders) all.orders
        (λ row is own. is ∙ any-filter-same (is_new_order_of row) (λ new. new.warehouse == number)
        (λ new other. grind (arith, nat_tests, other, own)) all.new_orders) meets.carried;
    lines =
        passing (λ row. row.warehouse == number) (CountsLines here.order_lines) (CountsLines all.order_lines) all.orders
        (λ row counts own. counts ∙ ap length (all-orders row (eqb-true row.warehouse number own))) meets.lines;
    delivered =
        passing (λ row. row.warehouse == number) (DeliveredWithLines here.order_lines)
        (DeliveredWithLines all.order_lines) all.orders
        (λ row delivered own. subst (All (λ (line : OrderLine). (line.delivery_date == 0) ≡ (row.carrier == 0)))
        (all-orders row (eqb-true row.warehouse number own)) delivered) meets.delivered;
    paid =
        passing (λ row. row.id == number) (PaidIn here.history) (PaidIn all.history) all.warehouses
        (λ row sums own. sums ∙ ap paid_amount
        (filter-implied (λ payment. payment.warehouse == row.id) (λ payment. payment.warehouse == number)
        (λ payment passes. grind (arith, nat_tests, passes, own)) all.history)) meets.paid;
    district_paid =
        passing (λ row. row.warehouse == number) (PaidInDistrict here.history) (PaidInDistrict all.history)
        all.districts
        (λ row sums own. sums ∙ ap paid_amount
        (filter-implied (λ payment. (payment.warehouse == row.warehouse) && (payment.district == row.id))
        (λ payment. payment.warehouse == number) (λ payment passes. grind (arith, nat_tests, passes, own))
        all.history)) meets.district_paid;
    balances =
        passing (λ row. row.warehouse == number) (IsBalanced here.orders here.order_lines)
        (IsBalanced all.orders all.order_lines) all.customers
        (λ row settled own.
        settled ∙ delivered-own number row (eqb-true row.warehouse number own) all.orders all.order_lines)
        meets.balances;
  }

-- ---- all warehouses

-- the rows of a warehouse carry its number, and meet the conditions
pub record IsOwnWarehouse (number : ℕ) (tables : Tables) : Type 0 where
  pub warehouses : All (λ row. row.id ≡ number) tables.warehouses
  pub districts : All (λ row. row.warehouse ≡ number) tables.districts
  pub customers : All (λ row. row.warehouse ≡ number) tables.customers
  pub history : All (λ row. row.warehouse ≡ number) tables.history
  pub new_orders : All (λ row. row.warehouse ≡ number) tables.new_orders
  pub orders : All (λ row. row.warehouse ≡ number) tables.orders
  pub order_lines : All (λ row. row.warehouse ≡ number) tables.order_lines
  pub meets : Meets tables

module _ (database : Database)
    (own : (number : ℕ) → IsTrue (is_there database number) → IsOwnWarehouse number (rows_of number database)) where
  abbrev all : Tables
  all = all_rows database

  module _ (number : ℕ) (there : IsTrue (is_there database number)) where
    abbrev rows : Tables
    rows = rows_of number database

    same-warehouses : (of_warehouse number all).warehouses ≡ rows.warehouses
    same-warehouses =
        own-part (λ tables. tables.warehouses) database (λ (row : Warehouse). row.id) (λ n is. (own n is).warehouses)
        number there

    same-districts : (of_warehouse number all).districts ≡ rows.districts
    same-districts =
        own-part (λ tables. tables.districts) database (λ (row : District). row.warehouse)
        (λ n is. (own n is).districts) number there

    same-customers : (of_warehouse number all).customers ≡ rows.customers
    same-customers =
        own-part (λ tables. tables.customers) database (λ (row : Customer). row.warehouse)
        (λ n is. (own n is).customers) number there

    same-history : (of_warehouse number all).history ≡ rows.history
    same-history =
        own-part (λ tables. tables.history) database (λ (row : History). row.warehouse) (λ n is. (own n is).history)
        number there

    same-new_orders : (of_warehouse number all).new_orders ≡ rows.new_orders
    same-new_orders =
        own-part (λ tables. tables.new_orders) database (λ (row : NewOrder). row.warehouse)
        (λ n is. (own n is).new_orders) number there

    same-orders : (of_warehouse number all).orders ≡ rows.orders
    same-orders =
        own-part (λ tables. tables.orders) database (λ (row : Order). row.warehouse) (λ n is. (own n is).orders) number
        there

    same-order_lines : (of_warehouse number all).order_lines ≡ rows.order_lines
    same-order_lines =
        own-part (λ tables. tables.order_lines) database (λ (row : OrderLine). row.warehouse)
        (λ n is. (own n is).order_lines) number there

    -- no condition looks at stock
    same-rows : of_warehouse number all ≡ record rows { stock = (of_warehouse number all).stock }
    same-rows =
        rw (
          same-warehouses,
          same-districts,
          same-customers,
          same-history,
          same-new_orders,
          same-orders,
          same-order_lines,
        ) refl

    rows-meet : Meets (of_warehouse number all)
    rows-meet =
        let meets = (own number there).meets in
        subst Meets (sym same-rows) (record {
          districts = meets.districts;
          numbers = meets.numbers;
          district_lines = meets.district_lines;
          carried = meets.carried;
          lines = meets.lines;
          delivered = meets.delivered;
          paid = meets.paid;
          district_paid = meets.district_paid;
          balances = meets.balances;
        })

    rows-meet_in : MeetsIn all (record rows { stock = (of_warehouse number all).stock })
    rows-meet_in = subst (MeetsIn all) same-rows (meets-in number all rows-meet)

  pub all-meets : Meets all
  all-meets = record {
    districts =
        All-parts (λ tables. tables.warehouses) database (SumsDistricts all.districts)
        (λ number there. (rows-meet_in number there).districts);
    numbers =
        All-parts (λ tables. tables.districts) database (NumbersInRow all.orders all.new_orders)
        (λ number there. (rows-meet_in number there).numbers);
    district_lines =
        All-parts (λ tables. tables.districts) database (CountsDistrict all.orders all.order_lines)
        (λ number there. (rows-meet_in number there).district_lines);
    carried =
        All-parts (λ tables. tables.orders) database (CarriedOrNew all.new_orders)
        (λ number there. (rows-meet_in number there).carried);
    lines =
        All-parts (λ tables. tables.orders) database (CountsLines all.order_lines)
        (λ number there. (rows-meet_in number there).lines);
    delivered =
        All-parts (λ tables. tables.orders) database (DeliveredWithLines all.order_lines)
        (λ number there. (rows-meet_in number there).delivered);
    paid =
        All-parts (λ tables. tables.warehouses) database (PaidIn all.history)
        (λ number there. (rows-meet_in number there).paid);
    district_paid =
        All-parts (λ tables. tables.districts) database (PaidInDistrict all.history)
        (λ number there. (rows-meet_in number there).district_paid);
    balances =
        All-parts (λ tables. tables.customers) database (IsBalanced all.orders all.order_lines)
        (λ number there. (rows-meet_in number there).balances);
  }

-- ---- condition 10

-- all payments for a customer stand among all rows
paid-all : (database : Database) (customer : Customer)
    → paid_for database customer ≡ paid_amount (payments_by customer (all_rows database).history)
paid-all database customer =
    sym (column_sum-flat_map (λ (row : History). row.amount) (is_payment_by customer)
    (λ number. (rows_of number database).history) (numbers database))
    ∙ sym (ap (λ history. paid_amount (payments_by customer history))
    (parts-numbered (λ tables. tables.history) database))

-- what was paid is the customer's sum, and with condition 12 this is condition 10
pub condition-paid : (database : Database) → Meets (all_rows database) → IsPaid database
    → condition_10 (all_rows database) ≡ true
condition-paid database meets paid =
    let all : Tables = all_rows database in
    let sums : All (λ row. row.ytd_payment ≡ paid_amount (payments_by row all.history)) all.customers =
    All-parts (λ tables. tables.customers) database (λ row. row.ytd_payment ≡ paid_amount (payments_by row all.history))
    (λ number there. All-weaker (HasPaid database)
    (λ row. row.ytd_payment ≡ paid_amount (payments_by row all.history))
    (λ row is. is ∙ paid-all database row) (rows_of number database).customers (paid.paid number there)) in
    (Decides-by_and (is_delivered_less_paid all) (λ row. row.balance
    ≡ delivered_amount all.orders all.order_lines row -ℤ paid_amount (payments_by row all.history))
    (list_all (is_delivered_less_paid all)) (λ row. Decides-int_eq _ _) refl (λ row rows. refl) all.customers).1
    (All-of_both (IsBalanced all.orders all.order_lines)
    (λ row. row.ytd_payment ≡ paid_amount (payments_by row all.history)) (λ row. row.balance
    ≡ delivered_amount all.orders all.order_lines row -ℤ paid_amount (payments_by row all.history)) all.customers
    (λ row settled sum. omega (arith, ints, settled, sum)) meets.balances sums)

-- ---- all conditions

-- rows that meet some conditions break none of them
unbroken-met : (tables : Tables) (tests : List (ℕ × (Tables → Bool)))
    → list_all (λ condition. condition.1 tables) tests ≡ true
    → option_map (λ condition. condition.0) (find (λ condition. not (condition.1 tables)) tests) ≡ None
unbroken-met tables [] met = refl
unbroken-met tables (first ∷ tests) met =
    let both = and_parts (first.1 tables) (list_all (λ condition. condition.1 tables) tests) met in
    ap (λ b. option_map (λ condition. condition.0)
    (cond (not b) (Some first) (find (λ condition. not (condition.1 tables)) tests))) both.0
    ∙ unbroken-met tables tests both.1

pub unbroken-rows : (tables : Tables) → MeetsOwnConditions tables → condition_10 tables ≡ true
    → first_broken tables ≡ None
unbroken-rows tables own paid =
    unbroken-met tables conditions
    (and_from _ _ own.condition_1 (and_from _ _ own.condition_2 (and_from _ _ own.condition_3 (and_from _ _
    own.condition_4 (and_from _ _ own.condition_5 (and_from _ _ own.condition_6 (and_from _ _ own.condition_7
    (and_from _ _ own.condition_8 (and_from _ _ own.condition_9 (and_from _ _ paid (and_from _ true own.condition_12
    refl)))))))))))
