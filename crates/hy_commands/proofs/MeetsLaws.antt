-- The consistency conditions of a warehouse as facts on its rows, there and back.
use Rattle.std.proofs.Common.{◌≡◌, ℕ, ◌+◌, ◌-◌, ◌<◌, ◌+ℤ◌, ◌==◌, Bool, true, false, cond, List, [], ◌∷◌, map, length, refl, sym, subst, arith}
use Rattle.std.specs.Prelude.{All}
use Rattle.std.specs.Bool.{Decides}
use Rattle.std.specs.List.{list_all, sum}
use Rattle.std.proofs.lemmas.Bool.Decides.{Decides-and, Decides-by_and, Decides-eqb, Decides-int_eq, nat_tests}
use Rattle.std.proofs.lemmas.List.Elements.{All-weaker}
use Rattle.hy_rows.specs.Tables.{Tables}
use Rattle.hy_rows.specs.declared.customer.Customer.{Customer}
use Rattle.hy_rows.specs.declared.district.District.{District}
use Rattle.hy_rows.specs.declared.history.History.{History}
use Rattle.hy_rows.specs.declared.new_order.NewOrder.{NewOrder}
use Rattle.hy_rows.specs.declared.order.Order.{Order}
use Rattle.hy_rows.specs.declared.order_line.OrderLine.{OrderLine}
use Rattle.hy_rows.specs.declared.warehouse.Warehouse.{Warehouse}
use Rattle.hy_schema.specs.Conditions.{agree, counts_its_lines, delivered_amount, greatest, has_all_lines, has_new_orders_in_row, is_balanced, is_behind_orders, is_carried_or_new, is_delivered_with_lines, is_paid_in, is_paid_in_district, is_sum_of_districts, least, new_order_numbers, order_numbers, paid_amount, ytd_of_districts}
use Rattle.hy_schema.specs.Related.{is_undelivered, lines_of, lines_of_district, orders_of, payments_in, payments_in_district}
use Rattle.hy_commands.specs.Invariant.{IsBehindOrders, MeetsOwnConditions}
use Rattle.hy_commands.proofs.ListLaws.{All-of_both}
use Rattle.hy_commands.proofs.NumberLaws.{AreInRow, in_row-below}
use Rattle.hy_commands.proofs.OnceLaws.{All-keys}

-- each condition as a fact on one row
abbrev pub SumsDistricts : List District → Warehouse → Type 0
SumsDistricts districts row = row.ytd ≡ ytd_of_districts row.id districts

abbrev pub NumbersInRow : List Order → List NewOrder → District → Type 0
NumbersInRow orders news row = AreInRow row.next_order (order_numbers orders row) (new_order_numbers news row)

abbrev pub CountsDistrict : List Order → List OrderLine → District → Type 0
CountsDistrict orders lines row =
    sum (map (λ order. order.line_count) (orders_of row.warehouse row.id orders))
    ≡ length (lines_of_district row.warehouse row.id lines)

abbrev pub CarriedOrNew : List NewOrder → Order → Type 0
CarriedOrNew news row = (row.carrier == 0) ≡ is_undelivered news row

abbrev pub CountsLines : List OrderLine → Order → Type 0
CountsLines lines row = row.line_count ≡ length (lines_of row lines)

abbrev pub DeliveredWithLines : List OrderLine → Order → Type 0
DeliveredWithLines lines row = All (λ line. (line.delivery_date == 0) ≡ (row.carrier == 0)) (lines_of row lines)

abbrev pub PaidIn : List History → Warehouse → Type 0
PaidIn history row = row.ytd ≡ paid_amount (payments_in row.id history)

abbrev pub PaidInDistrict : List History → District → Type 0
PaidInDistrict history row = row.ytd ≡ paid_amount (payments_in_district row.warehouse row.id history)

abbrev pub IsBalanced : List Order → List OrderLine → Customer → Type 0
IsBalanced orders lines row = row.balance +ℤ row.ytd_payment ≡ delivered_amount orders lines row

pub record Meets (tables : Tables) : Type 0 where
  pub districts : All (SumsDistricts tables.districts) tables.warehouses
  pub numbers : All (NumbersInRow tables.orders tables.new_orders) tables.districts
  pub district_lines : All (CountsDistrict tables.orders tables.order_lines) tables.districts
  pub carried : All (CarriedOrNew tables.new_orders) tables.orders
  pub lines : All (CountsLines tables.order_lines) tables.orders
  pub delivered : All (DeliveredWithLines tables.order_lines) tables.orders
  pub paid : All (PaidIn tables.history) tables.warehouses
  pub district_paid : All (PaidInDistrict tables.history) tables.districts
  pub balances : All (IsBalanced tables.orders tables.order_lines) tables.customers

-- a test of all rows, from the test of each
all-decides : {Row : Type 0} (test : Row → Bool) (P : Row → Type 0) → ((row : Row) → Decides (test row) (P row))
    → (rows : List Row) → Decides (list_all test rows) (All P rows)
all-decides test P each rows = Decides-by_and test P (list_all test) each refl (λ row rows. refl) rows

agree-decides : (one other : Bool) → Decides (agree one other) (one ≡ other)
agree-decides true true = (λ t. refl, λ same. refl)
agree-decides true false = (λ t. absurd (cc), λ same. absurd (cc))
agree-decides false true = (λ t. absurd (cc), λ same. absurd (cc))
agree-decides false false = (λ t. refl, λ same. refl)

-- a test where a list isn't empty
some-decides : (test : Bool) (P : Type 0) (numbers : List ℕ) → Decides test P
    → Decides (cond (length numbers == 0) true test) (0 < length numbers → P)
some-decides test P [] decides = (λ t more. absurd (omega (arith, more)), λ follows. refl)
some-decides test P (n ∷ numbers) decides =
    let some : (length (n ∷ numbers) == 0) ≡ false = grind (arith, nat_tests) in (
      λ t more. decides.0 (subst (λ b. cond b true test ≡ true) some t),
      λ follows. subst (λ b. cond b true test ≡ true) (sym some) (decides.1 (follows (omega arith))),
    )

condition_1-decides : (districts : List District) (rows : List Warehouse)
    → Decides (list_all (is_sum_of_districts districts) rows) (All (SumsDistricts districts) rows)
condition_1-decides districts =
    all-decides (is_sum_of_districts districts) (SumsDistricts districts)
    (λ row. Decides-int_eq row.ytd (ytd_of_districts row.id districts))

abbrev Behind : List Order → List NewOrder → District → Type 0
Behind orders news row =
    (row.next_order - 1 ≡ greatest (order_numbers orders row))
    × (0 < length (new_order_numbers news row) → row.next_order - 1 ≡ greatest (new_order_numbers news row))

abbrev InRow : List NewOrder → District → Type 0
InRow news row =
    0 < length (new_order_numbers news row)
    → greatest (new_order_numbers news row) - least (new_order_numbers news row) + 1 ≡ length (new_order_numbers news
    row)

condition_2-decides : (orders : List Order) (news : List NewOrder) (rows : List District)
    → Decides (list_all (is_behind_orders orders news) rows) (All (Behind orders news) rows)
condition_2-decides orders news =
    all-decides (is_behind_orders orders news) (Behind orders news)
    (λ row. Decides-and (row.next_order - 1 == greatest (order_numbers orders row)) _
    (Decides-eqb (row.next_order - 1) (greatest (order_numbers orders row)))
    (some-decides (row.next_order - 1 == greatest (new_order_numbers news row)) _ (new_order_numbers news row)
    (Decides-eqb (row.next_order - 1) (greatest (new_order_numbers news row)))))

condition_3-decides : (news : List NewOrder) (rows : List District)
    → Decides (list_all (has_new_orders_in_row news) rows) (All (InRow news) rows)
condition_3-decides news =
    all-decides (has_new_orders_in_row news) (InRow news)
    (λ row. let numbers : List ℕ = new_order_numbers news row in
    some-decides (greatest numbers - least numbers + 1 == length numbers) _ numbers
    (Decides-eqb (greatest numbers - least numbers + 1) (length numbers)))

condition_4-decides : (orders : List Order) (lines : List OrderLine) (rows : List District)
    → Decides (list_all (has_all_lines orders lines) rows) (All (CountsDistrict orders lines) rows)
condition_4-decides orders lines =
    all-decides (has_all_lines orders lines) (CountsDistrict orders lines) (λ row. Decides-eqb _ _)

condition_5-decides : (news : List NewOrder) (rows : List Order)
    → Decides (list_all (is_carried_or_new news) rows) (All (CarriedOrNew news) rows)
condition_5-decides news =
    all-decides (is_carried_or_new news) (CarriedOrNew news)
    (λ row. agree-decides (row.carrier == 0) (is_undelivered news row))

condition_6-decides : (lines : List OrderLine) (rows : List Order)
    → Decides (list_all (counts_its_lines lines) rows) (All (CountsLines lines) rows)
condition_6-decides lines = all-decides (counts_its_lines lines) (CountsLines lines) (λ row. Decides-eqb _ _)

condition_7-decides : (lines : List OrderLine) (rows : List Order)
    → Decides (list_all (is_delivered_with_lines lines) rows) (All (DeliveredWithLines lines) rows)
condition_7-decides lines =
    all-decides (is_delivered_with_lines lines) (DeliveredWithLines lines)
    (λ row. all-decides (λ line. agree (line.delivery_date == 0) (row.carrier == 0))
    (λ line. (line.delivery_date == 0) ≡ (row.carrier == 0))
    (λ line. agree-decides (line.delivery_date == 0) (row.carrier == 0)) (lines_of row lines))

condition_8-decides : (history : List History) (rows : List Warehouse)
    → Decides (list_all (is_paid_in history) rows) (All (PaidIn history) rows)
condition_8-decides history = all-decides (is_paid_in history) (PaidIn history) (λ row. Decides-int_eq _ _)

condition_9-decides : (history : List History) (rows : List District)
    → Decides (list_all (is_paid_in_district history) rows) (All (PaidInDistrict history) rows)
condition_9-decides history =
    all-decides (is_paid_in_district history) (PaidInDistrict history) (λ row. Decides-int_eq _ _)

condition_12-decides : (orders : List Order) (lines : List OrderLine) (rows : List Customer)
    → Decides (list_all (is_balanced orders lines) rows) (All (IsBalanced orders lines) rows)
condition_12-decides orders lines =
    all-decides (is_balanced orders lines) (IsBalanced orders lines) (λ row. Decides-int_eq _ _)

pub meets-facts : (tables : Tables) → MeetsOwnConditions tables → Meets tables
meets-facts tables meets = record {
  districts = (condition_1-decides tables.districts tables.warehouses).0 meets.condition_1;
  numbers =
      All-of_both (Behind tables.orders tables.new_orders) (InRow tables.new_orders)
      (NumbersInRow tables.orders tables.new_orders) tables.districts
      (λ row behind in_row. record { behind = behind.0; behind_new = behind.1; in_row = in_row })
      ((condition_2-decides tables.orders tables.new_orders tables.districts).0 meets.condition_2)
      ((condition_3-decides tables.new_orders tables.districts).0 meets.condition_3);
  district_lines = (condition_4-decides tables.orders tables.order_lines tables.districts).0 meets.condition_4;
  carried = (condition_5-decides tables.new_orders tables.orders).0 meets.condition_5;
  lines = (condition_6-decides tables.order_lines tables.orders).0 meets.condition_6;
  delivered = (condition_7-decides tables.order_lines tables.orders).0 meets.condition_7;
  paid = (condition_8-decides tables.history tables.warehouses).0 meets.condition_8;
  district_paid = (condition_9-decides tables.history tables.districts).0 meets.condition_9;
  balances = (condition_12-decides tables.orders tables.order_lines tables.customers).0 meets.condition_12;
}

pub meets-tests : (tables : Tables) → Meets tables → MeetsOwnConditions tables
meets-tests tables meets = record {
  condition_1 = (condition_1-decides tables.districts tables.warehouses).1 meets.districts;
  condition_2 =
      (condition_2-decides tables.orders tables.new_orders tables.districts).1
      (All-weaker (NumbersInRow tables.orders tables.new_orders) (Behind tables.orders tables.new_orders)
      (λ row in_row. (in_row.behind, in_row.behind_new)) tables.districts meets.numbers);
  condition_3 =
      (condition_3-decides tables.new_orders tables.districts).1
      (All-weaker (NumbersInRow tables.orders tables.new_orders) (InRow tables.new_orders)
      (λ row in_row. in_row.in_row) tables.districts meets.numbers);
  condition_4 = (condition_4-decides tables.orders tables.order_lines tables.districts).1 meets.district_lines;
  condition_5 = (condition_5-decides tables.new_orders tables.orders).1 meets.carried;
  condition_6 = (condition_6-decides tables.order_lines tables.orders).1 meets.lines;
  condition_7 = (condition_7-decides tables.order_lines tables.orders).1 meets.delivered;
  condition_8 = (condition_8-decides tables.history tables.warehouses).1 meets.paid;
  condition_9 = (condition_9-decides tables.history tables.districts).1 meets.district_paid;
  condition_12 = (condition_12-decides tables.orders tables.order_lines tables.customers).1 meets.balances;
}

-- where condition 2 holds, and no next number is 0, the numbers of orders are below
pub behind-orders : (tables : Tables) → All (λ row. 0 < row.next_order) tables.districts → Meets tables
    → All (IsBehindOrders tables.orders) tables.districts
behind-orders tables some meets =
    All-of_both (λ row. 0 < row.next_order) (NumbersInRow tables.orders tables.new_orders) (IsBehindOrders
    tables.orders)
    tables.districts
    (λ row above in_row.
    All-keys (λ id. id < row.next_order) (λ (order : Order). order.id) (orders_of row.warehouse row.id tables.orders)
    (in_row-below row.next_order (order_numbers tables.orders row) (new_order_numbers tables.new_orders row) above
    in_row))
    some meets.numbers
