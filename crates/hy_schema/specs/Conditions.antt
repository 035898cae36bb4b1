-- Consistency conditions 1 to 10 and 12 (TPC-C clause 3.3.2) over the lists of one or of all warehouses, as tests that the
-- checker can compute. Condition 11 describes the first population alone. Condition 10 looks at payments for a customer in
-- any warehouse, so that it is one of all warehouses together; the others hold of each by itself too.
use Rattle.std.specs.Prelude.{ℕ, ◌+◌, ◌-◌, ℤ, pos, ◌+ℤ◌, ◌-ℤ◌, min, max, ◌==◌, ◌&&◌, Bool, true, not, if◌then◌else◌, Option, List, [], ◌∷◌, map, length, filter, fold, find, option_map}
use Rattle.std.specs.List.{list_all, sum}
use Rattle.std.proofs.Common.{int_eq}
use Rattle.hy_rows.specs.declared.warehouse.Warehouse.{Warehouse}
use Rattle.hy_rows.specs.declared.district.District.{District}
use Rattle.hy_rows.specs.declared.customer.Customer.{Customer}
use Rattle.hy_rows.specs.declared.history.History.{History}
use Rattle.hy_rows.specs.declared.new_order.NewOrder.{NewOrder}
use Rattle.hy_rows.specs.declared.order.Order.{Order}
use Rattle.hy_rows.specs.declared.order_line.OrderLine.{OrderLine}
use Rattle.hy_rows.specs.Tables.{Tables}
use Rattle.hy_schema.specs.Related.{delivered_to, is_undelivered, lines_of, lines_of_district, new_orders_of, orders_of, payments_by, payments_in, payments_in_district}

-- the sum of a column of signed numbers
abbrev pub column_sum : {Row : Type 0} → (Row → ℤ) → List Row → ℤ
column_sum column rows = fold (λ sum row. sum +ℤ column row) (pos 0) rows

-- the greatest and the least of some numbers; 0 where there is none
abbrev pub greatest : List ℕ → ℕ
greatest numbers = fold max 0 numbers

abbrev pub least : List ℕ → ℕ
least [] = 0
least (number ∷ numbers) = fold min number numbers

-- both hold, or neither does
abbrev pub agree : Bool → Bool → Bool
agree one other = if one then other else not other

-- condition 1 (clause 3.3.2.1): W_YTD is the sum of the D_YTD of its districts
abbrev pub ytd_of_districts : ℕ → List District → ℤ
ytd_of_districts warehouse districts = column_sum (λ row. row.ytd) (filter (λ row. row.warehouse == warehouse) districts)

abbrev pub is_sum_of_districts : List District → Warehouse → Bool
is_sum_of_districts districts row = int_eq row.ytd (ytd_of_districts row.id districts)

abbrev pub condition_1 : Tables → Bool
condition_1 tables = list_all (is_sum_of_districts tables.districts) tables.warehouses

-- the numbers of a district's orders, and of those that are undelivered
abbrev pub order_numbers : List Order → District → List ℕ
order_numbers orders row = map (λ order. order.id) (orders_of row.warehouse row.id orders)

abbrev pub new_order_numbers : List NewOrder → District → List ℕ
new_order_numbers new_orders row = map (λ new. new.order) (new_orders_of row.warehouse row.id new_orders)

-- condition 2 (clause 3.3.2.2): D_NEXT_O_ID - 1 is the greatest O_ID of the district, and where it has undelivered orders
-- the greatest NO_O_ID
abbrev pub is_behind_orders : List Order → List NewOrder → District → Bool
is_behind_orders orders new_orders row =
    let news : List ℕ = new_order_numbers new_orders row in
    (row.next_order - 1 == greatest (order_numbers orders row))
    && (if length news == 0 then true else row.next_order - 1 == greatest news)

abbrev pub condition_2 : Tables → Bool
condition_2 tables = list_all (is_behind_orders tables.orders tables.new_orders) tables.districts

-- condition 3 (clause 3.3.2.3): where a district has undelivered orders, there are as many as numbers from the least to
-- the greatest NO_O_ID
abbrev pub has_new_orders_in_row : List NewOrder → District → Bool
has_new_orders_in_row new_orders row =
    let news : List ℕ = new_order_numbers new_orders row in
    if length news == 0 then true else greatest news - least news + 1 == length news

abbrev pub condition_3 : Tables → Bool
condition_3 tables = list_all (has_new_orders_in_row tables.new_orders) tables.districts

-- condition 4 (clause 3.3.2.4): the sum of O_OL_CNT of a district's orders is the number of its order lines
abbrev pub has_all_lines : List Order → List OrderLine → District → Bool
has_all_lines orders lines row =
    sum (map (λ order. order.line_count) (orders_of row.warehouse row.id orders))
    == length (lines_of_district row.warehouse row.id lines)

abbrev pub condition_4 : Tables → Bool
condition_4 tables = list_all (has_all_lines tables.orders tables.order_lines) tables.districts

-- condition 5 (clause 3.3.2.5): O_CARRIER_ID is null exactly where the order is undelivered
abbrev pub is_carried_or_new : List NewOrder → Order → Bool
is_carried_or_new new_orders row = agree (row.carrier == 0) (is_undelivered new_orders row)

abbrev pub condition_5 : Tables → Bool
condition_5 tables = list_all (is_carried_or_new tables.new_orders) tables.orders

-- condition 6 (clause 3.3.2.6): O_OL_CNT is the number of the order's lines
abbrev pub counts_its_lines : List OrderLine → Order → Bool
counts_its_lines lines row = row.line_count == length (lines_of row lines)

abbrev pub condition_6 : Tables → Bool
condition_6 tables = list_all (counts_its_lines tables.order_lines) tables.orders

-- condition 7 (clause 3.3.2.7): OL_DELIVERY_D is null exactly where O_CARRIER_ID of the line's order is
abbrev pub is_delivered_with_lines : List OrderLine → Order → Bool
is_delivered_with_lines lines row =
    list_all (λ line. agree (line.delivery_date == 0) (row.carrier == 0)) (lines_of row lines)

abbrev pub condition_7 : Tables → Bool
condition_7 tables = list_all (is_delivered_with_lines tables.order_lines) tables.orders

-- what payments come to, in cents
abbrev pub paid_amount : List History → ℤ
paid_amount payments = column_sum (λ row. row.amount) payments

-- condition 8 (clause 3.3.2.8): W_YTD is the sum of H_AMOUNT of the payments in the warehouse
abbrev pub is_paid_in : List History → Warehouse → Bool
is_paid_in history row = int_eq row.ytd (paid_amount (payments_in row.id history))

abbrev pub condition_8 : Tables → Bool
condition_8 tables = list_all (is_paid_in tables.history) tables.warehouses

-- condition 9 (clause 3.3.2.9): D_YTD is the sum of H_AMOUNT of the payments in the district
abbrev pub is_paid_in_district : List History → District → Bool
is_paid_in_district history row = int_eq row.ytd (paid_amount (payments_in_district row.warehouse row.id history))

abbrev pub condition_9 : Tables → Bool
condition_9 tables = list_all (is_paid_in_district tables.history) tables.districts

-- what was delivered to a customer, in cents
abbrev pub delivered_amount : List Order → List OrderLine → Customer → ℤ
delivered_amount orders lines row = column_sum (λ line. line.amount) (delivered_to row orders lines)

-- condition 10 (clause 3.3.2.10): C_BALANCE is what was delivered to the customer less what was paid for the customer
abbrev pub is_delivered_less_paid : Tables → Customer → Bool
is_delivered_less_paid tables row =
    int_eq row.balance
    (delivered_amount tables.orders tables.order_lines row -ℤ paid_amount (payments_by row tables.history))

abbrev pub condition_10 : Tables → Bool
condition_10 tables = list_all (is_delivered_less_paid tables) tables.customers

-- condition 12 (clause 3.3.2.12): C_BALANCE + C_YTD_PAYMENT is what was delivered to the customer
abbrev pub is_balanced : List Order → List OrderLine → Customer → Bool
is_balanced orders lines row = int_eq (row.balance +ℤ row.ytd_payment) (delivered_amount orders lines row)

abbrev pub condition_12 : Tables → Bool
condition_12 tables = list_all (is_balanced tables.orders tables.order_lines) tables.customers

-- all conditions, with their numbers
abbrev pub conditions : List (ℕ × (Tables → Bool))
conditions =
    (1, condition_1) ∷ (2, condition_2) ∷ (3, condition_3) ∷ (4, condition_4) ∷ (5, condition_5) ∷ (6, condition_6)
    ∷ (7, condition_7) ∷ (8, condition_8) ∷ (9, condition_9) ∷ (10, condition_10) ∷ (12, condition_12) ∷ []

-- whether the rows meet them all
abbrev pub is_consistent : Tables → Bool
is_consistent tables = list_all (λ condition. condition.1 tables) conditions

-- the number of the first condition that the rows break
abbrev pub first_broken : Tables → Option ℕ
first_broken tables =
    option_map (λ condition. condition.0) (find (λ condition. not (condition.1 tables)) conditions)
