-- How many rows are scanned or combined for queries over a few rows; the checker computes each row.
use Rattle.std.specs.Prelude.{◌≡◌, ◌^◌, ◌-◌, ◌+◌, ℕ, List, [], ◌∷◌, map, Result, Ok, Err, codes, refl}
use Rattle.std.specs.Fmt.{digits}
use Rattle.hy_decimal.specs.Numbers.{number_of}
use Rattle.hy_rows.specs.Tables.{Lists, no_rows}
use Rattle.hy_rows.specs.WorkedRows.{fresh_warehouse}
use Rattle.hy_rows.specs.declared.district.District.{District}
use Rattle.hy_query.specs.Counting.{bounded, count_for}
use Rattle.hy_query.specs.Language.{query_of}
use Rattle.hy_query.specs.Queries.{QueryState}
use Rattle.hy_query.specs.WorkedAnswers.{district, item, stock}

-- two warehouses `a` and `b`; districts 1 and 2 of the first, and 1 of the second; three items, which warehouse 2 has all,
-- and warehouse 1 but for the last
abbrev district_of : ℕ → ℕ → List ℕ → District
district_of warehouse number name = record (district warehouse name 4) { id = number }

abbrev shop : Lists
shop = record {
  items = item 1 (codes "nut") 300 ∷ item 2 (codes "bolt") 20 ∷ item 3 (codes "pin") 10 ∷ [];
  tables = record no_rows {
    warehouses = record fresh_warehouse { id = 1; name = codes "a" } ∷ record fresh_warehouse { id = 2; name = codes "b" }
        ∷ [];
    districts = district_of 1 1 (codes "b") ∷ district_of 1 2 (codes "ab") ∷ district_of 2 1 (codes "b") ∷ [];
    stock = stock 1 1 30 ∷ stock 1 2 10 ∷ stock 2 1 30 ∷ stock 2 2 20 ∷ stock 2 3 5 ∷ [];
  };
}

-- the count for a text
abbrev count_in : Lists → Result QueryState ℕ → ℕ
count_in lists (Ok query) = count_for query lists
count_in lists (Err place) = 0

abbrev counted : List ℕ → ℕ
counted text = count_in shop (query_of text)

-- ---- one table

-- each row counts once, whatever is asked of it, and whether it is in the answer or not
one_table : map counted (codes "from item select i_id" ∷ codes "from item select i_id, i_name, i_price" ∷
    codes "from item select count" ∷ codes "from item where i_id = 2 select i_id" ∷
    codes "from item where i_id > 5 group i_name select i_name, sum i_price order 1 desc" ∷ [])
    ≡ 3 ∷ 3 ∷ 3 ∷ 3 ∷ 3 ∷ []
unfolding number_of digits
one_table = refl

abbrev table_without_rows : counted (codes "from orders select o_id") ≡ 0
table_without_rows = refl

-- ---- two tables

-- without conditions each of 3 rows counts with each of 5, behind the 8 themselves
abbrev each_with_each : map counted (codes "from item, stock select i_id" ∷ codes "from stock, item select count" ∷ [])
    ≡ (8 + 15) ∷ (8 + 15) ∷ []
each_with_each = refl

-- with equal numbers alone 2, 2 and 1 rows count, whichever side of the condition stands first
equal_numbers : map counted (codes "from item, stock where i_id = s_i_id select i_id" ∷
    codes "from item, stock where s_i_id = i_id select i_id" ∷
    codes "from stock, item where i_id = s_i_id select i_id" ∷
    codes "from stock, item where s_i_id = i_id select i_id" ∷ [])
    ≡ (8 + 5) ∷ (8 + 5) ∷ (8 + 5) ∷ (8 + 5) ∷ []
unfolding number_of digits
equal_numbers = refl

-- the name `b` is that of two districts
equal_texts : map counted (codes "from warehouse, district where w_name = d_name select w_id" ∷
    codes "from district, warehouse where w_name = d_name select w_id" ∷ [])
    ≡ (5 + 2) ∷ (5 + 2) ∷ []
unfolding number_of digits
equal_texts = refl

-- one item with 5 rows, and each item with the 3 rows of a warehouse, or the 2 whose own columns are equal
own_conditions : map counted (codes "from item, stock where i_id = 1 select i_id" ∷
    codes "from item, stock where s_w_id = 2 select i_id" ∷
    codes "from item, stock where s_i_id = s_w_id select i_id" ∷
    codes "from item, stock where s_w_id = 2 and s_quantity < 30 select i_id" ∷ [])
    ≡ (8 + 5) ∷ (8 + 9) ∷ (8 + 6) ∷ (8 + 6) ∷ []
unfolding number_of digits
own_conditions = refl

own_beside_equal : map counted (codes "from item, stock where i_id = s_i_id and s_w_id = 2 select i_id" ∷
    codes "from item, stock where i_name > 'n' and i_id = s_i_id select i_id" ∷ [])
    ≡ (8 + 3) ∷ (8 + 3) ∷ []
unfolding number_of digits
own_beside_equal = refl

-- other conditions between the two exclude a row from the answer, and it counts yet
other_comparisons : map counted (codes "from item, stock where i_id < s_i_id select i_id" ∷
    codes "from item, stock where i_id <= s_i_id select i_id" ∷
    codes "from item, stock where i_id > s_i_id select i_id" ∷
    codes "from item, stock where i_id >= s_i_id select i_id" ∷
    codes "from item, stock where i_id <> s_i_id select i_id" ∷ [])
    ≡ (8 + 15) ∷ (8 + 15) ∷ (8 + 15) ∷ (8 + 15) ∷ (8 + 15) ∷ []
unfolding number_of digits
other_comparisons = refl

-- of two conditions that ask for equal numbers a row meets both, or it doesn't count
two_equal_numbers : counted (codes "from district, stock where d_w_id = s_w_id and d_id = s_i_id select d_id") ≡ 8 + 3
unfolding number_of digits
two_equal_numbers = refl

-- one that asks for equal numbers, and one that doesn't
equal_and_other : counted (codes "from district, stock where d_w_id = s_w_id and d_id < s_i_id select d_id")
    ≡ 8 + 7
unfolding number_of digits
equal_and_other = refl

-- ---- more tables

-- 3 districts with their warehouses, and 2 stock rows with each of these
chain_of_three : counted (codes "from warehouse, district, stock where w_id = d_w_id and d_id = s_i_id select w_id")
    ≡ 10 + 3 + 6
unfolding number_of digits
chain_of_three = refl

-- a third table joined with the first, behind 3 combinations: 2 rows with each of warehouse 1, and 3 with that of 2
first_with_third : map counted (
    codes "from warehouse, district, stock where w_id = d_w_id and w_id = s_w_id select w_id" ∷
    codes "from warehouse, district, stock where w_id = d_w_id and s_w_id = w_id select w_id" ∷ [])
    ≡ (10 + 3 + 7) ∷ (10 + 3 + 7) ∷ []
unfolding number_of digits
first_with_third = refl

-- a third table that is joined with none counts with each combination of the others
third_alone : counted (codes "from warehouse, district, item where w_id = d_w_id select w_id") ≡ 8 + 3 + 9
unfolding number_of digits
third_alone = refl

-- what met a row and is no combination of the answer has no third table behind it: one of 6 is left
excluded_before_third : counted (codes "from warehouse, district, item where w_id < d_id select w_id") ≡ 8 + 6 + 3
unfolding number_of digits
excluded_before_third = refl

-- a condition on a third table excludes nothing before it
excluded_at_third : counted (codes "from warehouse, district, item where w_id > i_id select w_id") ≡ 8 + 6 + 18
unfolding number_of digits
excluded_at_third = refl

-- conditions on each table alone: 2 stock rows in warehouse 1, with each of 2 districts, for each of 2 items
own_of_each : counted (codes "from item, district, stock where s_w_id = 1 and d_w_id = 1 and i_id < 3 select i_id")
    ≡ 11 + 4 + 8
unfolding number_of digits
own_of_each = refl

-- 3 combinations of two tables, 7 of three, and the item of each
four_tables : counted
    (codes "from warehouse, district, stock, item where w_id = d_w_id and w_id = s_w_id and s_i_id = i_id select w_id")
    ≡ 13 + 3 + 7 + 7
unfolding number_of digits
four_tables = refl

-- where the outermost table has no row, or another, the rows of all are scanned yet
first_without_rows : map counted (codes "from orders, item, stock select o_id" ∷
    codes "from orders, stock where o_id = s_i_id select o_id" ∷ codes "from item, orders, stock select o_id" ∷
    codes "from item, stock, orders select o_id" ∷ [])
    ≡ 8 ∷ 5 ∷ 8 ∷ (8 + 15) ∷ []
unfolding number_of digits
first_without_rows = refl

-- ---- the greatest count

abbrev counts_stay : map bounded (0 ∷ (2 ^ 64 - 2) ∷ (2 ^ 64 - 1) ∷ (2 ^ 64) ∷ (2 ^ 64 + 5) ∷ [])
    ≡ 0 ∷ (2 ^ 64 - 2) ∷ (2 ^ 64 - 1) ∷ (2 ^ 64 - 1) ∷ (2 ^ 64 - 1) ∷ []
counts_stay = refl
