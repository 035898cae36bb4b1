-- Answers to queries over a few rows; the checker computes each row.
use Rattle.std.specs.Prelude.{◌≡◌, ◌^◌, ◌-◌, ◌++◌, ℕ, ℤ, List, [], ◌∷◌, map, pos, negsuc, neg_ℤ, Result, Ok, Err, codes, refl}
use Rattle.std.specs.Fmt.{digits}
use Rattle.std.specs.Int.{int_wrap}
use Rattle.hy_decimal.specs.Numbers.{number_of}
use Rattle.hy_rows.specs.Tables.{Lists, no_rows}
use Rattle.hy_rows.specs.declared.district.District.{District}
use Rattle.hy_rows.specs.declared.item.Item.{Item}
use Rattle.hy_rows.specs.declared.stock.Stock.{Stock}
use Rattle.hy_rows.specs.declared.catalogue.Table.TheVariants as tables
use Rattle.hy_query.specs.declared.query.SelectItem.TheVariants as items
use Rattle.hy_rows.specs.declared.value.Value.TheVariants.{Text, Whole}
use Rattle.hy_query.specs.Language.{query_of}
use Rattle.hy_query.specs.Meaning.{answer_of, item_of}
use Rattle.hy_query.specs.Queries.{QueryState, no_query}
use Rattle.hy_query.specs.Rows.{Row}

-- the answer to a text
abbrev pub answer_in : Lists → Result QueryState ℕ → List Row
answer_in lists (Ok query) = answer_of query lists
answer_in lists (Err place) = []

-- two warehouses with a district and two stock rows each, and two items
abbrev pub district : ℕ → List ℕ → ℕ → District
district warehouse name tax =
    record { id = 1; warehouse = warehouse; name = name; tax = tax; ytd = pos 5; next_order = 1 }

abbrev pub stock : ℕ → ℕ → ℕ → Stock
stock warehouse item quantity =
    record { item = item; warehouse = warehouse; quantity = quantity; ytd = 0; order_count = 0; remote_count = 0 }

abbrev pub item : ℕ → List ℕ → ℕ → Item
item number name price = record { id = number; image = 7; name = name; price = price }

abbrev shop : Lists
shop = record {
  items = item 1 (codes "nut") 300 ∷ item 2 (codes "bolt") 20 ∷ [];
  tables = record no_rows {
    districts = district 1 (codes "b") 4 ∷ district 2 (codes "ab") 4 ∷ [];
    stock = stock 1 1 30 ∷ stock 1 2 10 ∷ stock 2 1 30 ∷ stock 2 2 20 ∷ [];
  };
}

abbrev asked : List ℕ → List Row
asked text = answer_in shop (query_of text)

abbrev pub number : ℕ → Row
number value = Whole (pos value) ∷ []

abbrev pub numbers : List ℕ → Row
numbers values = map (λ value. Whole (pos value)) values

-- ---- combinations and conditions

-- the first table is outermost, whatever the order of their columns; equal rows stay apart
first_table_outermost : asked (codes "from item, stock where s_w_id = 1 select s_i_id, i_id")
    ≡ (number 1 ++ number 1) ∷ (number 2 ++ number 1) ∷ (number 1 ++ number 2) ∷ (number 2 ++ number 2) ∷ []
unfolding number_of digits
first_table_outermost = refl

equal_rows_stay : asked (codes "from stock, item where s_i_id = i_id and i_price > 20 select s_quantity")
    ≡ number 30 ∷ number 30 ∷ []
unfolding number_of digits
equal_rows_stay = refl

-- texts compare by bytes: `ab` is less than `b`, though it is longer
texts_by_bytes : asked (codes "from district where d_name < 'b' select d_name") ≡ (Text (codes "ab") ∷ []) ∷ []
unfolding number_of digits
texts_by_bytes = refl

-- ---- groups

-- in the order of their first rows, and not of their keys
groups_in_order_of_first : asked (codes "from stock group s_quantity select s_quantity, count, sum s_i_id")
    ≡ (number 30 ++ number 2 ++ number 2) ∷ (number 10 ++ number 1 ++ number 2) ∷ (number 20 ++ number 1 ++ number 2)
    ∷ []
unfolding int_wrap
groups_in_order_of_first = refl

abbrev least_and_greatest : asked (codes "from district, item select min d_name, max i_name, min i_price")
    ≡ (Text (codes "ab") ∷ Text (codes "nut") ∷ Whole (pos 20) ∷ []) ∷ []
least_and_greatest = refl

-- over no rows there is no group; without aggregates there is no row
abbrev no_group_over_no_rows : map asked (codes "from orders select count" ∷
    codes "from orders group o_id select o_id, count" ∷ codes "from orders, item select i_id" ∷ [])
    ≡ [] ∷ [] ∷ [] ∷ []
no_group_over_no_rows = refl

-- a sum and a count are those of 128 bits: behind the greatest number comes the least
abbrev sum_over : List ℤ → Row
sum_over numbers = item_of (record no_query { tables = tables.Item ∷ [] })
    (map (λ value. (Whole value ∷ []) ∷ []) numbers) (items.Sum (record { table = tables.Item; place = 0 })) ∷ []

sums_wrap : sum_over (pos (2 ^ 127 - 1) ∷ pos 1 ∷ []) ∷ sum_over (pos (2 ^ 127) ∷ pos (2 ^ 127) ∷ pos 3 ∷ [])
    ∷ sum_over (neg_ℤ (pos (2 ^ 127)) ∷ negsuc 0 ∷ []) ∷ []
    ≡ (Whole (neg_ℤ (pos (2 ^ 127))) ∷ []) ∷ (Whole (pos 3) ∷ []) ∷ (Whole (pos (2 ^ 127 - 1)) ∷ []) ∷ []
unfolding int_wrap
sums_wrap = refl

-- ---- keys

-- rows that tie keep their order, also where the greatest comes first
ties_keep_their_order : asked (codes "from stock select s_quantity, s_w_id, s_i_id order 1 desc")
    ≡ (number 30 ++ number 1 ++ number 1) ∷ (number 30 ++ number 2 ++ number 1) ∷ (number 20 ++ number 2 ++ number 2)
    ∷ (number 10 ++ number 1 ++ number 2) ∷ []
unfolding number_of digits
ties_keep_their_order = refl

-- the second key decides where the first ties
second_key_behind_first : asked (codes "from stock select s_i_id, s_quantity, s_w_id order 1, 2 desc")
    ≡ (number 1 ++ number 30 ++ number 1) ∷ (number 1 ++ number 30 ++ number 2) ∷ (number 2 ++ number 20 ++ number 2)
    ∷ (number 2 ++ number 10 ++ number 1) ∷ []
unfolding number_of digits
second_key_behind_first = refl
