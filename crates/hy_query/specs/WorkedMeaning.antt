-- Answers over small tables for each word of their meaning; the checker computes each row.
use Rattle.std.specs.Prelude.{◌≡◌, ◌++◌, ℕ, ℤ, List, [], ◌∷◌, map, pos, neg_ℤ, codes, refl}
use Rattle.std.specs.Fmt.{digits}
use Rattle.std.specs.Int.{int_wrap}
use Rattle.hy_decimal.specs.Numbers.{number_of}
use Rattle.hy_rows.specs.Tables.{Lists, Tables, no_rows}
use Rattle.hy_rows.specs.WorkedRows.{fresh_customer, fresh_warehouse, some_history, some_new_order, some_order, some_order_line}
use Rattle.hy_rows.specs.declared.customer.Customer.{Customer}
use Rattle.hy_rows.specs.declared.district.District.{District}
use Rattle.hy_rows.specs.declared.item.Item.{Item}
use Rattle.hy_rows.specs.declared.value.Value.TheVariants.{Text, Whole}
use Rattle.hy_rows.specs.declared.warehouse.Warehouse.{Warehouse}
use Rattle.hy_query.specs.Language.{query_of}
use Rattle.hy_query.specs.Rows.{Row}
use Rattle.hy_query.specs.WorkedAnswers.{answer_in, district, item, number, numbers, stock}

-- rows of numbers, and one of a text
abbrev rows : List (List ℕ) → List Row
rows lists = map numbers lists

abbrev text : List ℕ → Row
text bytes = Text bytes ∷ []

-- the rows of ITEM alone, and of the other tables alone
abbrev with_items : List Item → Lists
with_items list = record { items = list; tables = no_rows }

abbrev with_tables : Tables → Lists
with_tables tables = record { items = []; tables = tables }

-- ---- tables

-- a row of each table, in which no value stands twice
abbrev one_row_each : Lists
one_row_each = record {
  items = record { id = 1; image = 2; name = codes "I"; price = 3 } ∷ [];
  tables = record {
    warehouses = record { id = 1; name = codes "W"; tax = 2; ytd = pos 3 } ∷ [];
    districts = record { id = 1; warehouse = 2; name = codes "D"; tax = 3; ytd = pos 4; next_order = 5 } ∷ [];
    customers = record {
      id = 1;
      district = 2;
      warehouse = 3;
      first = codes "A";
      middle = codes "B";
      last = codes "C";
      credit = codes "GC";
      discount = 4;
      balance = pos 5;
      ytd_payment = pos 6;
      payment_count = 7;
      delivery_count = 8;
      information = codes "D";
    } ∷ [];
    history = record {
      customer = 1;
      customer_district = 2;
      customer_warehouse = 3;
      district = 4;
      warehouse = 5;
      date = 6;
      amount = pos 7;
      information = codes "H";
    } ∷ [];
    new_orders = record { order = 1; district = 2; warehouse = 3 } ∷ [];
    orders = record {
      id = 1;
      district = 2;
      warehouse = 3;
      customer = 4;
      entry_date = 5;
      carrier = 6;
      line_count = 7;
      all_local = 8;
    } ∷ [];
    order_lines = record {
      order = 1;
      district = 2;
      warehouse = 3;
      number = 4;
      item = 5;
      supply_warehouse = 6;
      delivery_date = 7;
      quantity = 8;
      amount = pos 9;
    } ∷ [];
    stock = record { item = 1; warehouse = 2; quantity = 3; ytd = 4; order_count = 5; remote_count = 6 } ∷ [];
  };
}

-- the columns that some names stand for, of the table of a word
abbrev named_in : List ℕ → List ℕ → List Row
named_in table names = answer_in one_row_each (query_of (codes "from " ++ table ++ codes " select " ++ names))

abbrev of_warehouse : named_in (codes "warehouse") (codes "w_id, w_name, w_tax, w_ytd")
    ≡ (number 1 ++ text (codes "W") ++ numbers (2 ∷ 3 ∷ [])) ∷ []
of_warehouse = refl

abbrev of_district : named_in (codes "district") (codes "d_id, d_w_id, d_name, d_tax, d_ytd, d_next_o_id")
    ≡ (numbers (1 ∷ 2 ∷ []) ++ text (codes "D") ++ numbers (3 ∷ 4 ∷ 5 ∷ [])) ∷ []
of_district = refl

abbrev of_customer : named_in (codes "customer") (codes "c_id, c_d_id, c_w_id, c_first, c_middle, c_last, c_credit, " ++
    codes "c_discount, c_balance, c_ytd_payment, c_payment_cnt, c_delivery_cnt, c_data")
    ≡ (numbers (1 ∷ 2 ∷ 3 ∷ []) ++ text (codes "A") ++ text (codes "B") ++ text (codes "C") ++ text (codes "GC") ++
    numbers (4 ∷ 5 ∷ 6 ∷ 7 ∷ 8 ∷ []) ++ text (codes "D")) ∷ []
of_customer = refl

abbrev of_history : named_in (codes "history") (codes "h_c_id, h_c_d_id, h_c_w_id, h_d_id, h_w_id, h_date, h_amount, h_data")
    ≡ (numbers (1 ∷ 2 ∷ 3 ∷ 4 ∷ 5 ∷ 6 ∷ 7 ∷ []) ++ text (codes "H")) ∷ []
of_history = refl

abbrev of_new_order : named_in (codes "neworder") (codes "no_o_id, no_d_id, no_w_id") ≡ numbers (1 ∷ 2 ∷ 3 ∷ []) ∷ []
of_new_order = refl

abbrev of_order : named_in (codes "orders") (codes "o_id, o_d_id, o_w_id, o_c_id, o_entry_d, o_carrier_id, " ++
    codes "o_ol_cnt, o_all_local")
    ≡ numbers (1 ∷ 2 ∷ 3 ∷ 4 ∷ 5 ∷ 6 ∷ 7 ∷ 8 ∷ []) ∷ []
of_order = refl

abbrev of_order_line : named_in (codes "orderline") (codes "ol_o_id, ol_d_id, ol_w_id, ol_number, ol_i_id, " ++
    codes "ol_supply_w_id, ol_delivery_d, ol_quantity, ol_amount")
    ≡ numbers (1 ∷ 2 ∷ 3 ∷ 4 ∷ 5 ∷ 6 ∷ 7 ∷ 8 ∷ 9 ∷ []) ∷ []
of_order_line = refl

abbrev of_stock : named_in (codes "stock") (codes "s_i_id, s_w_id, s_quantity, s_ytd, s_order_cnt, s_remote_cnt")
    ≡ numbers (1 ∷ 2 ∷ 3 ∷ 4 ∷ 5 ∷ 6 ∷ []) ∷ []
of_stock = refl

abbrev of_item : named_in (codes "item") (codes "i_id, i_im_id, i_name, i_price")
    ≡ (numbers (1 ∷ 2 ∷ []) ++ text (codes "I") ++ number 3) ∷ []
of_item = refl

-- two rows of each table come in the order of its list
abbrev two_rows_each : Lists
two_rows_each = record {
  items = item 18 (codes "I") 3 ∷ item 17 (codes "I") 3 ∷ [];
  tables = record {
    warehouses = record fresh_warehouse { id = 2 } ∷ record fresh_warehouse { id = 1 } ∷ [];
    districts = record (district 1 (codes "D") 2) { id = 4 } ∷ record (district 1 (codes "D") 2) { id = 3 } ∷ [];
    customers = fresh_customer 1 6 (codes "A") (codes "C") ∷ fresh_customer 1 5 (codes "A") (codes "C") ∷ [];
    history = record some_history { customer = 8 } ∷ record some_history { customer = 7 } ∷ [];
    new_orders = record some_new_order { order = 10 } ∷ record some_new_order { order = 9 } ∷ [];
    orders = record some_order { id = 12 } ∷ record some_order { id = 11 } ∷ [];
    order_lines = record some_order_line { order = 14 } ∷ record some_order_line { order = 13 } ∷ [];
    stock = stock 1 16 7 ∷ stock 1 15 7 ∷ [];
  };
}

abbrev rows_in_their_order : map (λ words. answer_in two_rows_each (query_of words)) (
    codes "from warehouse select w_id" ∷ codes "from district select d_id" ∷ codes "from customer select c_id" ∷
    codes "from history select h_c_id" ∷ codes "from neworder select no_o_id" ∷ codes "from orders select o_id" ∷
    codes "from orderline select ol_o_id" ∷ codes "from stock select s_i_id" ∷ codes "from item select i_id" ∷ [])
    ≡ map (λ pair. map number pair) ((2 ∷ 1 ∷ []) ∷ (4 ∷ 3 ∷ []) ∷ (6 ∷ 5 ∷ []) ∷ (8 ∷ 7 ∷ []) ∷ (10 ∷ 9 ∷ []) ∷
    (12 ∷ 11 ∷ []) ∷ (14 ∷ 13 ∷ []) ∷ (16 ∷ 15 ∷ []) ∷ (18 ∷ 17 ∷ []) ∷ [])
rows_in_their_order = refl

-- ---- comparisons

-- `a` is a beginning of `ab`, and `ab` of `abc`; `aa` and `ac` differ from it in their second byte
abbrev six_items : List Item
six_items = item 1 (codes "aa") 9 ∷ item 2 (codes "ab") 10 ∷ item 3 (codes "a") 100 ∷ item 4 (codes "abc") 10 ∷
    item 5 (codes "ac") 9 ∷ item 6 (codes "b") 100 ∷ []

-- the items that meet some conditions, by their numbers
abbrev items_where : List ℕ → List Row
items_where conditions =
    answer_in (with_items six_items) (query_of (codes "from item where " ++ conditions ++ codes " select i_id"))

equal_number : items_where (codes "i_price = 10") ≡ number 2 ∷ number 4 ∷ []
unfolding number_of digits
equal_number = refl

other_number : items_where (codes "i_price <> 10") ≡ number 1 ∷ number 3 ∷ number 5 ∷ number 6 ∷ []
unfolding number_of digits
other_number = refl

smaller_number : items_where (codes "i_price < 10") ≡ number 1 ∷ number 5 ∷ []
unfolding number_of digits
smaller_number = refl

smaller_number_or_equal : items_where (codes "i_price <= 10") ≡ number 1 ∷ number 2 ∷ number 4 ∷ number 5 ∷ []
unfolding number_of digits
smaller_number_or_equal = refl

larger_number : items_where (codes "i_price > 10") ≡ number 3 ∷ number 6 ∷ []
unfolding number_of digits
larger_number = refl

larger_number_or_equal : items_where (codes "i_price >= 10") ≡ number 2 ∷ number 3 ∷ number 4 ∷ number 6 ∷ []
unfolding number_of digits
larger_number_or_equal = refl

equal_text : items_where (codes "i_name = 'ab'") ≡ number 2 ∷ []
unfolding number_of digits
equal_text = refl

other_text : items_where (codes "i_name <> 'ab'") ≡ number 1 ∷ number 3 ∷ number 4 ∷ number 5 ∷ number 6 ∷ []
unfolding number_of digits
other_text = refl

smaller_text : items_where (codes "i_name < 'ab'") ≡ number 1 ∷ number 3 ∷ []
unfolding number_of digits
smaller_text = refl

smaller_text_or_equal : items_where (codes "i_name <= 'ab'") ≡ number 1 ∷ number 2 ∷ number 3 ∷ []
unfolding number_of digits
smaller_text_or_equal = refl

larger_text : items_where (codes "i_name > 'ab'") ≡ number 4 ∷ number 5 ∷ number 6 ∷ []
unfolding number_of digits
larger_text = refl

larger_text_or_equal : items_where (codes "i_name >= 'ab'") ≡ number 2 ∷ number 4 ∷ number 5 ∷ number 6 ∷ []
unfolding number_of digits
larger_text_or_equal = refl

-- the text without bytes is less than each other
text_without_bytes : items_where (codes "i_name <= ''") ∷ items_where (codes "i_id = 3 and i_name > ''") ∷ []
    ≡ [] ∷ (number 3 ∷ []) ∷ []
unfolding number_of digits
text_without_bytes = refl

-- ---- numbers below zero

abbrev customer : ℕ → ℤ → Customer
customer number balance = record (fresh_customer 1 number (codes "Ann") (codes "BAR")) { balance = balance }

-- customers that owe 1000, 5 and 1, one that owes nothing, and one that has 5
abbrev customers : Lists
customers = with_tables (record no_rows {
  customers = customer 1 (neg_ℤ (pos 1_000)) ∷ customer 2 (neg_ℤ (pos 5)) ∷ customer 3 (neg_ℤ (pos 1)) ∷
      customer 4 (pos 0) ∷ customer 5 (pos 5) ∷ [];
})

abbrev customers_where : List ℕ → List Row
customers_where condition =
    answer_in customers (query_of (codes "from customer where c_balance " ++ condition ++ codes " select c_id"))

equal_below_zero : customers_where (codes "= -5") ∷ customers_where (codes "<> -5") ∷ []
    ≡ (number 2 ∷ []) ∷ (number 1 ∷ number 3 ∷ number 4 ∷ number 5 ∷ []) ∷ []
unfolding number_of digits
equal_below_zero = refl

smaller_below_zero : customers_where (codes "< -5") ∷ customers_where (codes "<= -5") ∷ []
    ≡ (number 1 ∷ []) ∷ (number 1 ∷ number 2 ∷ []) ∷ []
unfolding number_of digits
smaller_below_zero = refl

larger_below_zero : customers_where (codes "> -5") ∷ customers_where (codes ">= -5") ∷ []
    ≡ (number 3 ∷ number 4 ∷ number 5 ∷ []) ∷ (number 2 ∷ number 3 ∷ number 4 ∷ number 5 ∷ []) ∷ []
unfolding number_of digits
larger_below_zero = refl

around_zero : customers_where (codes "< 0") ∷ customers_where (codes ">= 0") ∷ []
    ≡ (number 1 ∷ number 2 ∷ number 3 ∷ []) ∷ (number 4 ∷ number 5 ∷ []) ∷ []
unfolding number_of digits
around_zero = refl

-- they are summed and ordered as such, and one is the least
below_zero_in_items : answer_in customers
    (query_of (codes "from customer select sum c_balance, min c_balance, max c_balance"))
    ≡ (Whole (neg_ℤ (pos 1_001)) ∷ Whole (neg_ℤ (pos 1_000)) ∷ Whole (pos 5) ∷ []) ∷ []
unfolding int_wrap
below_zero_in_items = refl

below_zero_in_order : answer_in customers (query_of (codes "from customer select c_id order 1 desc")) ∷
    answer_in customers (query_of (codes "from customer select c_balance, c_id order 1")) ∷ []
    ≡ (number 5 ∷ number 4 ∷ number 3 ∷ number 2 ∷ number 1 ∷ [])
    ∷ ((Whole (neg_ℤ (pos 1_000)) ∷ number 1) ∷ (Whole (neg_ℤ (pos 5)) ∷ number 2) ∷ (Whole (neg_ℤ (pos 1)) ∷ number 3)
    ∷ (numbers (0 ∷ 4 ∷ [])) ∷ (numbers (5 ∷ 5 ∷ [])) ∷ []) ∷ []
unfolding number_of digits
below_zero_in_order = refl

-- ---- several conditions

-- each excludes a row that the others let pass
two_conditions : items_where (codes "i_price < 100 and i_name > 'ab'") ≡ number 4 ∷ number 5 ∷ []
unfolding number_of digits
two_conditions = refl

three_conditions : items_where (codes "i_price < 100 and i_id <> 4 and i_name > 'ab'") ≡ number 5 ∷ []
unfolding number_of digits
three_conditions = refl

-- two columns of one table
columns_of_one_table : answer_in
    (with_items (item 7 (codes "nut") 7 ∷ item 8 (codes "nut") 9 ∷ item 9 (codes "nut") 8 ∷ []))
    (query_of (codes "from item where i_id < i_price select i_id"))
    ≡ number 8 ∷ []
unfolding number_of digits
columns_of_one_table = refl

-- ---- several tables

abbrev warehouse : ℕ → List ℕ → Warehouse
warehouse number name = record fresh_warehouse { id = number; name = name }

abbrev district_of : ℕ → ℕ → List ℕ → District
district_of warehouse number name = record (district warehouse name 4) { id = number }

-- two rows of each of four tables, with a number of its own each
abbrev four_tables : Lists
four_tables = record {
  items = item 5 (codes "nut") 300 ∷ item 6 (codes "bolt") 20 ∷ [];
  tables = record no_rows {
    warehouses = warehouse 1 (codes "x") ∷ warehouse 2 (codes "y") ∷ [];
    districts = district_of 2 3 (codes "y") ∷ district_of 1 4 (codes "x") ∷ [];
    stock = stock 2 6 7 ∷ stock 2 5 8 ∷ [];
  };
}

abbrev joined : List ℕ → List Row
joined words = answer_in four_tables (query_of words)

-- rows of the first table outermost, and of the last innermost
abbrev three_tables_nested : joined (codes "from warehouse, district, item select w_id, d_id, i_id")
    ≡ rows ((1 ∷ 3 ∷ 5 ∷ []) ∷ (1 ∷ 3 ∷ 6 ∷ []) ∷ (1 ∷ 4 ∷ 5 ∷ []) ∷ (1 ∷ 4 ∷ 6 ∷ []) ∷
    (2 ∷ 3 ∷ 5 ∷ []) ∷ (2 ∷ 3 ∷ 6 ∷ []) ∷ (2 ∷ 4 ∷ 5 ∷ []) ∷ (2 ∷ 4 ∷ 6 ∷ []) ∷ [])
three_tables_nested = refl

abbrev four_tables_nested : joined (codes "from stock, item, district, warehouse select w_id, d_id, i_id, s_quantity")
    ≡ rows ((1 ∷ 3 ∷ 5 ∷ 7 ∷ []) ∷ (2 ∷ 3 ∷ 5 ∷ 7 ∷ []) ∷ (1 ∷ 4 ∷ 5 ∷ 7 ∷ []) ∷ (2 ∷ 4 ∷ 5 ∷ 7 ∷ []) ∷
    (1 ∷ 3 ∷ 6 ∷ 7 ∷ []) ∷ (2 ∷ 3 ∷ 6 ∷ 7 ∷ []) ∷ (1 ∷ 4 ∷ 6 ∷ 7 ∷ []) ∷ (2 ∷ 4 ∷ 6 ∷ 7 ∷ []) ∷
    (1 ∷ 3 ∷ 5 ∷ 8 ∷ []) ∷ (2 ∷ 3 ∷ 5 ∷ 8 ∷ []) ∷ (1 ∷ 4 ∷ 5 ∷ 8 ∷ []) ∷ (2 ∷ 4 ∷ 5 ∷ 8 ∷ []) ∷
    (1 ∷ 3 ∷ 6 ∷ 8 ∷ []) ∷ (2 ∷ 3 ∷ 6 ∷ 8 ∷ []) ∷ (1 ∷ 4 ∷ 6 ∷ 8 ∷ []) ∷ (2 ∷ 4 ∷ 6 ∷ 8 ∷ []) ∷ [])
four_tables_nested = refl

-- a column and one of another table: equal, in both orders of the tables, and less; numbers and texts
equal_columns : joined (codes "from warehouse, district where w_id = d_w_id select w_id, d_id") ∷
    joined (codes "from district, warehouse where w_id = d_w_id select w_id, d_id") ∷ []
    ≡ rows ((1 ∷ 4 ∷ []) ∷ (2 ∷ 3 ∷ []) ∷ []) ∷ rows ((2 ∷ 3 ∷ []) ∷ (1 ∷ 4 ∷ []) ∷ []) ∷ []
unfolding number_of digits
equal_columns = refl

smaller_column : joined (codes "from warehouse, district where d_w_id < w_id select w_id, d_id")
    ≡ rows ((2 ∷ 4 ∷ []) ∷ [])
unfolding number_of digits
smaller_column = refl

equal_text_columns : joined (codes "from warehouse, district where w_name = d_name select w_id, d_id") ∷
    joined (codes "from warehouse, district where w_name < d_name select w_id, d_id") ∷ []
    ≡ rows ((1 ∷ 4 ∷ []) ∷ (2 ∷ 3 ∷ []) ∷ []) ∷ rows ((1 ∷ 3 ∷ []) ∷ []) ∷ []
unfolding number_of digits
equal_text_columns = refl

-- a condition between the first table and the third, and one between each table and the next
first_with_third : joined (codes "from warehouse, item, stock where w_id = s_w_id select w_id, i_id, s_i_id")
    ≡ rows ((2 ∷ 5 ∷ 6 ∷ []) ∷ (2 ∷ 5 ∷ 5 ∷ []) ∷ (2 ∷ 6 ∷ 6 ∷ []) ∷ (2 ∷ 6 ∷ 5 ∷ []) ∷ [])
unfolding number_of digits
first_with_third = refl

each_with_next : joined
    (codes "from district, warehouse, stock, item where d_w_id = w_id and w_id = s_w_id and s_i_id = i_id " ++
    codes "select d_id, w_id, s_quantity, i_id")
    ≡ rows ((3 ∷ 2 ∷ 7 ∷ 6 ∷ []) ∷ (3 ∷ 2 ∷ 8 ∷ 5 ∷ []) ∷ [])
unfolding number_of digits
each_with_next = refl

-- a table of which no column is asked counts all the same
table_without_columns : joined (codes "from warehouse, item, stock select w_id, s_quantity")
    ≡ rows ((1 ∷ 7 ∷ []) ∷ (1 ∷ 8 ∷ []) ∷ (1 ∷ 7 ∷ []) ∷ (1 ∷ 8 ∷ []) ∷
    (2 ∷ 7 ∷ []) ∷ (2 ∷ 8 ∷ []) ∷ (2 ∷ 7 ∷ []) ∷ (2 ∷ 8 ∷ []) ∷ [])
unfolding int_wrap
table_without_columns = refl

-- ---- groups

-- by the first column alone the rows would be 3 and 2, and by the second alone 4 and 1
abbrev grouped_stock : Lists
grouped_stock = with_tables
    (record no_rows { stock = stock 2 1 30 ∷ stock 1 2 30 ∷ stock 2 3 10 ∷ stock 1 4 30 ∷ stock 2 5 30 ∷ [] })

abbrev grouped_in : List ℕ → List Row
grouped_in words = answer_in grouped_stock (query_of words)

grouped_by_two : grouped_in (codes "from stock group s_w_id, s_quantity select s_w_id, s_quantity, count, sum s_i_id")
    ≡ rows ((2 ∷ 30 ∷ 2 ∷ 6 ∷ []) ∷ (1 ∷ 30 ∷ 2 ∷ 6 ∷ []) ∷ (2 ∷ 10 ∷ 1 ∷ 3 ∷ []) ∷ [])
unfolding int_wrap
grouped_by_two = refl

-- in the other order of the columns the groups are the same, and so is their order: that of their first rows
grouped_by_two_turned : grouped_in (codes "from stock group s_quantity, s_w_id select count, s_w_id, max s_i_id")
    ≡ rows ((2 ∷ 2 ∷ 5 ∷ []) ∷ (2 ∷ 1 ∷ 4 ∷ []) ∷ (1 ∷ 2 ∷ 3 ∷ []) ∷ [])
unfolding int_wrap
grouped_by_two_turned = refl

-- a column by which rows are grouped needs no item, and groups need no aggregate
grouped_in_order : grouped_in (codes "from stock group s_w_id select count") ∷
    grouped_in (codes "from stock group s_w_id select min s_quantity, max s_i_id") ∷
    grouped_in (codes "from stock group s_w_id select s_w_id") ∷
    grouped_in (codes "from stock group s_quantity, s_w_id select s_quantity") ∷ []
    ≡ rows ((3 ∷ []) ∷ (2 ∷ []) ∷ []) ∷ rows ((10 ∷ 5 ∷ []) ∷ (30 ∷ 4 ∷ []) ∷ []) ∷ rows ((2 ∷ []) ∷ (1 ∷ []) ∷ [])
    ∷ rows ((30 ∷ []) ∷ (30 ∷ []) ∷ (10 ∷ []) ∷ []) ∷ []
unfolding int_wrap
grouped_in_order = refl

-- groups by texts: one that is a beginning of another isn't equal to it
names_in_groups : answer_in
    (with_items (item 1 (codes "ab") 4 ∷ item 2 (codes "a") 4 ∷ item 3 (codes "ab") 5 ∷ item 4 (codes "abc") 4 ∷ []))
    (query_of (codes "from item group i_name select i_name, sum i_id"))
    ≡ (text (codes "ab") ++ number 4) ∷ (text (codes "a") ++ number 2) ∷ (text (codes "abc") ++ number 4) ∷ []
unfolding int_wrap
names_in_groups = refl

-- and texts count one by one: `a` and `bc` aren't `ab` and `c`
abbrev named : ℕ → List ℕ → List ℕ → Customer
named number first last = fresh_customer 1 number first last

names_apart : answer_in (with_tables (record no_rows {
  customers = named 1 (codes "a") (codes "bc") ∷ named 2 (codes "ab") (codes "c") ∷ named 3 (codes "a") (codes "bc")
      ∷ [];
}))
    (query_of (codes "from customer group c_first, c_last select c_last, count"))
    ≡ (text (codes "bc") ++ number 2) ∷ (text (codes "c") ++ number 1) ∷ []
unfolding int_wrap
names_apart = refl

-- columns of two tables, over those combinations that meet the condition
groups_of_two_tables : joined
    (codes "from item, stock, district where i_id = s_i_id group s_w_id, i_name select i_name, s_w_id, count, sum d_id")
    ≡ (text (codes "nut") ++ numbers (2 ∷ 2 ∷ 7 ∷ [])) ∷ (text (codes "bolt") ++ numbers (2 ∷ 2 ∷ 7 ∷ [])) ∷ []
unfolding number_of digits int_wrap
groups_of_two_tables = refl

-- ---- aggregates

-- four rows, whose third has the least number and text, and the fourth the greatest
abbrev four_items : Lists
four_items = with_items (item 1 (codes "m") 10 ∷ item 2 (codes "n") 20 ∷ item 3 (codes "b") 5 ∷ item 4 (codes "x") 30 ∷ [])

aggregates_without_groups : answer_in four_items
    (query_of (codes "from item select count, sum i_price, min i_price, max i_price, min i_name, max i_name"))
    ≡ (numbers (4 ∷ 65 ∷ 5 ∷ 30 ∷ []) ++ text (codes "b") ++ text (codes "x")) ∷ []
unfolding int_wrap
aggregates_without_groups = refl

-- the least first, and the greatest; both several times; and one row alone
extremes_elsewhere : map (λ list. answer_in (with_items list)
    (query_of (codes "from item select min i_price, max i_price, min i_name, max i_name")))
    ((item 1 (codes "b") 5 ∷ item 2 (codes "m") 10 ∷ item 3 (codes "n") 20 ∷ [])
    ∷ (item 1 (codes "x") 30 ∷ item 2 (codes "n") 20 ∷ item 3 (codes "m") 25 ∷ [])
    ∷ (item 1 (codes "n") 7 ∷ item 2 (codes "b") 5 ∷ item 3 (codes "x") 9 ∷ item 4 (codes "b") 5 ∷ item 5 (codes "x") 9 ∷ [])
    ∷ (item 1 (codes "n") 7 ∷ [])
    ∷ [])
    ≡ ((numbers (5 ∷ 20 ∷ []) ++ text (codes "b") ++ text (codes "n")) ∷ [])
    ∷ ((numbers (20 ∷ 30 ∷ []) ++ text (codes "m") ++ text (codes "x")) ∷ [])
    ∷ ((numbers (5 ∷ 9 ∷ []) ++ text (codes "b") ++ text (codes "x")) ∷ [])
    ∷ ((numbers (7 ∷ 7 ∷ []) ++ text (codes "n") ++ text (codes "n")) ∷ [])
    ∷ []
unfolding number_of digits
extremes_elsewhere = refl

-- a text is greater than its beginning, also where the beginning comes first
extremes_of_beginnings : answer_in (with_items six_items) (query_of (codes "from item select min i_name, max i_name"))
    ≡ (text (codes "a") ++ text (codes "b")) ∷ []
unfolding number_of digits
extremes_of_beginnings = refl

-- ---- keys

-- a stock row has a warehouse, an item and a quantity
abbrev stock_list : Lists
stock_list = with_tables (record no_rows {
  stock = stock 2 1 30 ∷ stock 1 2 30 ∷ stock 2 1 10 ∷ stock 1 1 30 ∷ stock 2 2 10 ∷ stock 1 2 40 ∷ [];
})

abbrev ordered : List ℕ → List Row
ordered words = answer_in stock_list (query_of words)

-- without keys rows keep their order
abbrev no_keys : ordered (codes "from stock select s_w_id, s_i_id, s_quantity")
    ≡ rows ((2 ∷ 1 ∷ 30 ∷ []) ∷ (1 ∷ 2 ∷ 30 ∷ []) ∷ (2 ∷ 1 ∷ 10 ∷ []) ∷ (1 ∷ 1 ∷ 30 ∷ []) ∷
    (2 ∷ 2 ∷ 10 ∷ []) ∷ (1 ∷ 2 ∷ 40 ∷ []) ∷ [])
no_keys = refl

-- a key is a place among the items, from 1; rows that tie keep their order
one_key : ordered (codes "from stock select s_w_id, s_i_id, s_quantity order 2")
    ≡ rows ((2 ∷ 1 ∷ 30 ∷ []) ∷ (2 ∷ 1 ∷ 10 ∷ []) ∷ (1 ∷ 1 ∷ 30 ∷ []) ∷ (1 ∷ 2 ∷ 30 ∷ []) ∷
    (2 ∷ 2 ∷ 10 ∷ []) ∷ (1 ∷ 2 ∷ 40 ∷ []) ∷ [])
unfolding number_of digits
one_key = refl

last_item_as_key : ordered (codes "from stock select s_w_id, s_i_id, s_quantity order 3 desc")
    ≡ rows ((1 ∷ 2 ∷ 40 ∷ []) ∷ (2 ∷ 1 ∷ 30 ∷ []) ∷ (1 ∷ 2 ∷ 30 ∷ []) ∷ (1 ∷ 1 ∷ 30 ∷ []) ∷
    (2 ∷ 1 ∷ 10 ∷ []) ∷ (2 ∷ 2 ∷ 10 ∷ []) ∷ [])
unfolding number_of digits
last_item_as_key = refl

-- of three keys the first two tie in two pairs of rows
three_keys : ordered (codes "from stock select s_w_id, s_i_id, s_quantity order 1, 2, 3")
    ≡ rows ((1 ∷ 1 ∷ 30 ∷ []) ∷ (1 ∷ 2 ∷ 30 ∷ []) ∷ (1 ∷ 2 ∷ 40 ∷ []) ∷ (2 ∷ 1 ∷ 10 ∷ []) ∷
    (2 ∷ 1 ∷ 30 ∷ []) ∷ (2 ∷ 2 ∷ 10 ∷ []) ∷ [])
unfolding number_of digits
three_keys = refl

descending_last_key : ordered (codes "from stock select s_w_id, s_i_id, s_quantity order 1, 2, 3 desc")
    ≡ rows ((1 ∷ 1 ∷ 30 ∷ []) ∷ (1 ∷ 2 ∷ 40 ∷ []) ∷ (1 ∷ 2 ∷ 30 ∷ []) ∷ (2 ∷ 1 ∷ 30 ∷ []) ∷
    (2 ∷ 1 ∷ 10 ∷ []) ∷ (2 ∷ 2 ∷ 10 ∷ []) ∷ [])
unfolding number_of digits
descending_last_key = refl

-- the first key decides, also where it is a later item
descending_first_key : ordered (codes "from stock select s_w_id, s_i_id, s_quantity order 3 desc, 1")
    ≡ rows ((1 ∷ 2 ∷ 40 ∷ []) ∷ (1 ∷ 2 ∷ 30 ∷ []) ∷ (1 ∷ 1 ∷ 30 ∷ []) ∷ (2 ∷ 1 ∷ 30 ∷ []) ∷
    (2 ∷ 1 ∷ 10 ∷ []) ∷ (2 ∷ 2 ∷ 10 ∷ []) ∷ [])
unfolding number_of digits
descending_first_key = refl

-- texts, of which some are beginnings of others
texts_in_order : answer_in (with_items six_items) (query_of (codes "from item select i_name, i_id order 1")) ∷
    answer_in (with_items six_items) (query_of (codes "from item select i_price, i_name order 1 desc, 2 desc")) ∷ []
    ≡ ((text (codes "a") ++ number 3) ∷ (text (codes "aa") ++ number 1) ∷ (text (codes "ab") ++ number 2)
    ∷ (text (codes "abc") ++ number 4) ∷ (text (codes "ac") ++ number 5) ∷ (text (codes "b") ++ number 6) ∷ [])
    ∷ ((number 100 ++ text (codes "b")) ∷ (number 100 ++ text (codes "a")) ∷ (number 10 ++ text (codes "abc"))
    ∷ (number 10 ++ text (codes "ab")) ∷ (number 9 ++ text (codes "ac")) ∷ (number 9 ++ text (codes "aa")) ∷ []) ∷ []
unfolding number_of digits
texts_in_order = refl

-- groups by what is answered of each: a sum, and then a count
aggregates_as_keys : ordered (codes "from stock group s_i_id, s_w_id select s_i_id, s_w_id, sum s_quantity order 3 desc") ∷
    ordered (codes "from stock group s_quantity select s_quantity, count order 2, 1 desc") ∷ []
    ≡ rows ((2 ∷ 1 ∷ 70 ∷ []) ∷ (1 ∷ 2 ∷ 40 ∷ []) ∷ (1 ∷ 1 ∷ 30 ∷ []) ∷ (2 ∷ 2 ∷ 10 ∷ []) ∷ [])
    ∷ rows ((40 ∷ 1 ∷ []) ∷ (10 ∷ 2 ∷ []) ∷ (30 ∷ 3 ∷ []) ∷ []) ∷ []
unfolding number_of digits int_wrap
aggregates_as_keys = refl
