-- Worked examples, which the checker computes: a fresh load of one warehouse with three customers in each district, where
-- columns lie in rows, the bytes of one row of each table on pages, and a small page table.
use Rattle.std.specs.Prelude.{◌≡◌, ℕ, true, false, None, pos, negsuc, ◌*◌, ◌<◌, List, [], ◌∷◌, ◌++◌, length, map, replicate, codes, refl}
use Rattle.std.specs.List.{flat_map, range_with_len}
use Rattle.std.proofs.Common.{subst, sym, zero, suc, Some, arith, lit<, lit≤}
use Rattle.std.proofs.lemmas.List.{get_or-replicate}
use Rattle.hy_rows.specs.declared.warehouse.Warehouse.{Warehouse}
use Rattle.hy_rows.specs.declared.district.District.{District}
use Rattle.hy_rows.specs.declared.customer.Customer.{Customer}
use Rattle.hy_rows.specs.declared.history.History.{History}
use Rattle.hy_rows.specs.declared.new_order.NewOrder.{NewOrder}
use Rattle.hy_rows.specs.declared.order.Order.{Order}
use Rattle.hy_rows.specs.declared.order_line.OrderLine.{OrderLine}
use Rattle.hy_rows.specs.declared.stock.Stock.{Stock}
use Rattle.hy_page.specs.Bytes.{bytes_at}
use Rattle.hy_rows.specs.Texts.{text_of, padded}
use Rattle.hy_rows.specs.Rows.{warehouse_bytes, warehouse_of, district_bytes, district_of, customer_bytes, customer_of, history_bytes, history_of, new_order_bytes, new_order_of, order_bytes, order_of, order_line_bytes, order_line_of, stock_bytes, stock_of}
use Rattle.hy_rows.specs.Tables.{Tables, all_of, no_rows, of_warehouse, row_counts, values_of}
use Rattle.hy_rows.specs.declared.catalogue.Table.TheVariants as tables
use Rattle.hy_rows.specs.declared.value.Value.TheVariants.{Text, Whole}
use Rattle.hy_rows.specs.Spelling.{HasSlots, IsTable, Spells, is_spanned, list_at, slot_start, slots_end, slots_of, slots_per_page, rows_of}
use Rattle.hy_rows.specs.Catalogue.{all_tables, columns_of, row_widths, segments}
use Rattle.hy_rows.specs.Columns.{offset_of}
use Rattle.hy_rows.specs.inside.Places.{segment_there}

-- the warehouse of the fresh load
abbrev pub fresh_warehouse : Warehouse
fresh_warehouse = record { id = 1; name = codes "W1"; tax = 500; ytd = pos 30_000 }

-- a district of the fresh load, by its number and name
abbrev pub fresh_district : ℕ → List ℕ → District
fresh_district number name =
    record { id = number; warehouse = 1; name = name; tax = 100 * number; ytd = pos 3_000; next_order = 1 }

-- a customer of the fresh load, by district, number and names
abbrev pub fresh_customer : ℕ → ℕ → List ℕ → List ℕ → Customer
fresh_customer district number first last = record {
  id = number;
  district = district;
  warehouse = 1;
  first = first;
  middle = codes "OE";
  last = last;
  credit = codes "GC";
  discount = 100 * number;
  balance = negsuc 999;
  ytd_payment = pos 1_000;
  payment_count = 1;
  delivery_count = 0;
  information = [];
}

-- the three customers of a district
abbrev pub fresh_customers : ℕ → List Customer
fresh_customers district =
    fresh_customer district 1 (codes "F0001") (codes "BARBARBAR")
    ∷ fresh_customer district 2 (codes "F0002") (codes "BARBAROUGHT")
    ∷ fresh_customer district 3 (codes "F0003") (codes "BARBARABLE")
    ∷ []

-- the fresh load
abbrev pub fresh : Tables
fresh = record no_rows {
  warehouses = fresh_warehouse ∷ [];
  districts =
      fresh_district 1 (codes "D1")
      ∷ fresh_district 2 (codes "D2")
      ∷ fresh_district 3 (codes "D3")
      ∷ fresh_district 4 (codes "D4")
      ∷ fresh_district 5 (codes "D5")
      ∷ fresh_district 6 (codes "D6")
      ∷ fresh_district 7 (codes "D7")
      ∷ fresh_district 8 (codes "D8")
      ∷ fresh_district 9 (codes "D9")
      ∷ fresh_district 10 (codes "D10")
      ∷ [];
  customers = flat_map fresh_customers (1 ∷ 2 ∷ 3 ∷ 4 ∷ 5 ∷ 6 ∷ 7 ∷ 8 ∷ 9 ∷ 10 ∷ []);
}

-- all its rows are of warehouse 1, and none of warehouse 2
pub fresh-of_warehouse_1 : of_warehouse 1 fresh ≡ fresh
fresh-of_warehouse_1 = refl

pub fresh-of_warehouse_2 : of_warehouse 2 fresh ≡ no_rows
fresh-of_warehouse_2 = refl

-- the rows of a second warehouse like the first
abbrev pub second : Tables
second = record no_rows {
  warehouses = record fresh_warehouse { id = 2 } ∷ [];
  districts = map (λ (row : District). record row { warehouse = 2 }) fresh.districts;
  customers = map (λ (row : Customer). record row { warehouse = 2 }) fresh.customers;
}

-- the rows of both
abbrev pub two_warehouses : Tables
two_warehouses = record no_rows {
  warehouses = fresh.warehouses ++ second.warehouses;
  districts = fresh.districts ++ second.districts;
  customers = fresh.customers ++ second.customers;
}

-- each warehouse has its own rows of them, in their order
pub two-of_warehouse_1 : of_warehouse 1 two_warehouses ≡ fresh
two-of_warehouse_1 = refl

pub two-of_warehouse_2 : of_warehouse 2 two_warehouses ≡ second
two-of_warehouse_2 = refl

-- how many columns each table has
pub tables-columns : map (λ table. length (columns_of table)) all_tables ≡ 4 ∷ 6 ∷ 13 ∷ 8 ∷ 3 ∷ 8 ∷ 9 ∷ 6 ∷ 4 ∷ []
tables-columns = refl

-- how many bytes a row of each table on pages has
pub tables-widths : row_widths ≡ 21 ∷ 26 ∷ 574 ∷ 46 ∷ 6 ∷ 19 ∷ 29 ∷ 31 ∷ []
tables-widths = refl

-- where columns begin in the bytes of a row
pub customer-offsets : map (offset_of (columns_of tables.Customer)) (range_with_len 0 13)
    ≡ 0 ∷ 2 ∷ 3 ∷ 4 ∷ 20 ∷ 22 ∷ 38 ∷ 40 ∷ 42 ∷ 50 ∷ 58 ∷ 66 ∷ 74 ∷ []
customer-offsets = refl

pub order_line-offsets : map (offset_of (columns_of tables.OrderLine)) (range_with_len 0 9)
    ≡ 0 ∷ 4 ∷ 5 ∷ 6 ∷ 7 ∷ 11 ∷ 12 ∷ 20 ∷ 21 ∷ []
order_line-offsets = refl

-- a text ends before the first zero byte of its field
pub text-ends : text_of (65 ∷ 66 ∷ 0 ∷ 67 ∷ []) ≡ codes "AB"
text-ends = refl

pub text-padded : padded 4 (codes "AB") ≡ 65 ∷ 66 ∷ 0 ∷ 0 ∷ []
text-padded = refl

-- the bytes of the warehouse: 1, "W1", 500, 30000
abbrev pub bytes_of_warehouse : List ℕ
bytes_of_warehouse =
    1 ∷ 87 ∷ 49 ∷ 0 ∷ 0 ∷ 0 ∷ 0 ∷ 0 ∷ 0 ∷ 0 ∷ 0 ∷ 244 ∷ 1 ∷ 48 ∷ 117 ∷ 0 ∷ 0 ∷ 0 ∷ 0 ∷ 0 ∷ 0 ∷ []

pub warehouse-bytes : warehouse_bytes fresh_warehouse ≡ bytes_of_warehouse
warehouse-bytes = refl

pub warehouse-reads : warehouse_of bytes_of_warehouse ≡ fresh_warehouse
warehouse-reads = refl

-- the bytes of district 3: 3, 1, "D3", 300, 3000, 1
abbrev pub bytes_of_district : List ℕ
bytes_of_district =
    3 ∷ 1 ∷ 68 ∷ 51 ∷ 0 ∷ 0 ∷ 0 ∷ 0 ∷ 0 ∷ 0 ∷ 0 ∷ 0 ∷ 44 ∷ 1 ∷ 184 ∷ 11 ∷ 0 ∷ 0 ∷ 0 ∷ 0 ∷ 0 ∷ 0 ∷ 1 ∷ 0 ∷ 0 ∷ 0 ∷ []

pub district-bytes : district_bytes (fresh_district 3 (codes "D3")) ≡ bytes_of_district
district-bytes = refl

pub district-reads : district_of bytes_of_district ≡ fresh_district 3 (codes "D3")
district-reads = refl

-- the bytes of customer 2 of district 3: 2, 3, 1, "F0002", "OE", "BARBAROUGHT", "GC", 200, -1000, 1000, 1, 0, and a text
abbrev pub bytes_with_text : List ℕ → List ℕ
bytes_with_text text =
    2 ∷ 0 ∷ 3 ∷ 1 ∷ 70 ∷ 48 ∷ 48 ∷ 48 ∷ 50 ∷ 0 ∷ 0 ∷ 0 ∷ 0 ∷ 0 ∷ 0 ∷ 0 ∷ 0 ∷ 0 ∷ 0 ∷ 0 ∷ 79 ∷ 69 ∷ 66 ∷ 65
    ∷ 82 ∷ 66 ∷ 65
    ∷ 82 ∷ 79 ∷ 85 ∷ 71 ∷ 72 ∷ 84 ∷ 0 ∷ 0 ∷ 0 ∷ 0 ∷ 0 ∷ 71 ∷ 67 ∷ 200 ∷ 0 ∷ 24 ∷ 252 ∷ 255 ∷ 255 ∷ 255 ∷ 255
    ∷ 255 ∷ 255
    ∷ 232 ∷ 3 ∷ 0 ∷ 0 ∷ 0 ∷ 0 ∷ 0 ∷ 0 ∷ 1 ∷ 0 ∷ 0 ∷ 0 ∷ 0 ∷ 0 ∷ 0 ∷ 0 ∷ 0 ∷ 0 ∷ 0 ∷ 0 ∷ 0 ∷ 0 ∷ 0 ∷ 0 ∷ text

-- where C_DATA is empty, and where it isn't
abbrev pub bytes_of_customer : List ℕ
bytes_of_customer = bytes_with_text (replicate 500 0)

pub customer-bytes : customer_bytes (fresh_customer 3 2 (codes "F0002") (codes "BARBAROUGHT")) ≡ bytes_of_customer
customer-bytes = refl

pub customer-reads : customer_of bytes_of_customer ≡ fresh_customer 3 2 (codes "F0002") (codes "BARBAROUGHT")
customer-reads = refl

abbrev pub noted_customer : Customer
noted_customer = record (fresh_customer 3 2 (codes "F0002") (codes "BARBAROUGHT")) { information = codes "2 3;" }

abbrev pub bytes_of_noted : List ℕ
bytes_of_noted = bytes_with_text (50 ∷ 32 ∷ 51 ∷ 59 ∷ replicate 496 0)

pub noted-bytes : customer_bytes noted_customer ≡ bytes_of_noted
noted-bytes = refl

pub noted-reads : customer_of bytes_of_noted ≡ noted_customer
noted-reads = refl

-- the bytes of a payment of 2 of district 3 of warehouse 4, to district 5 of warehouse 6 at 1700000000, of -300 cents
abbrev pub some_history : History
some_history = record {
  customer = 2;
  customer_district = 3;
  customer_warehouse = 4;
  district = 5;
  warehouse = 6;
  date = 1_700_000_000;
  amount = negsuc 299;
  information = codes "W6    D5";
}

abbrev pub bytes_of_history : List ℕ
bytes_of_history =
    2 ∷ 0 ∷ 3 ∷ 4 ∷ 5 ∷ 6 ∷ 0 ∷ 241 ∷ 83 ∷ 101 ∷ 0 ∷ 0 ∷ 0 ∷ 0 ∷ 212 ∷ 254 ∷ 255 ∷ 255 ∷ 255 ∷ 255 ∷ 255 ∷ 255
    ∷ 87 ∷ 54 ∷ 32 ∷ 32 ∷ 32 ∷ 32 ∷ 68 ∷ 53 ∷ 0 ∷ 0 ∷ 0 ∷ 0 ∷ 0 ∷ 0 ∷ 0 ∷ 0 ∷ 0 ∷ 0 ∷ 0 ∷ 0 ∷ 0 ∷ 0 ∷ 0 ∷ 0 ∷ []

pub history-bytes : history_bytes some_history ≡ bytes_of_history
history-bytes = refl

pub history-reads : history_of bytes_of_history ≡ some_history
history-reads = refl

-- the bytes of new order 3001 of district 5 of warehouse 6
abbrev pub some_new_order : NewOrder
some_new_order = record { order = 3_001; district = 5; warehouse = 6 }

abbrev pub bytes_of_new_order : List ℕ
bytes_of_new_order =
    185 ∷ 11 ∷ 0 ∷ 0 ∷ 5 ∷ 6 ∷ []

pub new_order-bytes : new_order_bytes some_new_order ≡ bytes_of_new_order
new_order-bytes = refl

pub new_order-reads : new_order_of bytes_of_new_order ≡ some_new_order
new_order-reads = refl

-- the bytes of order 3001 of customer 300, entered at 1700000000, delivered by carrier 7, of 12 lines, all of them local
abbrev pub some_order : Order
some_order = record {
  id = 3_001;
  district = 5;
  warehouse = 6;
  customer = 300;
  entry_date = 1_700_000_000;
  carrier = 7;
  line_count = 12;
  all_local = 1;
}

abbrev pub bytes_of_order : List ℕ
bytes_of_order =
    185 ∷ 11 ∷ 0 ∷ 0 ∷ 5 ∷ 6 ∷ 44 ∷ 1 ∷ 0 ∷ 241 ∷ 83 ∷ 101 ∷ 0 ∷ 0 ∷ 0 ∷ 0 ∷ 7 ∷ 12 ∷ 1 ∷ []

pub order-bytes : order_bytes some_order ≡ bytes_of_order
order-bytes = refl

pub order-reads : order_of bytes_of_order ≡ some_order
order-reads = refl

-- the bytes of line 8 of that order: 9 of item 70000 from warehouse 10, delivered at 1700000001, for 1234.56
abbrev pub some_order_line : OrderLine
some_order_line = record {
  order = 3_001;
  district = 5;
  warehouse = 6;
  number = 8;
  item = 70_000;
  supply_warehouse = 10;
  delivery_date = 1_700_000_001;
  quantity = 9;
  amount = pos 123_456;
}

abbrev pub bytes_of_order_line : List ℕ
bytes_of_order_line =
    185 ∷ 11 ∷ 0 ∷ 0 ∷ 5 ∷ 6 ∷ 8 ∷ 112 ∷ 17 ∷ 1 ∷ 0 ∷ 10 ∷ 1 ∷ 241 ∷ 83 ∷ 101 ∷ 0 ∷ 0 ∷ 0 ∷ 0 ∷ 9 ∷ 64 ∷ 226 ∷ 1
    ∷ 0 ∷ 0 ∷ 0 ∷ 0 ∷ 0 ∷ []

pub order_line-bytes : order_line_bytes some_order_line ≡ bytes_of_order_line
order_line-bytes = refl

pub order_line-reads : order_line_of bytes_of_order_line ≡ some_order_line
order_line-reads = refl

-- the bytes of the stock of item 70000 in warehouse 10: 91 there, 1000 sold in 300 orders, 2 of them remote
abbrev pub some_stock : Stock
some_stock = record {
  item = 70_000;
  warehouse = 10;
  quantity = 91;
  ytd = 1_000;
  order_count = 300;
  remote_count = 2;
}

abbrev pub bytes_of_stock : List ℕ
bytes_of_stock =
    112 ∷ 17 ∷ 1 ∷ 0 ∷ 10 ∷ 91 ∷ 0 ∷ 232 ∷ 3 ∷ 0 ∷ 0 ∷ 0 ∷ 0 ∷ 0 ∷ 0 ∷ 44 ∷ 1 ∷ 0 ∷ 0 ∷ 0 ∷ 0 ∷ 0 ∷ 0 ∷ 2 ∷ 0
    ∷ 0 ∷ 0 ∷ 0 ∷ 0 ∷ 0 ∷ 0 ∷ []

pub stock-bytes : stock_bytes some_stock ≡ bytes_of_stock
stock-bytes = refl

pub stock-reads : stock_of bytes_of_stock ≡ some_stock
stock-reads = refl

-- one row of each of these tables
abbrev pub some_rows : Tables
some_rows = record no_rows {
  history = some_history ∷ [];
  new_orders = some_new_order ∷ [];
  orders = some_order ∷ [];
  order_lines = some_order_line ∷ [];
  stock = some_stock ∷ [];
}

-- a payment belongs to the warehouse that was paid, and a line to that of its order
pub some-of_warehouse_6 : of_warehouse 6 some_rows ≡ record some_rows { stock = [] }
some-of_warehouse_6 = refl

pub some-of_warehouse_4 : of_warehouse 4 some_rows ≡ no_rows
some-of_warehouse_4 = refl

pub some-of_warehouse_10 : of_warehouse 10 some_rows ≡ record no_rows { stock = some_stock ∷ [] }
some-of_warehouse_10 = refl

-- the rows of two warehouses are those of each, one behind the other
pub two-all_of : all_of (fresh ∷ second ∷ []) ≡ two_warehouses
two-all_of = refl

pub some-all_of : all_of (some_rows ∷ some_rows ∷ []) ≡ record no_rows {
  history = some_history ∷ some_history ∷ [];
  new_orders = some_new_order ∷ some_new_order ∷ [];
  orders = some_order ∷ some_order ∷ [];
  order_lines = some_order_line ∷ some_order_line ∷ [];
  stock = some_stock ∷ some_stock ∷ [];
}
some-all_of = refl

-- how many rows each table has
pub two-row_counts : row_counts two_warehouses ≡ 2 ∷ 20 ∷ 60 ∷ 0 ∷ 0 ∷ 0 ∷ 0 ∷ 0 ∷ []
two-row_counts = refl

pub some-row_counts : row_counts some_rows ≡ 0 ∷ 0 ∷ 0 ∷ 1 ∷ 1 ∷ 1 ∷ 1 ∷ 1 ∷ []
some-row_counts = refl

-- a row of each kind of value, as its values
pub history-values : values_of (record { items = []; tables = some_rows }) tables.History
    ≡ (Whole (pos 2) ∷ Whole (pos 3) ∷ Whole (pos 4) ∷ Whole (pos 5) ∷ Whole (pos 6) ∷ Whole (pos 1_700_000_000)
    ∷ Whole (negsuc 299) ∷ Text (codes "W6    D5") ∷ []) ∷ []
history-values = refl

-- two slots of a warehouse lie on a page of 64 bytes
pub page-slots : slots_per_page 64 21 ≡ 2
page-slots = refl

-- a slot of 256 bytes isn't spanned, and one of 257 is; so the third slot of 257 bytes begins behind two others
pub not-spanned : map is_spanned (254 ∷ 255 ∷ []) ≡ false ∷ false ∷ []
not-spanned = refl

pub spanned : map is_spanned (256 ∷ 574 ∷ []) ≡ true ∷ true ∷ []
spanned = refl

pub slot-starts : map (slot_start 64 21) (0 ∷ 1 ∷ 2 ∷ 3 ∷ []) ≡ 0 ∷ 22 ∷ 64 ∷ 86 ∷ []
slot-starts = refl

pub spanned-starts : map (slot_start 512 256) (0 ∷ 1 ∷ 2 ∷ 3 ∷ []) ≡ 0 ∷ 257 ∷ 514 ∷ 771 ∷ []
spanned-starts = refl

pub slot-ends : map (slots_end 64 21) (0 ∷ 1 ∷ 2 ∷ 3 ∷ []) ≡ 0 ∷ 22 ∷ 44 ∷ 86 ∷ []
slot-ends = refl

-- three slots of 300 bytes over eight pages of 128: a row, an erased one, and another row
abbrev spanned_bytes : List ℕ
spanned_bytes = 1 ∷ replicate 299 7 ++ 0 ∷ replicate 299 8 ++ 1 ∷ replicate 298 9 ++ 10 ∷ replicate 124 0

abbrev spanned_segment : List (List ℕ)
spanned_segment = (3 ∷ replicate 127 0) ∷ map (λ place. bytes_at spanned_bytes (128 * place) 128) (range_with_len 0 8)

pub spanned-rows : slots_of 128 299 (λ bytes. bytes) spanned_segment
    ≡ Some (replicate 299 7) ∷ None ∷ Some (replicate 298 9 ++ 10 ∷ []) ∷ []
spanned-rows = refl

-- a segment of three pages with three used slots: a warehouse, an erased one, and the warehouse after the least payment
abbrev pub small_segment : List (List ℕ)
small_segment =
    (3 ∷ replicate 63 0)
    ∷ (1 ∷ bytes_of_warehouse ++ 0 ∷ bytes_of_warehouse ++ replicate 20 0)
    ∷ (1 ∷ warehouse_bytes (record fresh_warehouse { ytd = pos 30_100 }) ++ replicate 42 0)
    ∷ []

pub segment-rows : rows_of 64 21 warehouse_of small_segment
    ≡ fresh_warehouse ∷ record fresh_warehouse { ytd = pos 30_100 } ∷ []
segment-rows = refl

-- a segment with one page has no rows
abbrev pub empty_segment : List (List ℕ)
empty_segment = replicate 64 0 ∷ []

-- the page table of the first, of one without rows for each other table, and of one that is no table's
abbrev pub small_table : List (List (List ℕ))
small_table = small_segment ∷ replicate segments empty_segment

empty-slots : (row_bytes : ℕ) → HasSlots 64 row_bytes empty_segment
empty-slots row_bytes = record { first = lit< tt; slots = omega arith }

width_is : {one other : ℕ} → Some one ≡ Some other → one ≡ other
width_is same = cc

pub small-slots : (segment row_bytes : ℕ) → IsTable segment row_bytes
    → HasSlots 64 row_bytes (list_at small_table segment)
small-slots zero row_bytes table =
    subst (λ width. HasSlots 64 width small_segment) (width_is table) (record { first = lit< tt; slots = lit≤ tt })
small-slots (suc segment) row_bytes table =
    let there : segment < segments = omega (arith, segment_there (suc segment) row_bytes table) in
    subst (HasSlots 64 row_bytes) (sym (get_or-replicate segments segment empty_segment [] there))
    (empty-slots row_bytes)

-- it spells the two rows
pub small-spelled : Spells 64 small_table
    (record no_rows { warehouses = fresh_warehouse ∷ record fresh_warehouse { ytd = pos 30_100 } ∷ [] })
small-spelled = record { whole = record { all_segments = lit≤ tt; slots = small-slots }; rows = refl }
