-- Worked examples, which the checker computes: fields of each kind, and rows of each table as texts and back.
use Rattle.std.specs.Prelude.{◌≡◌, ℕ, pos, negsuc, ◌++◌, List, [], ◌∷◌, replicate, Some, None, codes, refl}
use Rattle.std.specs.Fmt.{digits}
use Rattle.csv.proofs.OnLiterals.{csv_on_literals}
use Rattle.csv.specs.Records.{field_at}
use Rattle.csv.specs.Writing.{escaped, fields_text, is_blank}
use Rattle.hy_rows.specs.Rows.{customer_values, customer_with, district_values, district_with, history_values, history_with, item_values, item_with, new_order_values, new_order_with, order_line_values, order_line_with, order_values, order_with, stock_values, stock_with, warehouse_values, warehouse_with}
use Rattle.hy_rows.specs.declared.catalogue.Table.TheVariants as tables
use Rattle.hy_rows.specs.declared.customer.Customer.{Customer}
use Rattle.hy_rows.specs.declared.district.District.{District}
use Rattle.hy_rows.specs.declared.history.History.{History}
use Rattle.hy_rows.specs.declared.item.Item.{Item}
use Rattle.hy_rows.specs.declared.new_order.NewOrder.{NewOrder}
use Rattle.hy_rows.specs.declared.order.Order.{Order}
use Rattle.hy_rows.specs.declared.order_line.OrderLine.{OrderLine}
use Rattle.hy_rows.specs.declared.stock.Stock.{Stock}
use Rattle.hy_rows.specs.declared.warehouse.Warehouse.{Warehouse}
use Rattle.hy_decimal.specs.Numbers.{number_of}
use Rattle.hy_csv.specs.Fields.{signed_of, text_of}
use Rattle.hy_csv.specs.Texts.{Reading, table_reading, table_text}

-- numbers
pub greatest_byte : number_of 8 (codes "255") ≡ Some 255
unfolding number_of digits
greatest_byte = refl

pub no_byte : number_of 8 (codes "256") ≡ None
unfolding number_of digits
no_byte = refl

pub leading_zero : number_of 8 (codes "07") ≡ None
unfolding number_of digits
leading_zero = refl

pub with_plus : number_of 8 (codes "+7") ≡ None
unfolding number_of digits
with_plus = refl

pub nothing : number_of 8 [] ≡ None
unfolding number_of digits
nothing = refl

-- signed numbers
pub negative : signed_of (codes "-1000") ≡ Some (negsuc 999)
unfolding signed_of digits
negative = refl

pub least : signed_of (codes "-9223372036854775808") ≡ Some (negsuc 9_223_372_036_854_775_807)
unfolding signed_of digits
least = refl

pub too_great : signed_of (codes "9223372036854775808") ≡ None
unfolding signed_of digits
too_great = refl

pub minus_zero : signed_of (codes "-0") ≡ None
unfolding signed_of digits
minus_zero = refl

-- texts
pub two_letters : text_of 2 (codes "GC") ≡ Some (codes "GC")
unfolding text_of
two_letters = refl

pub too_long : text_of 2 (codes "GCC") ≡ None
unfolding text_of
too_long = refl

pub not_printable : text_of 2 (10 ∷ []) ≡ None
unfolding text_of
not_printable = refl

-- rows of NEW-ORDER
abbrev pub two_orders : List NewOrder
two_orders =
    record { order = 2101; district = 1; warehouse = 1 } ∷ record { order = 2102; district = 10; warehouse = 1 } ∷ []

abbrev pub two_orders_text : List ℕ
two_orders_text = codes "NO_O_ID,NO_D_ID,NO_W_ID\n2101,1,1\n2102,10,1\n"

pub written : table_text tables.NewOrder new_order_values two_orders ≡ two_orders_text
unfolding digits fields_text is_blank
written = refl

pub read : table_reading tables.NewOrder new_order_with two_orders_text ≡ record { rows = two_orders; unread = None }
unfolding csv_on_literals number_of digits field_at
read = refl

-- the third record is no row, and what stands behind it isn't read
pub stopped :
    table_reading tables.NewOrder new_order_with (two_orders_text ++ codes "2103,256,1\n2104,1,1\n")
    ≡ record { rows = two_orders; unread = Some 3 }
unfolding csv_on_literals number_of digits field_at
stopped = refl

-- the names in another case
pub other_names :
    table_reading tables.NewOrder new_order_with (codes "no_o_id,NO_D_ID,NO_W_ID\n2101,1,1\n")
    ≡ record { rows = []; unread = Some 0 }
unfolding csv_on_literals
other_names = refl

-- WAREHOUSE
abbrev pub one_warehouse : List Warehouse
one_warehouse = record { id = 3; name = codes "W,3"; tax = 1500; ytd = negsuc 41 } ∷ []

abbrev pub one_warehouse_text : List ℕ
one_warehouse_text = codes "W_ID,W_NAME,W_TAX,W_YTD\n3,\"W,3\",1500,-42\n"

pub warehouse_written : table_text tables.Warehouse warehouse_values one_warehouse ≡ one_warehouse_text
unfolding digits fields_text is_blank escaped
warehouse_written = refl

pub warehouse_read : table_reading tables.Warehouse warehouse_with one_warehouse_text ≡ record { rows = one_warehouse; unread = None }
unfolding csv_on_literals number_of signed_of text_of digits field_at
warehouse_read = refl

-- DISTRICT
abbrev pub one_district : List District
one_district = record { id = 7; warehouse = 3; name = codes "D7"; tax = 20; ytd = pos 90_000; next_order = 3001 } ∷ []

abbrev pub one_district_text : List ℕ
one_district_text = codes "D_ID,D_W_ID,D_NAME,D_TAX,D_YTD,D_NEXT_O_ID\n7,3,D7,20,90000,3001\n"

pub district_written : table_text tables.District district_values one_district ≡ one_district_text
unfolding digits fields_text is_blank
district_written = refl

pub district_read : table_reading tables.District district_with one_district_text ≡ record { rows = one_district; unread = None }
unfolding csv_on_literals number_of signed_of text_of digits field_at
district_read = refl

-- CUSTOMER, whose files had no C_DATA at first
abbrev names_at_first : List ℕ
names_at_first =
    codes "C_ID,C_D_ID,C_W_ID,C_FIRST,C_MIDDLE,C_LAST,C_CREDIT,C_DISCOUNT,C_BALANCE,C_YTD_PAYMENT,"
    ++ codes "C_PAYMENT_CNT,C_DELIVERY_CNT"

abbrev fields_at_first : List ℕ
fields_at_first = codes "2999,7,3,ANN,OE,BARBARBAR,BC,5,-1000,1001,11,12"

-- a file with all columns, or with those that there were at first: a line, and what stands behind its first twelve fields
abbrev with_all : List ℕ → List ℕ
with_all behind = names_at_first ++ codes ",C_DATA\n" ++ fields_at_first ++ behind

abbrev with_first : List ℕ → List ℕ
with_first behind = names_at_first ++ codes "\n" ++ fields_at_first ++ behind

-- the customer of the line, with this C_DATA
abbrev pub customer : List ℕ → Customer
customer information = record {
  id = 2999;
  district = 7;
  warehouse = 3;
  first = codes "ANN";
  middle = codes "OE";
  last = codes "BARBARBAR";
  credit = codes "BC";
  discount = 5;
  balance = negsuc 999;
  ytd_payment = pos 1_001;
  payment_count = 11;
  delivery_count = 12;
  information = information;
}

abbrev customers_read : List ℕ → Reading Customer
customers_read text = table_reading tables.Customer customer_with text

-- the rows of a file that is whole, and those before a record that is none
abbrev whole : List Customer → Reading Customer
whole rows = record { rows = rows; unread = None }

abbrev until : ℕ → List Customer → Reading Customer
until number rows = record { rows = rows; unread = Some number }

-- a C_DATA with a comma and quotes, and an empty one, which is an empty field
pub customer_written :
    table_text tables.Customer customer_values (customer (codes "a, \"b\"") ∷ []) ≡ with_all (codes ",\"a, \"\"b\"\"\"\n")
unfolding digits fields_text is_blank escaped
customer_written = refl

pub customer_read : customers_read (with_all (codes ",\"a, \"\"b\"\"\"\n")) ≡ whole (customer (codes "a, \"b\"") ∷ [])
unfolding csv_on_literals number_of signed_of text_of digits field_at
customer_read = refl

pub no_text_written : table_text tables.Customer customer_values (customer [] ∷ []) ≡ with_all (codes ",\n")
unfolding digits fields_text is_blank
no_text_written = refl

pub no_text_read : customers_read (with_all (codes ",\n")) ≡ whole (customer [] ∷ [])
unfolding csv_on_literals number_of signed_of text_of digits field_at
no_text_read = refl

-- each file goes by its own header: twelve fields are a row under that of the first columns alone, and thirteen under that
-- of all
pub first_read : customers_read (with_first (codes "\n")) ≡ whole (customer [] ∷ [])
unfolding csv_on_literals number_of signed_of text_of digits field_at
first_read = refl

pub twelve_under_all : customers_read (with_all (codes "\n")) ≡ until 1 []
unfolding csv_on_literals number_of signed_of text_of digits field_at
twelve_under_all = refl

pub thirteen_under_first :
    customers_read (with_first (codes "\n" ++ fields_at_first ++ codes ",\n")) ≡ until 2 (customer [] ∷ [])
unfolding csv_on_literals number_of signed_of text_of digits field_at
thirteen_under_first = refl

-- no other first names are a header: eleven, all and one more, the last in another case
pub eleven_names :
    customers_read (codes "C_ID,C_D_ID,C_W_ID,C_FIRST,C_MIDDLE,C_LAST,C_CREDIT,C_DISCOUNT,C_BALANCE,C_YTD_PAYMENT,"
    ++ codes "C_PAYMENT_CNT\n" ++ codes "2999,7,3,ANN,OE,BARBARBAR,BC,5,-1000,1001,11\n") ≡ until 0 []
unfolding csv_on_literals
eleven_names = refl

pub a_name_more : customers_read (names_at_first ++ codes ",C_DATA,C_DATA\n") ≡ until 0 []
unfolding csv_on_literals
a_name_more = refl

pub an_empty_name : customers_read (names_at_first ++ codes ",\n") ≡ until 0 []
unfolding csv_on_literals
an_empty_name = refl

pub last_in_another_case : customers_read (names_at_first ++ codes ",C_data\n") ≡ until 0 []
unfolding csv_on_literals
last_in_another_case = refl

-- nor is there a second header of another table, and none has that of CUSTOMER
pub district_without_its_last :
    table_reading tables.District district_with (codes "D_ID,D_W_ID,D_NAME,D_TAX,D_YTD\n7,3,D7,20,90000\n")
    ≡ record { rows = []; unread = Some 0 }
unfolding csv_on_literals
district_without_its_last = refl

pub district_of_a_customer :
    table_reading tables.District district_with (with_first (codes "\n")) ≡ record { rows = []; unread = Some 0 }
unfolding csv_on_literals
district_of_a_customer = refl

-- a C_DATA of 500 bytes and of 501, with a byte that isn't printable, and with the end of a line
pub longest_text : customers_read (with_all (44 ∷ replicate 500 88 ++ codes "\n")) ≡ whole (customer (replicate 500 88) ∷ [])
unfolding csv_on_literals number_of signed_of text_of digits field_at
longest_text = refl

pub too_long_text : customers_read (with_all (44 ∷ replicate 501 88 ++ codes "\n")) ≡ until 1 []
unfolding csv_on_literals number_of signed_of text_of digits field_at
too_long_text = refl

pub unprintable_text : customers_read (with_all (44 ∷ 127 ∷ codes "\n")) ≡ until 1 []
unfolding csv_on_literals number_of signed_of text_of digits field_at
unprintable_text = refl

pub text_of_two_lines : customers_read (with_all (codes ",\"a\nb\"\n")) ≡ until 1 []
unfolding csv_on_literals number_of signed_of text_of digits field_at
text_of_two_lines = refl

-- HISTORY
abbrev pub one_payment : List History
one_payment = record {
  customer = 2999;
  customer_district = 7;
  customer_warehouse = 3;
  district = 8;
  warehouse = 4;
  date = 60;
  amount = pos 1_000;
  information = codes "W4    D8";
} ∷ []

abbrev pub one_payment_text : List ℕ
one_payment_text =
    codes "H_C_ID,H_C_D_ID,H_C_W_ID,H_D_ID,H_W_ID,H_DATE,H_AMOUNT,H_DATA\n2999,7,3,8,4,60,1000,W4    D8\n"

pub payment_written : table_text tables.History history_values one_payment ≡ one_payment_text
unfolding digits fields_text is_blank
payment_written = refl

pub payment_read : table_reading tables.History history_with one_payment_text ≡ record { rows = one_payment; unread = None }
unfolding csv_on_literals number_of signed_of text_of digits field_at
payment_read = refl

-- ORDER
abbrev pub one_order : List Order
one_order = record {
  id = 2101;
  district = 7;
  warehouse = 3;
  customer = 2999;
  entry_date = 61;
  carrier = 0;
  line_count = 5;
  all_local = 1;
} ∷ []

abbrev pub one_order_text : List ℕ
one_order_text =
    codes "O_ID,O_D_ID,O_W_ID,O_C_ID,O_ENTRY_D,O_CARRIER_ID,O_OL_CNT,O_ALL_LOCAL\n2101,7,3,2999,61,0,5,1\n"

pub order_written : table_text tables.Order order_values one_order ≡ one_order_text
unfolding digits fields_text is_blank
order_written = refl

pub order_read : table_reading tables.Order order_with one_order_text ≡ record { rows = one_order; unread = None }
unfolding csv_on_literals number_of digits field_at
order_read = refl

-- ORDER-LINE
abbrev pub one_line : List OrderLine
one_line = record {
  order = 2101;
  district = 7;
  warehouse = 3;
  number = 4;
  item = 99_999;
  supply_warehouse = 5;
  delivery_date = 0;
  quantity = 6;
  amount = pos 1_234;
} ∷ []

abbrev pub one_line_text : List ℕ
one_line_text =
    codes "OL_O_ID,OL_D_ID,OL_W_ID,OL_NUMBER,OL_I_ID,OL_SUPPLY_W_ID,OL_DELIVERY_D,OL_QUANTITY,OL_AMOUNT\n"
    ++ codes "2101,7,3,4,99999,5,0,6,1234\n"

pub line_written : table_text tables.OrderLine order_line_values one_line ≡ one_line_text
unfolding digits fields_text is_blank
line_written = refl

pub line_read : table_reading tables.OrderLine order_line_with one_line_text ≡ record { rows = one_line; unread = None }
unfolding csv_on_literals number_of signed_of digits field_at
line_read = refl

-- STOCK
abbrev pub one_stock : List Stock
one_stock =
    record { item = 99_999; warehouse = 3; quantity = 31; ytd = 300; order_count = 29; remote_count = 28 } ∷ []

abbrev pub one_stock_text : List ℕ
one_stock_text = codes "S_I_ID,S_W_ID,S_QUANTITY,S_YTD,S_ORDER_CNT,S_REMOTE_CNT\n99999,3,31,300,29,28\n"

pub stock_written : table_text tables.Stock stock_values one_stock ≡ one_stock_text
unfolding digits fields_text is_blank
stock_written = refl

pub stock_read : table_reading tables.Stock stock_with one_stock_text ≡ record { rows = one_stock; unread = None }
unfolding csv_on_literals number_of digits field_at
stock_read = refl

-- ITEM
abbrev pub one_item : List Item
one_item = record { id = 99_999; image = 321; name = codes "a \"b\""; price = 250 } ∷ []

abbrev pub one_item_text : List ℕ
one_item_text = codes "I_ID,I_IM_ID,I_NAME,I_PRICE\n99999,321,\"a \"\"b\"\"\",250\n"

pub item_written : table_text tables.Item item_values one_item ≡ one_item_text
unfolding digits fields_text is_blank escaped
item_written = refl

pub item_read : table_reading tables.Item item_with one_item_text ≡ record { rows = one_item; unread = None }
unfolding csv_on_literals number_of text_of digits field_at
item_read = refl
