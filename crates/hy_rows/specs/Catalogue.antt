-- The catalogue: the name of each table, the word that stands for it, its segment and its columns in their order (TPC-C
-- clauses 1.2 and 1.3, without the columns that this database leaves out), and what follows from them.
use Rattle.std.specs.Prelude.{ℕ, ℤ, pos, neg_ℤ, ◌+◌, List, [], ◌∷◌, ◌++◌, length, map, filter, max, Option, None, Some, is_some, unwrap_or, codes}
use Rattle.std.specs.List.{fold}
use Rattle.hy_rows.specs.Columns.{Column, OneOf, Signed, Text, Unsigned, row_width}
use Rattle.hy_rows.specs.Limits.{districts_per_warehouse, max_carriers, max_cents, max_count, max_customers, max_images, max_items, max_line_cents, max_lines, max_moment, max_order, max_price, max_quantity, max_rate, max_stock, max_warehouses, min_lines}
use Rattle.hy_rows.specs.declared.catalogue.Table.{Table}
use Rattle.hy_rows.specs.declared.catalogue.Table.TheVariants as tables

-- a table: its name, the word that queries and the name of its file have for it, the segment on whose pages its rows lie,
-- where they lie on pages, and its columns
pub record Definition : Type 0 where
  pub name : List ℕ
  pub word : List ℕ
  pub segment : Option ℕ
  pub columns : List Column

-- columns: of whole numbers of so many bytes, from one to another; of amounts in cents; of texts of at most so many bytes;
-- and of texts that are each one of some
abbrev number : List ℕ → ℕ → ℕ → ℕ → Column
number name width low high = record { name = name; domain = Unsigned width low high }

abbrev amount : List ℕ → ℤ → ℤ → Column
amount name low high = record { name = name; domain = Signed low high }

abbrev text : List ℕ → ℕ → Column
text name width = record { name = name; domain = Text width }

abbrev one_of : List ℕ → ℕ → List (List ℕ) → Column
one_of name width words = record { name = name; domain = OneOf width words }

abbrev pub definition_of : Table → Definition
definition_of tables.Warehouse = record {
  name = codes "WAREHOUSE";
  word = codes "warehouse";
  segment = Some 0;
  columns =
      number (codes "W_ID") 1 1 max_warehouses
      ∷ text (codes "W_NAME") 10
      ∷ number (codes "W_TAX") 2 0 max_rate
      ∷ amount (codes "W_YTD") (neg_ℤ (pos max_cents)) (pos max_cents)
      ∷ [];
}
definition_of tables.District = record {
  name = codes "DISTRICT";
  word = codes "district";
  segment = Some 1;
  columns =
      number (codes "D_ID") 1 1 districts_per_warehouse
      ∷ number (codes "D_W_ID") 1 1 max_warehouses
      ∷ text (codes "D_NAME") 10
      ∷ number (codes "D_TAX") 2 0 max_rate
      ∷ amount (codes "D_YTD") (neg_ℤ (pos max_cents)) (pos max_cents)
      ∷ number (codes "D_NEXT_O_ID") 4 1 max_order
      ∷ [];
}
definition_of tables.Customer = record {
  name = codes "CUSTOMER";
  word = codes "customer";
  segment = Some 2;
  columns =
      number (codes "C_ID") 2 1 max_customers
      ∷ number (codes "C_D_ID") 1 1 districts_per_warehouse
      ∷ number (codes "C_W_ID") 1 1 max_warehouses
      ∷ text (codes "C_FIRST") 16
      ∷ text (codes "C_MIDDLE") 2
      ∷ text (codes "C_LAST") 16
      ∷ one_of (codes "C_CREDIT") 2 (codes "GC" ∷ codes "BC" ∷ [])
      ∷ number (codes "C_DISCOUNT") 2 0 max_rate
      ∷ amount (codes "C_BALANCE") (neg_ℤ (pos max_cents)) (pos max_cents)
      ∷ amount (codes "C_YTD_PAYMENT") (neg_ℤ (pos max_cents)) (pos max_cents)
      ∷ number (codes "C_PAYMENT_CNT") 8 0 max_count
      ∷ number (codes "C_DELIVERY_CNT") 8 0 max_count
      ∷ text (codes "C_DATA") 500
      ∷ [];
}
definition_of tables.History = record {
  name = codes "HISTORY";
  word = codes "history";
  segment = Some 3;
  columns =
      number (codes "H_C_ID") 2 1 max_customers
      ∷ number (codes "H_C_D_ID") 1 1 districts_per_warehouse
      ∷ number (codes "H_C_W_ID") 1 1 max_warehouses
      ∷ number (codes "H_D_ID") 1 1 districts_per_warehouse
      ∷ number (codes "H_W_ID") 1 1 max_warehouses
      ∷ number (codes "H_DATE") 8 1 max_moment
      ∷ amount (codes "H_AMOUNT") (neg_ℤ (pos max_cents)) (pos max_cents)
      ∷ text (codes "H_DATA") 24
      ∷ [];
}
definition_of tables.NewOrder = record {
  name = codes "NEW-ORDER";
  word = codes "neworder";
  segment = Some 4;
  columns =
      number (codes "NO_O_ID") 4 1 max_order
      ∷ number (codes "NO_D_ID") 1 1 districts_per_warehouse
      ∷ number (codes "NO_W_ID") 1 1 max_warehouses
      ∷ [];
}
definition_of tables.Order = record {
  name = codes "ORDER";
  word = codes "orders";
  segment = Some 5;
  columns =
      number (codes "O_ID") 4 1 max_order
      ∷ number (codes "O_D_ID") 1 1 districts_per_warehouse
      ∷ number (codes "O_W_ID") 1 1 max_warehouses
      ∷ number (codes "O_C_ID") 2 1 max_customers
      ∷ number (codes "O_ENTRY_D") 8 1 max_moment
      ∷ number (codes "O_CARRIER_ID") 1 0 max_carriers
      ∷ number (codes "O_OL_CNT") 1 min_lines max_lines
      ∷ number (codes "O_ALL_LOCAL") 1 0 1
      ∷ [];
}
definition_of tables.OrderLine = record {
  name = codes "ORDER-LINE";
  word = codes "orderline";
  segment = Some 6;
  columns =
      number (codes "OL_O_ID") 4 1 max_order
      ∷ number (codes "OL_D_ID") 1 1 districts_per_warehouse
      ∷ number (codes "OL_W_ID") 1 1 max_warehouses
      ∷ number (codes "OL_NUMBER") 1 1 max_lines
      ∷ number (codes "OL_I_ID") 4 1 max_items
      ∷ number (codes "OL_SUPPLY_W_ID") 1 1 max_warehouses
      ∷ number (codes "OL_DELIVERY_D") 8 0 max_moment
      ∷ number (codes "OL_QUANTITY") 1 1 max_quantity
      ∷ amount (codes "OL_AMOUNT") (pos 0) (pos max_line_cents)
      ∷ [];
}
definition_of tables.Stock = record {
  name = codes "STOCK";
  word = codes "stock";
  segment = Some 7;
  columns =
      number (codes "S_I_ID") 4 1 max_items
      ∷ number (codes "S_W_ID") 1 1 max_warehouses
      ∷ number (codes "S_QUANTITY") 2 0 max_stock
      ∷ number (codes "S_YTD") 8 0 max_count
      ∷ number (codes "S_ORDER_CNT") 8 0 max_count
      ∷ number (codes "S_REMOTE_CNT") 8 0 max_count
      ∷ [];
}
definition_of tables.Item = record {
  name = codes "ITEM";
  word = codes "item";
  segment = None;
  columns =
      number (codes "I_ID") 4 1 max_items
      ∷ number (codes "I_IM_ID") 4 1 max_images
      ∷ text (codes "I_NAME") 24
      ∷ number (codes "I_PRICE") 4 1 max_price
      ∷ [];
}

-- all tables: those on pages in the order of their segments, and ITEM
abbrev pub all_tables : List Table
all_tables =
    tables.Warehouse ∷ tables.District ∷ tables.Customer ∷ tables.History ∷ tables.NewOrder ∷ tables.Order
    ∷ tables.OrderLine ∷ tables.Stock ∷ tables.Item ∷ []

-- the same in the order in which the files of a load are read
abbrev pub tables_by_file : List Table
tables_by_file =
    tables.Warehouse ∷ tables.District ∷ tables.Customer ∷ tables.Item ∷ tables.Stock ∷ tables.Order ∷ tables.NewOrder
    ∷ tables.OrderLine ∷ tables.History ∷ []

abbrev pub columns_of : Table → List Column
columns_of table = (definition_of table).columns

-- the name of a table's file
abbrev pub file_of : Table → List ℕ
file_of table = (definition_of table).word ++ codes ".csv"

-- the names of a table's columns, in their order: the header of its file
abbrev pub names_of : Table → List (List ℕ)
names_of table = map (λ column. column.name) (columns_of table)

-- the tables that lie on pages, in the order of their segments
abbrev pub tables_on_pages : List Table
tables_on_pages = filter (λ table. is_some (definition_of table).segment) all_tables

-- the segment of one of them
abbrev pub segment_of : Table → ℕ
segment_of table = unwrap_or (definition_of table).segment 0

-- how many bytes a row of each of them has, by segment
abbrev pub row_widths : List ℕ
row_widths = map (λ table. row_width (columns_of table)) tables_on_pages

-- how many bytes a slot has at most: its mark, and the longest row
abbrev pub max_slot_bytes : ℕ
max_slot_bytes = 1 + fold max 0 row_widths

-- how many segments hold the tables; others may follow them
abbrev pub segments : ℕ
segments = length row_widths

-- the place of a table among all: its segment, or behind the others
abbrev pub place_of : Table → ℕ
place_of table = unwrap_or (definition_of table).segment segments

-- no table has more columns
abbrev pub max_columns : ℕ
max_columns = 16
