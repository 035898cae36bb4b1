-- A row of each table as a query's answer, which the checker computes: the query asks for the first columns of the table, by
-- the names that the catalogue has, and the answer are the values in the row's words and numbers.
use Rattle.std.specs.Prelude.{◌≡◌, ℕ, ◌++◌, List, [], ◌∷◌, map, take, codes, negsuc, refl}
use Rattle.hy_rows.specs.Catalogue.{definition_of, names_of}
use Rattle.hy_rows.specs.Tables.{Lists}
use Rattle.hy_rows.specs.WorkedRows.{fresh_customer, fresh_district, fresh_warehouse, some_rows}
use Rattle.hy_rows.specs.declared.catalogue.Table.{Table}
use Rattle.hy_rows.specs.declared.catalogue.Table.TheVariants as tables
use Rattle.hy_rows.specs.declared.value.Value.TheVariants.{Text, Whole}
use Rattle.hy_query.specs.Columns.{lowered}
use Rattle.hy_query.specs.Language.{query_of}
use Rattle.hy_query.specs.Rows.{Row}
use Rattle.hy_query.specs.WorkedAnswers.{answer_in, number, numbers}

-- one row of each table
abbrev one_of_each : Lists
one_of_each = record {
  items = record { id = 70_000; image = 7; name = codes "nut"; price = 300 } ∷ [];
  tables = record some_rows {
    warehouses = fresh_warehouse ∷ [];
    districts = fresh_district 3 (codes "D3") ∷ [];
    customers = fresh_customer 3 2 (codes "F0002") (codes "BARBAROUGHT") ∷ [];
  };
}

-- names with a comma between
abbrev joined : List (List ℕ) → List ℕ
joined [] = []
joined (name ∷ []) = name
joined (name ∷ next ∷ names) = name ++ codes "," ++ joined (next ∷ names)

-- what a query for so many columns of a table is answered
abbrev first_columns : ℕ → Table → List Row
first_columns count table =
    answer_in one_of_each (query_of (codes "from " ++ (definition_of table).word ++ codes " select "
    ++ joined (map lowered (take count (names_of table)))))

abbrev of_warehouse : first_columns 4 tables.Warehouse
    ≡ (number 1 ++ Text (codes "W1") ∷ number 500 ++ number 30_000) ∷ []
of_warehouse = refl

abbrev of_district : first_columns 6 tables.District
    ≡ (number 3 ++ number 1 ++ Text (codes "D3") ∷ number 300 ++ number 3_000 ++ number 1) ∷ []
of_district = refl

abbrev of_customer : first_columns 12 tables.Customer
    ≡ (numbers (2 ∷ 3 ∷ 1 ∷ []) ++ map (λ text. Text text) (codes "F0002" ∷ codes "OE" ∷ codes "BARBAROUGHT" ∷
    codes "GC" ∷ []) ++ number 200 ++ Whole (negsuc 999) ∷ numbers (1_000 ∷ 1 ∷ 0 ∷ [])) ∷ []
of_customer = refl

abbrev of_history : first_columns 8 tables.History
    ≡ (numbers (2 ∷ 3 ∷ 4 ∷ 5 ∷ 6 ∷ 1_700_000_000 ∷ []) ++ Whole (negsuc 299) ∷ Text (codes "W6    D5") ∷ []) ∷ []
of_history = refl

abbrev of_new_order : first_columns 3 tables.NewOrder ≡ numbers (3_001 ∷ 5 ∷ 6 ∷ []) ∷ []
of_new_order = refl

abbrev of_order : first_columns 8 tables.Order
    ≡ numbers (3_001 ∷ 5 ∷ 6 ∷ 300 ∷ 1_700_000_000 ∷ 7 ∷ 12 ∷ 1 ∷ []) ∷ []
of_order = refl

abbrev of_order_line : first_columns 9 tables.OrderLine
    ≡ numbers (3_001 ∷ 5 ∷ 6 ∷ 8 ∷ 70_000 ∷ 10 ∷ 1_700_000_001 ∷ 9 ∷ 123_456 ∷ []) ∷ []
of_order_line = refl

abbrev of_stock : first_columns 6 tables.Stock ≡ numbers (70_000 ∷ 10 ∷ 91 ∷ 1_000 ∷ 300 ∷ 2 ∷ []) ∷ []
of_stock = refl

abbrev of_item : first_columns 4 tables.Item ≡ (numbers (70_000 ∷ 7 ∷ []) ++ Text (codes "nut") ∷ number 300) ∷ []
of_item = refl
