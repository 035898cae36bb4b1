-- Worked examples of the ranges, which the checker computes: of each table the rows with the least and the greatest values
-- that a load may have, and rows with one value just beyond an end.
use Rattle.std.specs.Prelude.{◌≡◌, ℕ, pos, negsuc, Bool, false, true, List, [], ◌∷◌, codes, refl, replicate, slice_set}
use Rattle.std.specs.List.{list_any}
use Rattle.hy_rows.specs.Catalogue.{columns_of}
use Rattle.hy_rows.specs.Columns.{are_allowed}
use Rattle.hy_rows.specs.declared.catalogue.Table.{Table}
use Rattle.hy_rows.specs.declared.catalogue.Table.TheVariants as tables
use Rattle.hy_rows.specs.declared.value.Value.{Value}
use Rattle.hy_rows.specs.declared.value.Value.TheVariants.{Text, Whole}

abbrev number : ℕ → Value
number value = Whole (pos value)

-- whether a load may have a row with these values
abbrev may_be : Table → List Value → Bool
may_be table row = are_allowed (columns_of table) row

-- whether it may have one with another value at a place
abbrev may_have : Table → List Value → ℕ × Value → Bool
may_have table row change = may_be table (slice_set row change.0 change.1)

-- WAREHOUSE
abbrev least_warehouse : List Value
least_warehouse = number 1 ∷ Text [] ∷ number 0 ∷ Whole (negsuc 999_999_999_999_999) ∷ []

abbrev greatest_warehouse : List Value
greatest_warehouse = number 16 ∷ Text (codes "~~~~~~~~~~") ∷ number 10_000 ∷ Whole (pos 1_000_000_000_000_000) ∷ []

pub warehouse-least : may_be tables.Warehouse least_warehouse ≡ true
warehouse-least = refl

pub warehouse-greatest : may_be tables.Warehouse greatest_warehouse ≡ true
warehouse-greatest = refl

abbrev warehouse_beyond : List (ℕ × Value)
warehouse_beyond = (0, number 0) ∷ (0, number 17) ∷ (1, Text (codes "~~~~~~~~~~~")) ∷ (1, Text (31 ∷ []))
    ∷ (1, Text (127 ∷ [])) ∷ (2, number 10_001) ∷ (3, Whole (negsuc 1_000_000_000_000_000))
    ∷ (3, Whole (pos 1_000_000_000_000_001)) ∷ []

pub warehouse-beyond : list_any (may_have tables.Warehouse greatest_warehouse) warehouse_beyond ≡ false
warehouse-beyond = refl

-- DISTRICT
abbrev least_district : List Value
least_district = number 1 ∷ number 1 ∷ Text [] ∷ number 0 ∷ Whole (negsuc 999_999_999_999_999) ∷ number 1 ∷ []

abbrev greatest_district : List Value
greatest_district = number 10 ∷ number 16 ∷ Text (codes "~~~~~~~~~~") ∷ number 10_000
    ∷ Whole (pos 1_000_000_000_000_000) ∷ number 1_000_000_000 ∷ []

pub district-least : may_be tables.District least_district ≡ true
district-least = refl

pub district-greatest : may_be tables.District greatest_district ≡ true
district-greatest = refl

abbrev district_beyond : List (ℕ × Value)
district_beyond = (0, number 0) ∷ (0, number 11) ∷ (1, number 0) ∷ (1, number 17) ∷ (2, Text (codes "~~~~~~~~~~~"))
    ∷ (2, Text (10 ∷ [])) ∷ (3, number 10_001) ∷ (4, Whole (negsuc 1_000_000_000_000_000))
    ∷ (4, Whole (pos 1_000_000_000_000_001)) ∷ (5, number 0) ∷ (5, number 1_000_000_001) ∷ []

pub district-beyond : list_any (may_have tables.District greatest_district) district_beyond ≡ false
district-beyond = refl

-- CUSTOMER
abbrev least_customer : List Value
least_customer = number 1 ∷ number 1 ∷ number 1 ∷ Text [] ∷ Text [] ∷ Text [] ∷ Text (codes "BC") ∷ number 0
    ∷ Whole (negsuc 999_999_999_999_999) ∷ Whole (negsuc 999_999_999_999_999) ∷ number 0 ∷ number 0
    ∷ Text [] ∷ []

abbrev greatest_customer : List Value
greatest_customer = number 3_000 ∷ number 10 ∷ number 16 ∷ Text (codes "~~~~~~~~~~~~~~~~") ∷ Text (codes "~~")
    ∷ Text (codes "                ") ∷ Text (codes "GC") ∷ number 10_000 ∷ Whole (pos 1_000_000_000_000_000)
    ∷ Whole (pos 1_000_000_000_000_000) ∷ number 1_000_000_000_000_000 ∷ number 1_000_000_000_000_000
    ∷ Text (replicate 500 126) ∷ []

pub customer-least : may_be tables.Customer least_customer ≡ true
customer-least = refl

pub customer-greatest : may_be tables.Customer greatest_customer ≡ true
customer-greatest = refl

abbrev customer_beyond : List (ℕ × Value)
customer_beyond = (0, number 0) ∷ (0, number 3_001) ∷ (1, number 0) ∷ (1, number 11) ∷ (2, number 0)
    ∷ (2, number 17) ∷ (3, Text (codes "~~~~~~~~~~~~~~~~~")) ∷ (3, Text (31 ∷ [])) ∷ (4, Text (codes "~~~"))
    ∷ (4, Text (127 ∷ [])) ∷ (5, Text (codes "                 ")) ∷ (5, Text (10 ∷ [])) ∷ (6, Text [])
    ∷ (6, Text (codes "gc")) ∷ (6, Text (codes "GCB")) ∷ (7, number 10_001)
    ∷ (8, Whole (negsuc 1_000_000_000_000_000)) ∷ (8, Whole (pos 1_000_000_000_000_001))
    ∷ (9, Whole (negsuc 1_000_000_000_000_000)) ∷ (9, Whole (pos 1_000_000_000_000_001))
    ∷ (10, number 1_000_000_000_000_001) ∷ (11, number 1_000_000_000_000_001) ∷ (12, Text (replicate 501 126))
    ∷ (12, Text (31 ∷ [])) ∷ (12, Text (127 ∷ [])) ∷ []

pub customer-beyond : list_any (may_have tables.Customer greatest_customer) customer_beyond ≡ false
customer-beyond = refl

-- HISTORY
abbrev least_history : List Value
least_history = number 1 ∷ number 1 ∷ number 1 ∷ number 1 ∷ number 1 ∷ number 1 ∷ Whole (negsuc 999_999_999_999_999)
    ∷ Text [] ∷ []

abbrev greatest_history : List Value
greatest_history = number 3_000 ∷ number 10 ∷ number 16 ∷ number 10 ∷ number 16 ∷ number 1_000_000_000_000_000
    ∷ Whole (pos 1_000_000_000_000_000) ∷ Text (codes "~~~~~~~~~~~~~~~~~~~~~~~~") ∷ []

pub history-least : may_be tables.History least_history ≡ true
history-least = refl

pub history-greatest : may_be tables.History greatest_history ≡ true
history-greatest = refl

abbrev history_beyond : List (ℕ × Value)
history_beyond = (0, number 0) ∷ (0, number 3_001) ∷ (1, number 0) ∷ (1, number 11) ∷ (2, number 0) ∷ (2, number 17)
    ∷ (3, number 0) ∷ (3, number 11) ∷ (4, number 0) ∷ (4, number 17) ∷ (5, number 0)
    ∷ (5, number 1_000_000_000_000_001) ∷ (6, Whole (negsuc 1_000_000_000_000_000))
    ∷ (6, Whole (pos 1_000_000_000_000_001)) ∷ (7, Text (codes "~~~~~~~~~~~~~~~~~~~~~~~~~")) ∷ (7, Text (127 ∷ []))
    ∷ []

pub history-beyond : list_any (may_have tables.History greatest_history) history_beyond ≡ false
history-beyond = refl

-- NEW-ORDER
abbrev least_new_order : List Value
least_new_order = number 1 ∷ number 1 ∷ number 1 ∷ []

abbrev greatest_new_order : List Value
greatest_new_order = number 1_000_000_000 ∷ number 10 ∷ number 16 ∷ []

pub new_order-least : may_be tables.NewOrder least_new_order ≡ true
new_order-least = refl

pub new_order-greatest : may_be tables.NewOrder greatest_new_order ≡ true
new_order-greatest = refl

abbrev new_order_beyond : List (ℕ × Value)
new_order_beyond = (0, number 0) ∷ (0, number 1_000_000_001) ∷ (1, number 0) ∷ (1, number 11) ∷ (2, number 0)
    ∷ (2, number 17) ∷ []

pub new_order-beyond : list_any (may_have tables.NewOrder greatest_new_order) new_order_beyond ≡ false
new_order-beyond = refl

-- ORDER
abbrev least_order : List Value
least_order = number 1 ∷ number 1 ∷ number 1 ∷ number 1 ∷ number 1 ∷ number 0 ∷ number 5 ∷ number 0 ∷ []

abbrev greatest_order : List Value
greatest_order = number 1_000_000_000 ∷ number 10 ∷ number 16 ∷ number 3_000 ∷ number 1_000_000_000_000_000
    ∷ number 10 ∷ number 15 ∷ number 1 ∷ []

pub order-least : may_be tables.Order least_order ≡ true
order-least = refl

pub order-greatest : may_be tables.Order greatest_order ≡ true
order-greatest = refl

abbrev order_beyond : List (ℕ × Value)
order_beyond = (0, number 0) ∷ (0, number 1_000_000_001) ∷ (1, number 0) ∷ (1, number 11) ∷ (2, number 0)
    ∷ (2, number 17) ∷ (3, number 0) ∷ (3, number 3_001) ∷ (4, number 0) ∷ (4, number 1_000_000_000_000_001)
    ∷ (5, number 11) ∷ (6, number 4) ∷ (6, number 16) ∷ (7, number 2) ∷ []

pub order-beyond : list_any (may_have tables.Order greatest_order) order_beyond ≡ false
order-beyond = refl

-- ORDER-LINE
abbrev least_order_line : List Value
least_order_line = number 1 ∷ number 1 ∷ number 1 ∷ number 1 ∷ number 1 ∷ number 1 ∷ number 0 ∷ number 1
    ∷ Whole (pos 0) ∷ []

abbrev greatest_order_line : List Value
greatest_order_line = number 1_000_000_000 ∷ number 10 ∷ number 16 ∷ number 15 ∷ number 100_000 ∷ number 16
    ∷ number 1_000_000_000_000_000 ∷ number 10 ∷ Whole (pos 10_000_000) ∷ []

pub order_line-least : may_be tables.OrderLine least_order_line ≡ true
order_line-least = refl

pub order_line-greatest : may_be tables.OrderLine greatest_order_line ≡ true
order_line-greatest = refl

abbrev order_line_beyond : List (ℕ × Value)
order_line_beyond = (0, number 0) ∷ (0, number 1_000_000_001) ∷ (1, number 0) ∷ (1, number 11) ∷ (2, number 0)
    ∷ (2, number 17) ∷ (3, number 0) ∷ (3, number 16) ∷ (4, number 0) ∷ (4, number 100_001) ∷ (5, number 0)
    ∷ (5, number 17) ∷ (6, number 1_000_000_000_000_001) ∷ (7, number 0) ∷ (7, number 11) ∷ (8, Whole (negsuc 0))
    ∷ (8, Whole (pos 10_000_001)) ∷ []

pub order_line-beyond : list_any (may_have tables.OrderLine greatest_order_line) order_line_beyond ≡ false
order_line-beyond = refl

-- STOCK
abbrev least_stock : List Value
least_stock = number 1 ∷ number 1 ∷ number 0 ∷ number 0 ∷ number 0 ∷ number 0 ∷ []

abbrev greatest_stock : List Value
greatest_stock = number 100_000 ∷ number 16 ∷ number 9_999 ∷ number 1_000_000_000_000_000
    ∷ number 1_000_000_000_000_000 ∷ number 1_000_000_000_000_000 ∷ []

pub stock-least : may_be tables.Stock least_stock ≡ true
stock-least = refl

pub stock-greatest : may_be tables.Stock greatest_stock ≡ true
stock-greatest = refl

abbrev stock_beyond : List (ℕ × Value)
stock_beyond = (0, number 0) ∷ (0, number 100_001) ∷ (1, number 0) ∷ (1, number 17) ∷ (2, number 10_000)
    ∷ (3, number 1_000_000_000_000_001) ∷ (4, number 1_000_000_000_000_001) ∷ (5, number 1_000_000_000_000_001) ∷ []

pub stock-beyond : list_any (may_have tables.Stock greatest_stock) stock_beyond ≡ false
stock-beyond = refl

-- ITEM
abbrev least_item : List Value
least_item = number 1 ∷ number 1 ∷ Text [] ∷ number 1 ∷ []

abbrev greatest_item : List Value
greatest_item = number 100_000 ∷ number 10_000 ∷ Text (codes "~~~~~~~~~~~~~~~~~~~~~~~~") ∷ number 1_000_000 ∷ []

pub item-least : may_be tables.Item least_item ≡ true
item-least = refl

pub item-greatest : may_be tables.Item greatest_item ≡ true
item-greatest = refl

abbrev item_beyond : List (ℕ × Value)
item_beyond = (0, number 0) ∷ (0, number 100_001) ∷ (1, number 0) ∷ (1, number 10_001)
    ∷ (2, Text (codes "~~~~~~~~~~~~~~~~~~~~~~~~~")) ∷ (2, Text (127 ∷ [])) ∷ (3, number 0) ∷ (3, number 1_000_001)
    ∷ []

pub item-beyond : list_any (may_have tables.Item greatest_item) item_beyond ≡ false
item-beyond = refl
