-- The rows of a generated database: so many warehouses with ten districts each, customers in each district, and items.
-- ORDER, NEW-ORDER and ORDER-LINE have no rows.
use Rattle.std.specs.Prelude.{ℕ, pos, negsuc, ◌+◌, ◌-◌, ◌*◌, ◌/◌, ◌%◌, ◌==◌, ◌&&◌, Bool, if◌then◌else◌, zero, suc, List, [], ◌∷◌, ◌++◌, codes}
use Rattle.std.specs.List.{slice_index_or}
use Rattle.std.specs.Fmt.{decimal}
use Rattle.hy_rows.specs.declared.warehouse.Warehouse.{Warehouse}
use Rattle.hy_rows.specs.declared.district.District.{District}
use Rattle.hy_rows.specs.declared.customer.Customer.{Customer}
use Rattle.hy_rows.specs.declared.history.History.{History}
use Rattle.hy_rows.specs.declared.item.Item.{Item}
use Rattle.hy_rows.specs.declared.stock.Stock.{Stock}
use Rattle.hy_rows.specs.Limits.{districts_per_warehouse, max_customers, max_items, max_warehouses}
use Rattle.hy_rows.specs.Ranges.{is_between}
use Rattle.hy_rows.specs.Tables.{Lists, no_rows}

-- the parts of a last name, one for each digit (TPC-C clause 4.3.2.3)
abbrev pub syllables : List (List ℕ)
syllables =
    codes "BAR" ∷ codes "OUGHT" ∷ codes "ABLE" ∷ codes "PRI" ∷ codes "PRES"
    ∷ codes "ESE" ∷ codes "ANTI" ∷ codes "CALLY" ∷ codes "ATION" ∷ codes "EING" ∷ []

-- the part for the last digit of a number
abbrev pub syllable : ℕ → List ℕ
syllable number = slice_index_or syllables (number % 10) []

-- the last name of the last three digits of a number
abbrev pub last_name : ℕ → List ℕ
last_name number = syllable (number / 100) ++ syllable (number / 10) ++ syllable number

-- the last digit of a number, as a byte
abbrev pub digit : ℕ → ℕ
digit number = 48 + number % 10

-- a letter and the last four digits of a number
abbrev pub with_four_digits : ℕ → ℕ → List ℕ
with_four_digits letter number =
    letter ∷ digit (number / 1000) ∷ digit (number / 100) ∷ digit (number / 10) ∷ digit number ∷ []

-- bad credit for each tenth number, and good credit for the others
abbrev pub credit : ℕ → List ℕ
credit number = if number % 10 == 0 then codes "BC" else codes "GC"

-- what is noted of a payment in a district: W_NAME, four spaces, D_NAME
abbrev pub payment_information : ℕ → ℕ → List ℕ
payment_information warehouse district = codes "W" ++ decimal warehouse ++ codes "    D" ++ decimal district

-- warehouse `number`, with so many customers in each district
abbrev pub generated_warehouse : ℕ → ℕ → Warehouse
generated_warehouse customers number = record {
  id = number;
  name = codes "W" ++ decimal number;
  tax = 500 * number % 2001;
  ytd = pos (10_000 * customers);
}

-- district `number` of a warehouse, with so many customers
abbrev pub generated_district : ℕ → ℕ → ℕ → District
generated_district customers warehouse number = record {
  id = number;
  warehouse = warehouse;
  name = codes "D" ++ decimal number;
  tax = 100 * number;
  ytd = pos (1_000 * customers);
  next_order = 1;
}

-- customer `number` of a district of a warehouse, and the one payment of this customer, made there
abbrev pub generated_customer : ℕ → ℕ → ℕ → Customer
generated_customer warehouse district number = record {
  id = number;
  district = district;
  warehouse = warehouse;
  first = with_four_digits 70 number;
  middle = codes "OE";
  last = last_name (number - 1);
  credit = credit number;
  discount = 100 * number % 5001;
  balance = negsuc 999;
  ytd_payment = pos 1_000;
  payment_count = 1;
  delivery_count = 0;
  information = [];
}

abbrev pub generated_payment : ℕ → ℕ → ℕ → History
generated_payment warehouse district customer = record {
  customer = customer;
  customer_district = district;
  customer_warehouse = warehouse;
  district = district;
  warehouse = warehouse;
  date = 1;
  amount = pos 1_000;
  information = payment_information warehouse district;
}

-- item `number`, and how a warehouse has it in stock
abbrev pub generated_item : ℕ → Item
generated_item number = record {
  id = number;
  image = 1 + number % 10;
  name = codes "ITEM" ++ decimal number;
  price = 100 + 37 * number % 9901;
}

abbrev pub generated_stock : ℕ → ℕ → Stock
generated_stock warehouse item = record {
  item = item;
  warehouse = warehouse;
  quantity = 10 + (7 * item + warehouse) % 91;
  ytd = 0;
  order_count = 0;
  remote_count = 0;
}

-- the rows of the numbers from 1 to the last
abbrev pub rows_up_to : {Row : Type 0} → (ℕ → Row) → ℕ → List Row
rows_up_to row zero = []
rows_up_to row (suc last) = rows_up_to row last ++ row (suc last) ∷ []

-- the lists of the numbers from 1 to the last, one behind another
abbrev pub joined_up_to : {Row : Type 0} → (ℕ → List Row) → ℕ → List Row
joined_up_to rows zero = []
joined_up_to rows (suc last) = joined_up_to rows last ++ rows (suc last)

-- the rows of each customer of each district of a warehouse, where each has so many customers
abbrev pub by_customer : {Row : Type 0} → (ℕ → ℕ → ℕ → Row) → ℕ → ℕ → List Row
by_customer row customers warehouse =
    joined_up_to (λ district. rows_up_to (row warehouse district) customers) districts_per_warehouse

-- the generated lists
abbrev pub generated_lists : ℕ → ℕ → ℕ → Lists
generated_lists warehouses customers items = record {
  items = rows_up_to generated_item items;
  tables = record no_rows {
    warehouses = rows_up_to (generated_warehouse customers) warehouses;
    districts = joined_up_to (λ warehouse. rows_up_to (generated_district customers warehouse) districts_per_warehouse) warehouses;
    customers = joined_up_to (by_customer generated_customer customers) warehouses;
    history = joined_up_to (by_customer generated_payment customers) warehouses;
    stock = joined_up_to (λ warehouse. rows_up_to (generated_stock warehouse) items) warehouses;
  };
}

-- whether a database of this size can be generated
abbrev pub is_size : ℕ → ℕ → ℕ → Bool
is_size warehouses customers items =
    is_between 1 max_warehouses warehouses && is_between 1 max_customers customers && is_between 1 max_items items
