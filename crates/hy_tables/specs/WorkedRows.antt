-- Worked examples of generated rows, with values from hand calculation, which the checker computes.
use Rattle.std.specs.Prelude.{◌≡◌, true, false, length, codes, refl}
use Rattle.std.specs.Fmt.{digits}
use Rattle.hy_rows.specs.WorkedRows.{fresh}
use Rattle.hy_schema.specs.Conditions.{is_consistent}
use Rattle.hy_tables.specs.Generated.{generated_item, generated_lists, generated_stock, is_size, last_name, payment_information, with_four_digits}

-- the names of customer 372
pub last_name-372 : last_name 371 ≡ codes "PRICALLYOUGHT"
last_name-372 = refl

pub first_name-372 : with_four_digits 70 372 ≡ codes "F0372"
first_name-372 = refl

-- what is noted of a payment in the last district of the last warehouse
pub information-16_10 : payment_information 16 10 ≡ codes "W16    D10"
unfolding digits
information-16_10 = refl

-- item 1 costs 1.37; of items 1 and 13 there are 18 and 11 in warehouse 1
pub item-1 : generated_item 1 ≡ record { id = 1; image = 2; name = codes "ITEM1"; price = 137 }
unfolding digits
item-1 = refl

pub stock-1_1 : (generated_stock 1 1).quantity ≡ 18
stock-1_1 = refl

pub stock-1_13 : (generated_stock 1 13).quantity ≡ 11
stock-1_13 = refl

-- with three customers in each district, the warehouse, its districts and its customers are those of the fresh load
pub generated-warehouses : (generated_lists 1 3 1).tables.warehouses ≡ fresh.warehouses
unfolding digits
generated-warehouses = refl

pub generated-districts : (generated_lists 1 3 1).tables.districts ≡ fresh.districts
unfolding digits
generated-districts = refl

pub generated-customers : (generated_lists 1 3 1).tables.customers ≡ fresh.customers
generated-customers = refl

-- the least generated database, and one of two warehouses, meet all consistency conditions
pub least-is_consistent : is_consistent (generated_lists 1 1 1).tables ≡ true
least-is_consistent = refl

pub small-is_consistent : is_consistent (generated_lists 1 1 5).tables ≡ true
small-is_consistent = refl

pub two-is_consistent : is_consistent (generated_lists 2 2 3).tables ≡ true
two-is_consistent = refl

-- each customer has paid once, and each warehouse has each item
pub two-payments : length (generated_lists 2 2 3).tables.history ≡ 40
two-payments = refl

pub two-stock : length (generated_lists 2 2 3).tables.stock ≡ 6
two-stock = refl

-- the greatest size, and each number just beyond
pub greatest-is_size : is_size 16 3_000 100_000 ≡ true
greatest-is_size = refl

pub many_warehouses : is_size 17 3 20 ≡ false
many_warehouses = refl

pub many_customers : is_size 1 3_001 20 ≡ false
many_customers = refl

pub no_items : is_size 1 1 0 ≡ false
no_items = refl
