-- Each generated row is in range.
use Rattle.std.proofs.Common.{◌≡◌, ℕ, pos, neg_ℤ, ◌+◌, ◌-◌, ◌*◌, ◌%◌, ◌<◌, ◌≤◌, ◌&&◌, true, nat_le, IsTrue, List, ◌++◌, length, codes, int_le, arith, refl, lit<}
use Rattle.std.specs.Fmt.{decimal}
use Rattle.std.proofs.lemmas.Int.{ints}
use Rattle.hy_rows.specs.Catalogue.{columns_of}
use Rattle.hy_rows.specs.Columns.{is_printable}
use Rattle.hy_rows.specs.Limits.{districts_per_warehouse, max_cents, max_customers, max_images, max_items, max_price, max_rate, max_stock, max_warehouses}
use Rattle.hy_rows.specs.Ranges.{IsBetween}
use Rattle.hy_rows.specs.Rows.{IsCustomerInRange, IsDistrictInRange, IsHistoryInRange, IsItemInRange, IsStockInRange, IsWarehouseInRange, customer_values, district_values, history_values, item_values, stock_values, warehouse_values}
use Rattle.hy_rows.specs.declared.catalogue.Table.TheVariants as tables
use Rattle.hy_rows.proofs.BetweenLaws.{IsBetween-bounds, bounds}
use Rattle.hy_rows.proofs.RangeLaws.{bounds-amount, each-allowed, loaded-text}
use Rattle.hy_tables.specs.Generated.{generated_customer, generated_district, generated_item, generated_payment, generated_stock, generated_warehouse, last_name, payment_information, with_four_digits}
use Rattle.hy_tables.proofs.PrintableLaws.{credit_allowed, four_digits_loaded, information_loaded, last_name_loaded, name_loaded}

-- an amount of money
money : (cents : ℕ) → cents ≤ 1_000_000_000
    → IsTrue (int_le (neg_ℤ (pos max_cents)) (pos cents) && int_le (pos cents) (pos max_cents))
money cents few =
    bounds-amount (neg_ℤ (pos max_cents)) (pos max_cents) (pos cents) (omega (arith, ints)) (omega (arith, ints, few))

-- a letter or more, and a number
name : (width : ℕ) (letters : List ℕ) (number : ℕ) → length letters ≤ 4 → is_printable letters ≡ true
    → number < 1_000_000 → 10 ≤ width
    → IsTrue (nat_le (length (letters ++ decimal number)) width && is_printable (letters ++ decimal number))
name width letters number short printable small within =
    loaded-text width (letters ++ decimal number) (name_loaded width letters number short printable small within)

pub warehouse_in_range : (customers number : ℕ) → customers ≤ max_customers → IsBetween 1 max_warehouses number
    → IsWarehouseInRange (generated_warehouse customers number)
warehouse_in_range customers number few between =
    let ends = bounds 1 max_warehouses number between in
    each-allowed (columns_of tables.Warehouse) (warehouse_values (generated_warehouse customers number)) (
      between,
      (
        name 10 (codes "W") number (lit< tt) refl (omega (arith, ends.1)) (lit< tt),
        (
          IsBetween-bounds 0 max_rate (500 * number % 2001) (omega arith) (omega arith),
          (money (10_000 * customers) (omega (arith, few)), tt),
        ),
      ),
    )

pub district_in_range : (customers warehouse number : ℕ) → customers ≤ max_customers
    → IsBetween 1 max_warehouses warehouse → IsBetween 1 districts_per_warehouse number
    → IsDistrictInRange (generated_district customers warehouse number)
district_in_range customers warehouse number few warehouse_between between =
    let ends = bounds 1 districts_per_warehouse number between in
    each-allowed (columns_of tables.District) (district_values (generated_district customers warehouse number)) (
      between,
      (
        warehouse_between,
        (
          name 10 (codes "D") number (lit< tt) refl (omega (arith, ends.1)) (lit< tt),
          (
            IsBetween-bounds 0 max_rate (100 * number) (omega arith) (omega (arith, ends.1)),
            (money (1_000 * customers) (omega (arith, few)), (refl, tt)),
          ),
        ),
      ),
    )

pub item_in_range : (number : ℕ) → IsBetween 1 max_items number → IsItemInRange (generated_item number)
item_in_range number between =
    let ends = bounds 1 max_items number between in
    each-allowed (columns_of tables.Item) (item_values (generated_item number)) (
      between,
      (
        IsBetween-bounds 1 max_images (1 + number % 10) (omega arith) (omega arith),
        (
          name 24 (codes "ITEM") number (lit< tt) refl (omega (arith, ends.1)) (lit< tt),
          (IsBetween-bounds 1 max_price (100 + 37 * number % 9901) (omega arith) (omega arith), tt),
        ),
      ),
    )

pub stock_in_range : (warehouse item : ℕ) → IsBetween 1 max_warehouses warehouse → IsBetween 1 max_items item
    → IsStockInRange (generated_stock warehouse item)
stock_in_range warehouse item warehouse_between between =
    let quantity = 10 + (7 * item + warehouse) % 91 in
    each-allowed (columns_of tables.Stock) (stock_values (generated_stock warehouse item)) (
      between,
      (
        warehouse_between,
        (IsBetween-bounds 0 max_stock quantity (omega arith) (omega arith), (refl, (refl, (refl, tt)))),
      ),
    )

pub customer_in_range : (warehouse district number : ℕ) → IsBetween 1 max_warehouses warehouse
    → IsBetween 1 districts_per_warehouse district → IsBetween 1 max_customers number
    → IsCustomerInRange (generated_customer warehouse district number)
customer_in_range warehouse district number warehouse_between district_between between =
    let discount = 100 * number % 5001 in
    each-allowed (columns_of tables.Customer) (customer_values (generated_customer warehouse district number)) (
      between,
      (
        district_between,
        (
          warehouse_between,
          (
            loaded-text 16 (with_four_digits 70 number) (four_digits_loaded 70 number (lit< tt) (lit< tt)),
            (
              refl,
              (
                loaded-text 16 (last_name (number - 1)) (last_name_loaded (number - 1)),
                (
                  credit_allowed number,
                  (
                    IsBetween-bounds 0 max_rate discount (omega arith) (omega arith),
                    (refl, (money 1_000 (lit< tt), (refl, (refl, (refl, tt))))),
                  ),
                ),
              ),
            ),
          ),
        ),
      ),
    )

pub payment_in_range : (warehouse district customer : ℕ) → IsBetween 1 max_warehouses warehouse
    → IsBetween 1 districts_per_warehouse district → IsBetween 1 max_customers customer
    → IsHistoryInRange (generated_payment warehouse district customer)
payment_in_range warehouse district customer warehouse_between district_between between =
    let warehouse_ends = bounds 1 max_warehouses warehouse warehouse_between in
    let district_ends = bounds 1 districts_per_warehouse district district_between in
    let information = loaded-text 24 (payment_information warehouse district)
    (information_loaded warehouse district (omega (arith, warehouse_ends.1)) (omega (arith, district_ends.1))) in
    each-allowed (columns_of tables.History) (history_values (generated_payment warehouse district customer)) (
      between,
      (
        district_between,
        (
          warehouse_between,
          (district_between, (warehouse_between, (refl, (money 1_000 (lit< tt), (information, tt))))),
        ),
      ),
    )
