-- Each generated list is right: its rows are in range and stand in their order, there are few enough, and none is
-- missing.
use Rattle.std.proofs.Common.{◌≡◌, ℕ, suc, ◌+◌, ◌*◌, ◌<◌, ◌≤◌, List, length, refl, arith, mul_comm}
use Rattle.std.proofs.lemmas.Nat.{div-mul-add, mod-mul-add, mul-le}
use Rattle.hy_rows.specs.declared.district.District.{District}
use Rattle.hy_rows.specs.declared.stock.Stock.{Stock}
use Rattle.hy_rows.specs.declared.warehouse.Warehouse.{Warehouse}
use Rattle.hy_rows.specs.Limits.{districts_per_warehouse, max_customers, max_items, max_warehouses}
use Rattle.hy_rows.specs.Ranges.{IsBetween}
use Rattle.hy_rows.proofs.BetweenLaws.{IsBetween-bounds, bounds}
use Rattle.hy_schema.specs.Loads.{HasAllDistricts, HasAllStock, HasSome, IsDistrictAt, IsItemAt, IsRight, IsStockAt, IsWarehouseAt}
use Rattle.hy_tables.specs.Generated.{generated_district, generated_item, generated_stock, generated_warehouse, joined_up_to, rows_up_to}
use Rattle.hy_tables.proofs.JoinedLaws.{joined_up_to-each, length-joined_up_to, length-rows_up_to, rows_up_to-each}
use Rattle.hy_tables.proofs.RangeLaws.{district_in_range, item_in_range, stock_in_range, warehouse_in_range}

-- the numbers up to a last one are in the range of that one
pub numbered : (limit last before : ℕ) → IsBetween 1 limit last → before < last → IsBetween 1 limit (suc before)
numbered limit last before between below =
    IsBetween-bounds 1 limit (suc before) (omega arith) (omega (arith, below, (bounds 1 limit last between).1))

-- WAREHOUSE
abbrev pub warehouse_rows : ℕ → ℕ → List Warehouse
warehouse_rows customers warehouses = rows_up_to (generated_warehouse customers) warehouses

pub warehouses-right : (customers warehouses : ℕ) → customers ≤ max_customers → IsBetween 1 max_warehouses warehouses
    → IsRight IsWarehouseAt (HasSome (warehouse_rows customers warehouses)) (warehouse_rows customers warehouses)
warehouses-right customers warehouses few between =
    let ends = bounds 1 max_warehouses warehouses between in
    let count = length-rows_up_to (generated_warehouse customers) warehouses in
    record {
      each =
          rows_up_to-each IsWarehouseAt (generated_warehouse customers) warehouses
          (λ before below. (
            warehouse_in_range customers (suc before) few (numbered max_warehouses warehouses before between below),
            omega arith,
          ));
      few = omega (arith, count, ends.1);
      whole = omega (arith, count, ends.0);
    }

-- DISTRICT
abbrev pub districts_in : ℕ → ℕ → List District
districts_in customers warehouse = rows_up_to (generated_district customers warehouse) districts_per_warehouse

abbrev pub district_rows : ℕ → ℕ → List District
district_rows customers warehouses = joined_up_to (districts_in customers) warehouses

pub districts-right : (customers warehouses : ℕ) → customers ≤ max_customers → IsBetween 1 max_warehouses warehouses
    → IsRight (IsDistrictAt warehouses) (HasAllDistricts warehouses (district_rows customers warehouses))
    (district_rows customers warehouses)
districts-right customers warehouses few between =
    let ends = bounds 1 max_warehouses warehouses between in
    let wide : (warehouse : ℕ) → length (districts_in customers warehouse) ≡ 10 =
    λ warehouse. length-rows_up_to (generated_district customers warehouse) 10 in
    let count = length-joined_up_to (districts_in customers) 10 wide warehouses in
    record {
      each =
          joined_up_to-each (IsDistrictAt warehouses) (districts_in customers) 10 wide warehouses
          (λ before below. rows_up_to-each (λ place. IsDistrictAt warehouses (before * 10 + place))
          (generated_district customers (suc before)) 10 (λ district less. (
            district_in_range customers (suc before) (suc district) few
                (numbered max_warehouses warehouses before between below)
                (numbered districts_per_warehouse districts_per_warehouse district refl less),
            omega (arith, less),
            omega (arith, less),
            omega (arith, below),
          )));
      few = omega (arith, count, ends.1);
      whole = omega (arith, count);
    }

-- ITEM
pub items-right : (items : ℕ) → IsBetween 1 max_items items
    → IsRight IsItemAt (HasSome (rows_up_to generated_item items)) (rows_up_to generated_item items)
items-right items between =
    let ends = bounds 1 max_items items between in
    let count = length-rows_up_to generated_item items in
    record {
      each =
          rows_up_to-each IsItemAt generated_item items (λ before below. (
            item_in_range (suc before) (numbered max_items items before between below),
            omega arith,
          ));
      few = omega (arith, count, ends.1);
      whole = omega (arith, count, ends.0);
    }

-- STOCK
abbrev pub stock_in : ℕ → ℕ → List Stock
stock_in items warehouse = rows_up_to (generated_stock warehouse) items

pub stock-right : (warehouses items : ℕ) → IsBetween 1 max_warehouses warehouses → IsBetween 1 max_items items
    → IsRight (IsStockAt warehouses items) (HasAllStock warehouses items (joined_up_to (stock_in items) warehouses))
    (joined_up_to (stock_in items) warehouses)
stock-right warehouses items between items_between =
    let ends = bounds 1 max_warehouses warehouses between in
    let item_ends = bounds 1 max_items items items_between in
    let wide : (warehouse : ℕ) → length (stock_in items warehouse) ≡ items =
    λ warehouse. length-rows_up_to (generated_stock warehouse) items in
    let count = length-joined_up_to (stock_in items) items wide warehouses in
    record {
      each =
          joined_up_to-each (IsStockAt warehouses items) (stock_in items) items wide warehouses
          (λ before below. rows_up_to-each (λ place. IsStockAt warehouses items (before * items + place))
          (generated_stock (suc before)) items (λ item less. (
            stock_in_range (suc before) (suc item) (numbered max_warehouses warehouses before between below)
                (numbered max_items items item items_between less),
            omega (arith, div-mul-add before items item less),
            omega (arith, mod-mul-add before items item less),
            omega (arith, below),
          )));
      few = omega (arith, count, mul-le warehouses items max_warehouses max_items ends.1 item_ends.1);
      whole = omega (arith, count, mul_comm warehouses items);
    }
