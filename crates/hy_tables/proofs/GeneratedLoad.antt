-- The generated lists are a load, for every size.
use Rattle.std.proofs.Common.{◌≡◌, ℕ, List, [], length, sym, subst, lit≤}
use Rattle.std.specs.Prelude.{IsTrue, ⊤}
use Rattle.std.proofs.lemmas.Bool.{and_parts}
use Rattle.hy_rows.specs.declared.district.District.{District}
use Rattle.hy_rows.specs.declared.customer.Customer.{Customer}
use Rattle.hy_rows.specs.declared.stock.Stock.{Stock}
use Rattle.hy_rows.specs.Tables.{Lists}
use Rattle.hy_rows.specs.Limits.{max_customers, max_items, max_warehouses}
use Rattle.hy_rows.specs.Ranges.{IsBetween}
use Rattle.hy_rows.proofs.BetweenLaws.{bounds}
use Rattle.hy_schema.specs.Loads.{HasAllCustomers, HasAllDistricts, HasAllStock, IsCustomerAt, IsDistrictAt, IsLoad, IsRight, IsStockAt}
use Rattle.hy_tables.specs.Generated.{generated_item, generated_lists, generated_warehouse, is_size, joined_up_to}
use Rattle.hy_tables.proofs.CustomerLaws.{customer_rows, customers-right, history-right}
use Rattle.hy_tables.proofs.GeneratedConditionLaws.{none_broken-generated}
use Rattle.hy_tables.proofs.JoinedLaws.{length-rows_up_to}
use Rattle.hy_tables.proofs.ListLaws.{district_rows, districts-right, items-right, stock-right, stock_in, warehouses-right}

-- a list without rows is right
no_rows-right : {Row : Type 0} (right : ℕ → Row → Type 0) → IsRight right ⊤ []
no_rows-right right = record { each = λ place. tt; few = lit≤ tt; whole = tt }

-- each number is in its range
pub generated-is_load : (warehouses customers items : ℕ) → IsBetween 1 max_warehouses warehouses
    → IsBetween 1 max_customers customers → IsBetween 1 max_items items
    → IsLoad (generated_lists warehouses customers items)
generated-is_load warehouses customers items warehouses_between customers_between items_between =
    let few = (bounds 1 max_customers customers customers_between).1 in
    let lists : Lists = generated_lists warehouses customers items in
    let counted : ℕ = length lists.tables.warehouses in
    let all_warehouses : warehouses ≡ counted = sym (length-rows_up_to (generated_warehouse customers) warehouses) in
    let all_items : items ≡ length lists.items = sym (length-rows_up_to generated_item items) in
    let districts : List District = district_rows customers warehouses in
    let of_customers : List Customer = customer_rows customers warehouses in
    let stock : List Stock = joined_up_to (stock_in items) warehouses in
    record {
      warehouses = warehouses-right customers warehouses few warehouses_between;
      districts =
          subst (λ count. IsRight (IsDistrictAt count) (HasAllDistricts count districts) districts) all_warehouses
          (districts-right customers warehouses few warehouses_between);
      customers =
          subst (λ count. IsRight (IsCustomerAt count of_customers) (HasAllCustomers count of_customers) of_customers)
          all_warehouses (customers-right customers warehouses customers_between warehouses_between);
      items = items-right items items_between;
      stock =
          subst (λ count. IsRight (IsStockAt counted count) (HasAllStock counted count stock) stock) all_items
          (subst (λ count. IsRight (IsStockAt count items) (HasAllStock count items stock) stock) all_warehouses
          (stock-right warehouses items warehouses_between items_between));
      orders = no_rows-right _;
      new_orders = no_rows-right _;
      order_lines = no_rows-right _;
      history = history-right customers warehouses customers_between warehouses_between;
      conditions = none_broken-generated customers warehouses items;
    }

-- the same from the test of a size
pub is_size-is_load : (warehouses customers items : ℕ) → IsTrue (is_size warehouses customers items)
    → IsLoad (generated_lists warehouses customers items)
is_size-is_load warehouses customers items sized =
    let parts = and_parts _ _ sized in
    let first = and_parts _ _ parts.0 in
    generated-is_load warehouses customers items first.0 first.1 parts.1
