-- The keys of rows, and which rows are those of one warehouse.
use Rattle.std.specs.Prelude.{◌≡◌, ◌≢◌, ℕ, List, [], ◌∷◌, map, All}
use Rattle.std.specs.List.{AllPairs, range_with_len}
use Rattle.hy_rows.specs.Limits.{districts_per_warehouse}
use Rattle.hy_rows.specs.declared.district.District.{District}
use Rattle.hy_rows.specs.declared.customer.Customer.{Customer}
use Rattle.hy_rows.specs.Tables.{Tables}

-- (D_W_ID, D_ID) and (C_W_ID, C_D_ID, C_ID); the key of a row of WAREHOUSE is its W_ID
abbrev pub district_key : District → ℕ × ℕ
district_key row = (row.warehouse, row.id)

abbrev pub customer_key : Customer → ℕ × ℕ × ℕ
customer_key row = (row.warehouse, row.district, row.id)

-- no key stands twice in a list
abbrev pub AreUnique : {Key : Type 0} → List Key → Type 0
AreUnique keys = AllPairs (λ key other. key ≢ other) keys

-- no two rows of a table have the same key
pub record HasUniqueKeys (tables : Tables) : Type 0 where
  pub warehouses : AreUnique (map (λ row. row.id) tables.warehouses)
  pub districts : AreUnique (map district_key tables.districts)
  pub customers : AreUnique (map customer_key tables.customers)

-- the numbers of the districts of a warehouse
abbrev pub district_numbers : List ℕ
district_numbers = range_with_len 1 districts_per_warehouse

-- the rows of one warehouse: its own row, its districts in order, and customers of it, no two with the same key
pub record IsOneWarehouse (number : ℕ) (tables : Tables) : Type 0 where
  pub warehouse : map (λ row. row.id) tables.warehouses ≡ number ∷ []
  pub districts : map district_key tables.districts ≡ map (λ district. (number, district)) district_numbers
  pub customers : All (λ row. row.warehouse ≡ number) tables.customers
  pub unique : AreUnique (map customer_key tables.customers)
