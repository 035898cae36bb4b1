-- Rows that are found at their places.
use Rattle.std.proofs.Common.{◌≡◌, ℕ, ◌-◌, ◌<◌, ◌≤◌, Bool, List, length, map, Some, refl, sym, ap, ap₂, ◌∙◌, arith}
use Rattle.std.specs.Prelude.{slice_get}
use Rattle.std.proofs.lemmas.Bool.{eqb-true}
use Rattle.std.proofs.lemmas.Bool.Decides.{nat_tests}
use Rattle.std.proofs.lemmas.List.FromFn.{get_or-map-range_with_len, length-map-range_with_len}
use Rattle.std.proofs.lemmas.Option.{slice_get_within, slice_get-get_or}
use Rattle.hy_rows.specs.declared.customer.Customer.{Customer}
use Rattle.hy_rows.specs.declared.district.District.{District}
use Rattle.hy_rows.specs.declared.stock.Stock.{Stock}
use Rattle.hy_rows.specs.declared.warehouse.Warehouse.{Warehouse}
use Rattle.hy_rows.specs.Finding.{is_customer, is_district, is_warehouse}
use Rattle.hy_rows.specs.Ranges.{IsBetween}
use Rattle.hy_rows.specs.Tables.{Tables}
use Rattle.hy_schema.specs.Keys.{AreUnique, IsOneWarehouse, customer_key, district_key, district_numbers}
use Rattle.hy_schema.proofs.KeyLaws.{HasUniqueKeys-one_warehouse}
use Rattle.hy_commands.specs.Invariant.{stock_key}
use Rattle.hy_commands.specs.NewOrders.{is_stock}
use Rattle.hy_commands.proofs.OnceLaws.{passes-three, tells-three, tells-two}
use Rattle.hy_writers.specs.Changes.{IsFoundAt}
use Rattle.hy_layout.specs.Finds.{IsOnly}
use Rattle.hy_layout.proofs.PlaceLaws.{changed-only, find-only, map-get, only-unique}

pub found-only : {Row : Type 0} (test : Row → Bool) (rows : List Row) (place : ℕ) (row : Row) → IsOnly test rows place row
    → IsFoundAt test rows place row
found-only test rows place row o = record {
  here = o.here;
  within = slice_get_within rows place row o.here;
  found = find-only test rows place row o;
  changed = λ change. changed-only test change rows place row o;
}

pub found-warehouse : (number : ℕ) (tables : Tables) (row : Warehouse) → IsOneWarehouse number tables
    → slice_get tables.warehouses 0 ≡ Some row → IsFoundAt (is_warehouse number) tables.warehouses 0 row
found-warehouse number tables row rows here =
    let keys = HasUniqueKeys-one_warehouse number tables rows in
    let number_is : (found : Warehouse) × (slice_get tables.warehouses 0 ≡ Some found) × (found.id ≡ number) =
    map-get (λ (w : Warehouse). w.id) tables.warehouses 0 number (ap (λ ids. slice_get ids 0) rows.warehouse) in
    let row_is : number_is.0 ≡ row = (let h : Some number_is.0 ≡ Some row = sym number_is.1 ∙ here in cc) in
    let id_is : row.id ≡ number = sym (ap (λ (w : Warehouse). w.id) row_is) ∙ number_is.2 in
    found-only (is_warehouse number) tables.warehouses 0 row
    (only-unique (λ (w : Warehouse). w.id) (is_warehouse number) tables.warehouses keys.warehouses 0 row here
    (grind (arith, nat_tests, id_is))
    (λ another passes. id_is ∙ sym (eqb-true another.id number passes)))

district-at : (number district : ℕ) → IsBetween 1 10 district
    → slice_get {X = ℕ × ℕ} (map (λ district. (number, district)) district_numbers) (district - 1) ≡ Some (number, district)
district-at number district between =
    let low : 1 ≤ district = grind (arith, nat_tests, between) in
    let high : district ≤ 10 = grind (arith, nat_tests, between) in
    let key : ℕ → ℕ × ℕ = λ district. (number, district) in
    let within : district - 1 < length (map key district_numbers) = omega (
      arith,
      low,
      high,
      length-map-range_with_len key 1 10,
    ) in
    slice_get-get_or (map key district_numbers) (district - 1) (key district) within
    ∙ ap Some (get_or-map-range_with_len key 1 10 (district - 1) district (key district)
    (omega (arith, low, high)) (omega (arith, low)))

-- the district with a number stands at its place
pub district-there : (number district : ℕ) (tables : Tables) → IsOneWarehouse number tables → IsBetween 1 10 district
    → (row : District) × (slice_get tables.districts (district - 1) ≡ Some row) × (district_key row ≡ (number, district))
district-there number district tables rows between =
    map-get district_key tables.districts (district - 1) (number, district)
    (ap (λ keys. slice_get keys (district - 1)) rows.districts ∙ district-at number district between)

pub found-district : (number district : ℕ) (tables : Tables) (row : District) → IsOneWarehouse number tables
    → IsBetween 1 10 district → slice_get tables.districts (district - 1) ≡ Some row
    → IsFoundAt (is_district number district) tables.districts (district - 1) row
found-district number district tables row rows between here =
    let keys = HasUniqueKeys-one_warehouse number tables rows in
    let there = district-there number district tables rows between in
    let row_is : there.0 ≡ row = (let h : Some there.0 ≡ Some row = sym there.1 ∙ here in cc) in
    let key_is : district_key row ≡ (number, district) = ap district_key (sym row_is) ∙ there.2 in
    let home : row.warehouse ≡ number = ap (λ key. key.0) key_is in
    let id_is : row.id ≡ district = ap (λ key. key.1) key_is in
    found-only (is_district number district) tables.districts (district - 1) row
    (only-unique district_key (is_district number district) tables.districts keys.districts (district - 1) row here
    (grind (arith, nat_tests, home, id_is))
    (λ another passes. let same = tells-two another.warehouse another.id number district passes in
    key_is ∙ sym (ap₂ (λ (w : ℕ) (d : ℕ). (w, d)) same.0 same.1)))

pub found-customer : (number district id : ℕ) (tables : Tables) (place : ℕ) (row : Customer)
    → IsOneWarehouse number tables → slice_get tables.customers place ≡ Some row
    → customer_key row ≡ (number, district, id)
    → IsFoundAt (is_customer number district id) tables.customers place row
found-customer number district id tables place row rows here key =
    found-only (is_customer number district id) tables.customers place row
    (only-unique customer_key (is_customer number district id) tables.customers rows.unique place row here
    (passes-three row.warehouse row.district row.id number district id (ap (λ key. key.0) key) (ap (λ key. key.1) key) (ap (λ key. key.2) key))
    (λ another passes. let same = tells-three another.warehouse another.district another.id number district id passes in
    key ∙ sym (rw (same.0, same.1, same.2) refl)))

pub found-stock : (number item : ℕ) (stock : List Stock) (place : ℕ) (row : Stock) → AreUnique (map stock_key stock)
    → slice_get stock place ≡ Some row → stock_key row ≡ (number, item)
    → IsFoundAt (is_stock number item) stock place row
found-stock number item stock place row unique here key =
    let home : row.warehouse ≡ number = ap (λ key. key.0) key in
    let item_is : row.item ≡ item = ap (λ key. key.1) key in
    found-only (is_stock number item) stock place row
    (only-unique stock_key (is_stock number item) stock unique place row here
    (grind (arith, nat_tests, home, item_is))
    (λ another passes. let same = tells-two another.warehouse another.item number item passes in
    key ∙ sym (ap₂ (λ (w : ℕ) (i : ℕ). (w, i)) same.0 same.1)))

-- what is at a place is within the list
pub within-at : {Row : Type 0} (rows : List Row) (place : ℕ) (row : Row) → slice_get rows place ≡ Some row
    → place < length rows
within-at rows place row here = slice_get_within rows place row here

-- two rows at one place have the same key
pub same-row : {Row Key : Type 0} (key : Row → Key) (rows : List Row) (place : ℕ) (one other : Row) {found : Key}
    → slice_get rows place ≡ Some one → slice_get rows place ≡ Some other → key one ≡ found → key other ≡ found
same-row key rows place one other here there is =
    let rows_are : Some one ≡ Some other = sym here ∙ there in
    let same : one ≡ other = cc in
    ap key (sym same) ∙ is
