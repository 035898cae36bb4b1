-- Which warehouses, districts and items are there, by how many rows the right lists have.
use Rattle.std.proofs.Common.{◌≡◌, ◌↔◌, IsTrue, ℕ, ◌+◌, ◌-◌, ◌*◌, ◌<◌, ◌≤◌, ◌==◌, Bool, true, List, length, slice_get, IfSome, get_or, Some, inl, inr, refl, sym, ap, ◌∙◌, subst, arith}
use Rattle.std.specs.List.{list_any}
use Rattle.std.proofs.lemmas.Bool.{and_from, and_parts, eq-eqb, eqb-true}
use Rattle.std.proofs.lemmas.List.Folds.{Any-from_list_any, list_any_at}
use Rattle.std.proofs.lemmas.Option.{IfSome_then, slice_get_cases, slice_get_read}
use Rattle.hy_rows.specs.declared.warehouse.Warehouse.{Warehouse}
use Rattle.hy_rows.specs.declared.district.District.{District}
use Rattle.hy_rows.specs.declared.item.Item.{Item}
use Rattle.hy_rows.specs.Finding.{is_district}
use Rattle.hy_rows.specs.Limits.{max_warehouses}
use Rattle.hy_rows.specs.Ranges.{IsBetween}
use Rattle.hy_rows.specs.Catalogue.{columns_of}
use Rattle.hy_rows.specs.Rows.{district_values, warehouse_values}
use Rattle.hy_rows.specs.declared.catalogue.Table.TheVariants as tables
use Rattle.hy_rows.proofs.BetweenLaws.{IsBetween-bounds, bounds}
use Rattle.hy_rows.proofs.RangeLaws.{allowed-at}
use Rattle.hy_schema.specs.Loads.{HasAllDistricts, HasSome, IsDistrictAt, IsItemAt, IsRight, IsWarehouseAt}
use Rattle.hy_loads.specs.There.{HasDistricts, HasItems, HasWarehouses}

-- a row that passes a test is there where it stands at a place
there-at : {Row : Type 0} (test : Row → Bool) (rows : List Row) (place : ℕ) (row : Row) → place < length rows
    → get_or rows place row ≡ row → test row ≡ true → list_any test rows ≡ true
there-at test rows place row within read passes =
    list_any_at test rows place row within (ap test read ∙ passes)

-- of rows that are numbered by their places, exactly the numbers up to their count are there
has_numbers : {Row : Type 0} (number_of : Row → ℕ) (rows : List Row)
    → ((place : ℕ) → IfSome (slice_get rows place) (λ row. number_of row ≡ place + 1)) → (number : ℕ)
    → IsTrue (list_any (λ row. number_of row == number) rows) ↔ IsBetween 1 (length rows) number
has_numbers {Row} number_of rows numbered number = (there, back)
  where
    test : Row → Bool
    test row = number_of row == number

    there : IsTrue (list_any test rows) → IsBetween 1 (length rows) number
    there found =
        let at = Any-from_list_any test rows found in
        let read : slice_get rows at.0 ≡ Some at.1 = slice_get_read rows (length rows) at.0 at.1 refl at.2 (sym at.3) in
        let own : number_of at.1 ≡ at.0 + 1 = rw read at (numbered at.0) in
        let same : number_of at.1 ≡ number = eqb-true (number_of at.1) number at.4 in
        IsBetween-bounds 1 (length rows) number (omega (arith, own, same)) (omega (arith, own, same, at.2))

    back : IsBetween 1 (length rows) number → IsTrue (list_any test rows)
    back between =
        let ends = bounds 1 (length rows) number between in
        let place : ℕ = number - 1 in
        elim (slice_get_cases rows place).1 [
          | inl (row, within, found, read) ↦
              let own : number_of row ≡ place + 1 = rw found at (numbered place) in
              there-at test rows place row within read
              (eq-eqb (number_of row) number (omega (arith, own, ends.0)))
          | inr (past, none) ↦ absurd (omega (arith, past, ends.0, ends.1))
        ]

-- the warehouses and the items of right lists
pub HasWarehouses-right : (rows : List Warehouse) → IsRight IsWarehouseAt (HasSome rows) rows
    → HasWarehouses (length rows) rows
HasWarehouses-right rows right number =
    has_numbers (λ row. row.id) rows
    (λ place. IfSome_then (slice_get rows place) {P = IsWarehouseAt place} {Q = λ row. row.id ≡ place + 1}
    (right.each place) (λ row here. here.1)) number

pub HasItems-right : (rows : List Item) → IsRight IsItemAt (HasSome rows) rows → HasItems (length rows) rows
HasItems-right rows right number =
    has_numbers (λ row. row.id) rows
    (λ place. IfSome_then (slice_get rows place) {P = IsItemAt place} {Q = λ row. row.id ≡ place + 1}
    (right.each place) (λ row here. here.1)) number

-- the districts of a right list are those of the warehouses
pub HasDistricts-right : (warehouses : ℕ) (rows : List District)
    → IsRight (IsDistrictAt warehouses) (HasAllDistricts warehouses rows) rows → HasDistricts warehouses rows
HasDistricts-right warehouses rows right warehouse number = (there, back)
  where
    test : District → Bool
    test row = is_district warehouse number row

    there : IsTrue (list_any test rows) → IsBetween 1 warehouses warehouse × IsBetween 1 10 number
    there found =
        let at = Any-from_list_any test rows found in
        let read : slice_get rows at.0 ≡ Some at.1 = slice_get_read rows (length rows) at.0 at.1 refl at.2 (sym at.3) in
        let here : IsDistrictAt warehouses at.0 at.1 = rw read at (right.each at.0) in
        let key = and_parts (at.1.warehouse == warehouse) (at.1.id == number) at.4 in
        let home : at.1.warehouse ≡ warehouse = eqb-true at.1.warehouse warehouse key.0 in
        let own : at.1.id ≡ number = eqb-true at.1.id number key.1 in
        let ranges = allowed-at (columns_of tables.District) (district_values at.1) here.0 in
        let low = (bounds 1 16 at.1.warehouse (ranges 1)).0 in (
          IsBetween-bounds 1 warehouses warehouse (omega (arith, home, low)) (omega (arith, home, here.3)),
          subst (IsBetween 1 10) own (ranges 0),
        )

    back : IsBetween 1 warehouses warehouse × IsBetween 1 10 number → IsTrue (list_any test rows)
    back between =
        let home = bounds 1 warehouses warehouse between.0 in
        let own = bounds 1 10 number between.1 in
        let place : ℕ = 10 * (warehouse - 1) + (number - 1) in
        elim (slice_get_cases rows place).1 [
          | inl (row, within, found, read) ↦
              let here : IsDistrictAt warehouses place row = rw found at (right.each place) in
              there-at test rows place row within read
              (and_from (row.warehouse == warehouse) (row.id == number)
              (eq-eqb row.warehouse warehouse (omega (arith, here.1, home.0, own.0, own.1)))
              (eq-eqb row.id number (omega (arith, here.2, home.0, own.0, own.1))))
          | inr (past, none) ↦ absurd (omega (arith, past, home.0, home.1, own.0, own.1, right.whole))
        ]

-- the last warehouse's number is how many there are
pub few_warehouses : (rows : List Warehouse) → IsRight IsWarehouseAt (HasSome rows) rows
    → length rows ≤ max_warehouses
few_warehouses rows right =
    let last = length rows - 1 in
    elim (slice_get_cases rows last).1 [
      | inl (row, within, found, read) ↦
          let here : IsWarehouseAt last row = rw found at (right.each last) in
          omega (arith, (bounds 1 16 row.id (allowed-at (columns_of tables.Warehouse) (warehouse_values row) here.0 0)).1, here.1)
      | inr (past, none) ↦ omega arith
    ]
