-- The keys of a load: none stands twice, and the rows of a warehouse are its own row, its ten districts and its
-- customers.
use Rattle.std.proofs.Common.{◌≡◌, ◌≢◌, ℕ, zero, suc, ◌+◌, ◌-◌, ◌*◌, ◌/◌, ◌%◌, ◌<◌, ◌≤◌, ◌==◌, Bool, true, false, cond, List, [], ◌∷◌, ◌++◌, length, map, filter, IfSome, slice_get, refl, sym, ap, ap₂, subst, ◌∙◌, inl, inr, lit<, arith}
use Rattle.std.specs.Prelude.{All}
use Rattle.std.proofs.lemmas.List.Elements.{All-nil, All-cons, All-map, All-weaker, filter-append, filter_passes}
use Rattle.std.proofs.lemmas.List.Kept.{AllPairs-cons, AllPairs-filter}
use Rattle.std.proofs.lemmas.List.{append-nil}
use Rattle.std.proofs.lemmas.Bool.{eqb-true}
use Rattle.std.proofs.lemmas.Bool.Decides.{nat_tests}
use Rattle.std.proofs.lemmas.Option.{IfSome_then}
use Rattle.hy_rows.specs.declared.warehouse.Warehouse.{Warehouse}
use Rattle.hy_rows.specs.declared.district.District.{District}
use Rattle.hy_rows.specs.declared.customer.Customer.{Customer}
use Rattle.hy_rows.specs.Tables.{Lists, Tables, of_warehouse}
use Rattle.hy_schema.specs.Keys.{AreUnique, HasUniqueKeys, IsOneWarehouse, customer_key, district_key, district_numbers}
use Rattle.hy_rows.specs.Ranges.{IsBetween}
use Rattle.hy_rows.specs.Catalogue.{columns_of}
use Rattle.hy_rows.specs.Rows.{IsCustomerInRange, customer_values}
use Rattle.hy_rows.specs.declared.catalogue.Table.TheVariants as tables
use Rattle.hy_schema.specs.Loads.{IsLoad, IsWarehouseAt, IsDistrictAt, IsCustomerAt, IsCustomerAfter, row_before}
use Rattle.hy_rows.specs.Spelling.{first_items}
use Rattle.hy_rows.proofs.BetweenLaws.{bounds}
use Rattle.hy_rows.proofs.RangeLaws.{allowed-at}
use Rattle.hy_rows.proofs.FirstItems.{first_items-same}

-- what a test says of the rows that pass it
pub All-passing : {Row : Type 0} (test : Row → Bool) (P : Row → Type 0) (rows : List Row)
    → ((row : Row) → test row ≡ true → P row) → All P (filter test rows)
All-passing test P rows follows = All-weaker (λ row. test row
    ≡ true) P follows (filter test rows) (filter_passes test rows)

-- the first row's rank is above a number, and each later one's above that of the row before it
abbrev IsRisingFrom : {Row : Type 0} → (Row → ℕ) → ℕ → List Row → Type 0
IsRisingFrom rank low [] = Unit {0}
IsRisingFrom rank low (row ∷ rows) = (low < rank row) × IsRisingFrom rank (rank row) rows

module _ {Row : Type 0} (rank : Row → ℕ) where
  -- all ranks are above what the first is above
  rising-above : (P : Row → Type 0) (bound low : ℕ) (rows : List Row)
      → ((row : Row) → bound < rank row → P row) → bound ≤ low → IsRisingFrom rank low rows → All P rows
  rising-above P bound low [] follows below rising = All-nil P
  rising-above P bound low (row ∷ rows) follows below rising =
      All-cons P row rows (follows row (omega (arith, rising.0))) (rising-above P bound
      (rank row) rows follows (omega (arith, rising.0)) rising.1)

  -- so that no two rows have the same key, if the rank goes by the key
  rising-unique : {Key : Type 0} (key : Row → Key)
      → ((row other : Row) → key row ≡ key other → rank row ≡ rank other) → (low : ℕ) (rows : List Row)
      → IsRisingFrom rank low rows → AreUnique (map key rows)
  rising-unique key ranked low [] rising = λ i j d before within. absurd (omega arith)
  rising-unique key ranked low (row ∷ rows) rising =
      let differs : (other : Row) → rank row < rank other
      → key row ≢ key other = λ other above same. omega (arith, ranked row other same) in
      let apart : All (λ other. key row ≢ key other) rows =
      rising-above (λ other. key row ≢ key other) (rank row) (rank row) rows differs (omega arith) rising.1 in
      AllPairs-cons (λ first other. first ≢ other) (key row) (map key rows) (All-map
      (λ other. key row ≢ other) key rows apart)
      (rising-unique key ranked (rank row) rows rising.1)

  -- ranks that go by the place rise
  numbered-rising : (low start : ℕ) (rows : List Row) → low < start
      → ((place : ℕ) → IfSome (slice_get rows place) (λ row. rank row ≡ start + place))
      → IsRisingFrom rank low rows
  numbered-rising low start [] below each = tt
  numbered-rising low start (row ∷ rows) below each =
      let first : rank row ≡ start + 0 = each 0 in
      let above : rank row < start + 1 = omega arith in
      let later : (place : ℕ) → IfSome (slice_get rows place) (λ row. rank row ≡ start + 1 + place) =
      λ place. IfSome_then (slice_get rows place) {P = λ row. rank row
      ≡ start + suc place} {Q = λ row. rank row
      ≡ start + 1 + place} (each (suc place)) (λ row same. omega arith) in
      (omega arith, numbered-rising (rank row) (start + 1) rows above later)

-- the first items of a sequence, from its first one on
first_items-cons : {Item : Type 0} (f : ℕ → Item) (count : ℕ)
    → first_items f (suc count) ≡ f 0 ∷ first_items (λ k. f (suc k)) count
first_items-cons f zero = refl
first_items-cons f (suc count) = ap (λ items. items ++ f (suc count) ∷ []) (first_items-cons f count)

-- keys that go by the place
keys-by_place : {Row Key : Type 0} (key : Row → Key) (f : ℕ → Key) (rows : List Row)
    → ((place : ℕ) → IfSome (slice_get rows place) (λ row. key row ≡ f place))
    → map key rows ≡ first_items f (length rows)
keys-by_place key f [] each = refl
keys-by_place key f (row ∷ rows) each =
    ap₂ (λ first others. first ∷ others) (each 0) (keys-by_place key (λ k. f (suc k)) rows
    (λ place. each (suc place)))
    ∙ sym (first_items-cons f (length rows))

-- a filter by a test of the key
keys-filter : {Row Key : Type 0} (key : Row → Key) (test : Key → Bool) (rows : List Row)
    → map key (filter (λ row. test (key row)) rows) ≡ filter test (map key rows)
keys-filter key test [] = refl
keys-filter key test (row ∷ rows) =
    elim (test (key row)) as (λ b. map key
    (cond b (row ∷ filter (λ row. test (key row)) rows) (filter (λ row. test (key row)) rows))
    ≡ cond b (key row ∷ filter test (map key rows)) (filter test (map key rows))) [
      | true ↦ ap (λ keys. key row ∷ keys) (keys-filter key test rows)
      | false ↦ keys-filter key test rows
    ]

-- of the first items of a sequence, exactly those at some places behind one another pass a test
module _ {Item : Type 0} (test : Item → Bool) (f : ℕ → Item) where
  filter-one_more : (count : ℕ) (passes : Bool) → test (f count) ≡ passes
      → filter test (first_items f (suc count)) ≡ filter test (first_items f count) ++ cond passes (f count ∷ []) []
  filter-one_more count passes is =
      filter-append test (first_items f count) (f count ∷ [])
      ∙ ap (λ b. filter test (first_items f count) ++ cond b (f count ∷ []) []) is

  filter-none : (count : ℕ) → ((k : ℕ) → k < count → test (f k) ≡ false) → filter test (first_items f count) ≡ []
  filter-none zero fails = refl
  filter-none (suc count) fails =
      filter-one_more count false (fails count (omega arith))
      ∙ append-nil (filter test (first_items f count))
      ∙ filter-none count (λ k below. fails k (omega arith))

  module _ (start : ℕ) (fails : (k : ℕ) → k < start → test (f k) ≡ false) where
    filter-some : (count end : ℕ) → end ≡ start + count → ((k : ℕ) → k < count → test (f (start + k)) ≡ true)
        → filter test (first_items f end) ≡ first_items (λ k. f (start + k)) count
    filter-some zero end ends passes =
        let same : end ≡ start = omega arith in
        ap (λ n. filter test (first_items f n)) same ∙ filter-none start fails
    filter-some (suc count) end ends passes =
        let same : end ≡ suc (start + count) = omega arith in
        ap (λ n. filter test (first_items f n)) same
        ∙ filter-one_more (start + count) true (passes count (omega arith))
        ∙ ap (λ items. items ++ f (start + count) ∷ []) (filter-some count (start + count) refl
        (λ k below. passes k (omega arith)))

    filter-places : (count more end : ℕ) → end ≡ start + count + more
        → ((k : ℕ) → k < count → test (f (start + k)) ≡ true)
        → ((k : ℕ) → start + count ≤ k → test (f k) ≡ false)
        → filter test (first_items f end) ≡ first_items (λ k. f (start + k)) count
    filter-places count zero end ends passes past = filter-some count end (omega arith) passes
    filter-places count (suc more) end ends passes past =
        let before : ℕ = start + count + more in
        let same : end ≡ suc before = omega arith in
        ap (λ n. filter test (first_items f n)) same
        ∙ filter-one_more before false (past before (omega arith))
        ∙ append-nil (filter test (first_items f before))
        ∙ filter-places count more before refl passes past

-- the one row of a warehouse
one_warehouse : (rows : List Warehouse) (number : ℕ)
    → ((place : ℕ) → IfSome (slice_get rows place) (IsWarehouseAt place)) → IsBetween 1 (length rows) number
    → map (λ row. row.id) (filter (λ row. row.id == number) rows) ≡ number ∷ []
one_warehouse rows number each between =
    let ends = bounds 1 (length rows) number between in
    let before : ℕ = number - 1 in
    let here : before + 0 + 1 ≡ number = omega (arith, ends.0) in
    keys-filter (λ (row : Warehouse). row.id) (λ id. id == number) rows
    ∙ ap (filter (λ id. id == number)) (keys-by_place (λ (row : Warehouse). row.id) (λ place. place + 1) rows
    (λ place. IfSome_then (slice_get rows place) {P = IsWarehouseAt place} {Q = λ row. row.id
    ≡ place + 1} (each place) (λ row right. right.1)))
    ∙ filter-places (λ id. id == number) (λ place. place + 1) before (λ k below. grind (arith, nat_tests)) 1
    (length rows - number) (length rows) (omega (arith, ends.0, ends.1))
    (λ k below. grind (arith, nat_tests)) (λ k past. grind (arith, nat_tests))
    ∙ ap (λ n. n ∷ []) here

-- the place of a district among all
abbrev place_key : ℕ → ℕ × ℕ
place_key place = (place / 10 + 1, place % 10 + 1)

-- the ten districts of a warehouse
ten_districts : (warehouses : ℕ) (rows : List District) (number : ℕ)
    → ((place : ℕ) → IfSome (slice_get rows place) (IsDistrictAt warehouses place))
    → 10 * warehouses ≤ length rows → IsBetween 1 warehouses number
    → map district_key (filter (λ row. row.warehouse == number) rows)
    ≡ map (λ district. (number, district)) district_numbers
ten_districts warehouses rows number each long between =
    let test : ℕ × ℕ → Bool = λ key. key.0 == number in
    let ends = bounds 1 warehouses number between in
    let before : ℕ = 10 * (number - 1) in
    let starts : before + 10 ≡ 10 * number = omega (arith, ends.0) in
    let key_at : (place : ℕ) (row : District) → IsDistrictAt warehouses place row
    → district_key row ≡ place_key place =
    λ place row right. ap₂ (λ warehouse district. (warehouse, district)) right.1 right.2 in
    let within : (k : ℕ) → k < 10
    → place_key (before + k)
    ≡ (number, k + 1) = λ k below. ap₂ (λ warehouse district. (warehouse, district)) (omega arith)
    (omega arith) in
    keys-filter district_key test rows
    ∙ ap (filter test) (keys-by_place district_key place_key rows
    (λ place. IfSome_then
    (slice_get rows place) {P = IsDistrictAt warehouses place} {Q = λ row. district_key row
    ≡ place_key place} (each place) (key_at place)))
    ∙ filter-places test place_key before (λ k below. grind (arith, nat_tests)) 10 (length rows - 10 * number)
    (length rows) (omega (arith, ends.1))
    (λ k below. grind (arith, nat_tests)) (λ k past. grind (arith, nat_tests))
    ∙ first_items-same (λ k. place_key (before + k)) (λ k. (number, k + 1)) 10 within

-- the rank of a customer among all
abbrev customer_rank : Customer → ℕ
customer_rank row = (10 * row.warehouse + row.district) * 3_000 + row.id

-- customers behind another one
customers-rising_behind : (before : Customer) (rows : List Customer) → IsCustomerInRange before
    → ((place : ℕ) → IfSome (slice_get rows place)
    (λ row. IsCustomerInRange row × IsCustomerAfter (slice_get (before ∷ rows) place) row))
    → IsRisingFrom customer_rank (customer_rank before) rows
customers-rising_behind before [] in_range each = tt
customers-rising_behind before (row ∷ rows) in_range each =
    let here = each 0 in
    let ranges = allowed-at (columns_of tables.Customer) (customer_values before) in_range in
    let few = bounds 1 3_000 before.id (ranges 0) in
    let within = bounds 1 10 before.district (ranges 1) in
    let above : customer_rank before < customer_rank row = elim here.1 [
      | inl same ↦ omega (arith, same.0, same.1, same.2)
      | inr (inl same, first) ↦ omega (arith, same.0, same.1, first, few.1)
      | inr (inr next, first) ↦ omega (arith, next.0, next.1, next.2, first, few.1, within.1)
    ] in
    (above, customers-rising_behind row rows here.0 (λ place. each (suc place)))

-- the row before a place that is not the first
row_before-suc : {Row : Type 0} (rows : List Row) (place : ℕ) → row_before rows (suc place) ≡ slice_get rows place
row_before-suc rows place =
    let some : (suc place == 0) ≡ false = grind (arith, nat_tests) in
    let same : suc place - 1 ≡ place = omega arith in
    rw (some, same) refl

customers-rising : (warehouses : ℕ) (rows : List Customer)
    → ((place : ℕ) → IfSome (slice_get rows place) (IsCustomerAt warehouses rows place))
    → IsRisingFrom customer_rank 0 rows
customers-rising warehouses [] each = tt
customers-rising warehouses (row ∷ rows) each =
    let After : ℕ → Customer
    → Type 0 = λ place next. IsCustomerInRange next × IsCustomerAfter (slice_get
    (row ∷ rows) place) next in
    let here = each 0 in
    let ranges = allowed-at (columns_of tables.Customer) (customer_values row) here.0 in (
      omega (arith, (bounds 1 3_000 row.id (ranges 0)).0),
      customers-rising_behind row rows here.0 (λ place. IfSome_then
          (slice_get rows place) {P = IsCustomerAt warehouses (row ∷ rows) (suc place)} {Q = After place}
          (each (suc place))
          (λ next right. (right.0, subst (λ before. IsCustomerAfter before next) (row_before-suc (row ∷ rows) place) right.2))),
    )

customer_rank-by_key : (row other : Customer) → customer_key row ≡ customer_key other
    → customer_rank row ≡ customer_rank other
customer_rank-by_key row other same = ap (λ key. (10 * key.0 + key.1) * 3_000 + key.2) same

district_rank-by_key : (row other : District) → district_key row ≡ district_key other
    → 10 * row.warehouse + row.id ≡ 10 * other.warehouse + other.id
district_rank-by_key row other same = ap (λ key. 10 * key.0 + key.1) same

-- no key stands twice in a load
pub HasUniqueKeys-load : (load : Lists) → IsLoad load → HasUniqueKeys load.tables
HasUniqueKeys-load load is_load =
    let warehouses = length load.tables.warehouses in
    record {
      warehouses =
          rising-unique (λ (row : Warehouse). row.id) (λ row. row.id) (λ row other same. same) 0 load.tables.warehouses
          (numbered-rising (λ (row : Warehouse). row.id) 0 1 load.tables.warehouses (omega arith)
          (λ place. IfSome_then
          (slice_get load.tables.warehouses place) {P = IsWarehouseAt place} {Q = λ row. row.id
          ≡ 1 + place} (is_load.warehouses.each place) (λ row right. omega (arith, right.1))));
      districts =
          rising-unique (λ (row : District). 10 * row.warehouse + row.id) district_key district_rank-by_key 0 load.tables.districts
          (numbered-rising (λ (row : District). 10 * row.warehouse + row.id) 0 11 load.tables.districts (omega arith)
          (λ place. IfSome_then
          (slice_get load.tables.districts place) {P = IsDistrictAt warehouses place} {Q = λ row. 10 * row.warehouse + row.id ≡ 11 + place} (is_load.districts.each place) (λ row right. omega (arith, right.1, right.2))));
      customers =
          rising-unique customer_rank customer_key customer_rank-by_key 0 load.tables.customers
          (customers-rising warehouses load.tables.customers is_load.customers.each);
    }

-- the rows of each warehouse of a load are its own row, its ten districts and its customers
pub IsOneWarehouse-load : (load : Lists) (number : ℕ) → IsLoad load
    → IsBetween 1 (length load.tables.warehouses) number → IsOneWarehouse number (of_warehouse number load.tables)
IsOneWarehouse-load load number is_load between =
    let own : ℕ × ℕ × ℕ → Bool = λ key. key.0 == number in
    record {
      warehouse = one_warehouse load.tables.warehouses number is_load.warehouses.each between;
      districts = ten_districts
          (length load.tables.warehouses) load.tables.districts number is_load.districts.each is_load.districts.whole between;
      customers = All-passing (λ row. row.warehouse == number) (λ row. row.warehouse
          ≡ number) load.tables.customers (λ row own. eqb-true row.warehouse number own);
      unique = subst AreUnique (sym (keys-filter customer_key own load.tables.customers)) (AllPairs-filter
          (λ key other. key ≢ other) own (map customer_key load.tables.customers)
          (HasUniqueKeys-load load is_load).customers);
    }

-- the numbers of the districts rise
districts-rising : IsRisingFrom (λ (district : ℕ). district) 0 district_numbers
districts-rising = (
  lit< tt,
  (lit< tt, (lit< tt, (lit< tt, (lit< tt, (lit< tt, (lit< tt, (lit< tt, (lit< tt, (lit< tt, tt))))))))),
)

-- no key stands twice in the rows of one warehouse
pub HasUniqueKeys-one_warehouse : (number : ℕ) (tables : Tables) → IsOneWarehouse number tables → HasUniqueKeys tables
HasUniqueKeys-one_warehouse number tables rows = record {
  warehouses = subst AreUnique (sym rows.warehouse) (λ i j d before within. absurd (omega arith));
  districts =
      subst AreUnique (sym rows.districts)
      (rising-unique (λ (district : ℕ). district) (λ district. (number, district))
      (λ district other same. ap (λ key. key.1) same) 0 district_numbers districts-rising);
  customers = rows.unique;
}
