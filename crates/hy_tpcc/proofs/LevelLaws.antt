-- The low items of a district's last orders.
use Rattle.std.proofs.Common.{◌≡◌, ℕ, ◌+◌, ◌-◌, ◌<◌, ◌≤◌, ◌==◌, ◌&&◌, ◌||◌, inl, inr, Bool, true, false, List, [], ◌∷◌, Some, map, filter, length, refl, sym, ap, ap₂, subst, ◌∙◌, arith}
use Rattle.std.specs.Prelude.{nat_le, nat_lt, slice_get, All, unwrap_or}
use Rattle.std.specs.Cmp.{both_ways}
use Rattle.std.specs.List.{list_any}
use Rattle.std.specs.Set.{distinct_count}
use Rattle.std.proofs.lemmas.Bool.{and_parts, cases_eq}
use Rattle.std.proofs.lemmas.Bool.Decides.{nat_tests}
use Rattle.hy_rows.specs.declared.district.District.{District}
use Rattle.hy_rows.specs.declared.item.Item.{Item}
use Rattle.hy_rows.specs.declared.order_line.OrderLine.{OrderLine}
use Rattle.hy_rows.specs.declared.stock.Stock.{Stock}
use Rattle.hy_rows.specs.Finding.{first_or, is_district}
use Rattle.hy_rows.specs.Ranges.{IsBetween}
use Rattle.hy_rows.specs.Rows.{district_of}
use Rattle.hy_rows.specs.Tables.{Tables}
use Rattle.hy_schema.specs.Keys.{AreUnique, IsOneWarehouse}
use Rattle.hy_schema.specs.Related.{is_item, is_order, lines_of_district}
use Rattle.hy_writers.specs.of_index.declared.key.Entry.{Entry}
use Rattle.hy_commands.specs.Invariant.{IsSoundWarehouse, stock_key}
use Rattle.hy_commands.specs.NewOrders.{is_stock}
use Rattle.hy_commands.specs.StockLevels.{is_low, is_recent}
use Rattle.hy_commands.proofs.OnceLaws.{tells-two}
use Rattle.hy_layout.specs.Layout.{IsStockAt}
use Rattle.hy_writers.specs.of_store.declared.keys.LineKey.{LineKey}
use Rattle.hy_writers.specs.of_store.Keys.{is_lesser_line}
use Rattle.hy_layout.specs.Finds.{IsIn}
use Rattle.hy_writers.specs.of_indexes.Finds.{IsIndexOf}
use Rattle.hy_writers.specs.of_indexes.Indexes.{line_key_at}
use Rattle.hy_writers.proofs.of_indexes.IndexLaws.{between-in, in-between}
use Rattle.hy_writers.proofs.of_indexes.KeyOrders.{order-of_lines}
use Rattle.hy_layout.proofs.MemberLaws.{filter-in, in-filter, in-place, place-in}
use Rattle.hy_layout.proofs.PlaceLaws.{only-unique}
use Rattle.hy_writers.proofs.DeliverLaws.{any-place}
use Rattle.hy_writers.proofs.FindLaws.{found-district, same-row}
use Rattle.hy_writers.proofs.LexLaws.{between-line, line-between}
use Rattle.hy_writers.proofs.LineLaws.{at-line, line-at}
use Rattle.hy_writers.proofs.WaitingLaws.{in-all, in-map, map-in}
use Rattle.hy_tpcc.specs.Levels.{entries_of, items_named, with_items}
use Rattle.hy_writers.specs.Deliveries.{places_of}
use Rattle.hy_tpcc.specs.Lines.{lines_named}
use Rattle.hy_tpcc.proofs.GatherLaws.{counted-once, items-from, new-items, old-items, once-items}

some-is : {Row : Type 0} (one other : Row) → Some one ≡ Some other → one ≡ other
some-is one other same = cc

any-in : {Row : Type 0} (test : Row → Bool) (rows : List Row) (row : Row) → IsIn row rows → test row ≡ true
    → list_any test rows ≡ true
any-in test [] row there passes = absurd there
any-in test (first ∷ rows) row there passes = elim there [
  | inl same ↦ ap (λ b. b || list_any test rows) (ap test same ∙ passes)
  | inr behind ↦
      ap (λ b. test first || b) (any-in test rows row behind passes)
      ∙ (elim (test first) as (λ b. (b || true) ≡ true) [
        | true ↦ refl
        | false ↦ refl
      ])
]

-- ---- the row of STOCK at a place tells whether an item is low

pub low-at : (warehouse threshold item : ℕ) (stock : List Stock) (place : ℕ) (row : Stock)
    → AreUnique (map stock_key stock) → IsStockAt warehouse item stock place → slice_get stock place ≡ Some row
    → is_low warehouse threshold stock item ≡ nat_lt row.quantity threshold
low-at warehouse threshold item stock place row unique at here =
    let key : stock_key row ≡ (warehouse, item) = same-row stock_key stock place at.row row at.here here at.key in
    let home : row.warehouse ≡ warehouse = ap (λ k. k.0) key in
    let item_is : row.item ≡ item = ap (λ k. k.1) key in
    let passes : is_stock warehouse item row ≡ true = grind (arith, nat_tests, home, item_is) in
    let only = only-unique stock_key (is_stock warehouse item) stock unique place row here passes
    (λ another also. let same = tells-two another.warehouse another.item warehouse item also in
    key ∙ sym (ap₂ (λ (w : ℕ) (i : ℕ). (w, i)) same.0 same.1)) in
    both_ways (is_low warehouse threshold stock item) (nat_lt row.quantity threshold)
    (λ is.
    let found = any-place (λ other. is_stock warehouse item other && nat_lt other.quantity threshold) stock is in
    let parts = and_parts (is_stock warehouse item found.1) (nat_lt (found.1).quantity threshold) found.3 in
    let places : found.0 ≡ place = only.only found.0 found.1 found.2 parts.0 in
    let same : found.1 ≡ row = some-is found.1 row (sym found.2 ∙ ap (slice_get stock) places ∙ here) in
    subst (λ (r : Stock). nat_lt r.quantity threshold ≡ true) same parts.1)
    (λ is. any-in (λ other. is_stock warehouse item other && nat_lt other.quantity threshold) stock row
    (in-place stock place row here) (ap₂ (λ (a : Bool) (b : Bool). a && b) passes is))

-- ---- the item of a line is one of the load's

pub line-item : (items : List Item) (number : ℕ) (tables : Tables) (place : ℕ) (row : OrderLine)
    → IsSoundWarehouse items number tables → slice_get tables.order_lines place ≡ Some row
    → list_any (is_item row.item) items ≡ true
line-item items number tables place row sound here =
    (in-all (λ (r : OrderLine). (list_any (is_order r.warehouse r.district r.order) tables.orders ≡ true)
    × (list_any (λ (item : Item). item.id == r.item) items ≡ true)) tables.order_lines row sound.orders.order_lines
    (in-place tables.order_lines place row here)).1

-- ---- the number of a district's next order

pub next-order : (warehouse number district : ℕ) (tables : Tables) (row : District) → warehouse ≡ number
    → IsOneWarehouse number tables → IsBetween 1 10 district
    → slice_get tables.districts (district - 1) ≡ Some row
    → row.next_order ≡ (first_or (district_of []) (is_district warehouse district) tables.districts).next_order
next-order warehouse number district tables row home rows between here =
    let at = found-district number district tables row rows between here in
    sym (ap (λ w. (first_or (district_of []) (is_district w district) tables.districts).next_order) home
    ∙ ap (λ found. (unwrap_or found (district_of [])).next_order) at.found)

-- ---- the low items of the orders from one number on, below another

pub record AreLow (test : ℕ → Bool) (district from to : ℕ) (rows : List OrderLine) (low : List ℕ) : Type 0 where
  pub once : AreUnique low
  pub there : (item : ℕ) → IsIn item low
      → (test item ≡ true) × (row : OrderLine) × IsIn row rows × (row.item ≡ item) × (row.district ≡ district)
      × (from ≤ row.order) × (row.order < to)
  pub all : (row : OrderLine) → IsIn row rows → row.district ≡ district → from ≤ row.order → row.order < to
      → test row.item ≡ true → IsIn row.item low

module _ (test : ℕ → Bool) (district from to : ℕ) (rows : List OrderLine) (entries : List (Entry LineKey))
    (index : IsIndexOf line_key_at (slice_get rows) entries) where
  abbrev first : LineKey
  first = record { order = to; district = district; number = 0 }

  abbrev behind : LineKey
  behind = record { order = to; district = district + 1; number = 0 }

  abbrev own : List (Entry LineKey)
  own = entries_of to district entries

  named : (item : ℕ) → IsIn item (items_named rows own)
      → (row : OrderLine) × IsIn row rows × (row.item ≡ item) × (row.order ≡ to) × (row.district ≡ district)
  named item there =
      let line = map-in (λ (row : OrderLine). row.item) (lines_named rows own) item there in
      let at = line-at rows (places_of own) line.0 line.1 in
      let entry = map-in (λ (e : Entry LineKey). e.slot) own at.0 at.1 in
      let ends = between-in is_lesser_line order-of_lines first behind entries entry.0 entry.1 in
      let row = index.there entry.0 ends.0 in
      let keys = line-between to district (entry.0).key ends.1 ends.2 in
      let same : row.0 ≡ line.0 = some-is row.0 line.0 (sym row.1 ∙ ap (slice_get rows) entry.2 ∙ at.2) in (
        line.0,
        in-place rows at.0 line.0 at.2,
        line.2,
        ap (λ (r : OrderLine). r.order) (sym same) ∙ ap (λ (k : LineKey). k.order) row.2 ∙ keys.0,
        ap (λ (r : OrderLine). r.district) (sym same) ∙ ap (λ (k : LineKey). k.district) row.2 ∙ keys.1,
      )

  listed : (row : OrderLine) → IsIn row rows → row.order ≡ to → row.district ≡ district
      → IsIn row.item (items_named rows own)
  listed row there orders districts =
      let at = place-in rows row there in
      let ends = between-line to district (line_key_at row) orders districts in
      let entry : IsIn (record { key = line_key_at row; slot = at.0 }) own =
      in-between is_lesser_line order-of_lines first behind entries (record { key = line_key_at row; slot = at.0 })
      (index.all at.0 row at.1) ends.0 ends.1 in
      in-map (λ (r : OrderLine). r.item) (lines_named rows own) row
      (at-line rows (places_of own) at.0 row
      (in-map (λ (e : Entry LineKey). e.slot) own (record { key = line_key_at row; slot = at.0 }) entry) at.1)

  pub low-more : (low new : List ℕ) → from ≤ to → AreLow test district from to rows low
      → new ≡ with_items test low (items_named rows own) → AreLow test district from (to + 1) rows new
  low-more low new above before is = subst (AreLow test district from (to + 1) rows) (sym is) (record {
    once = once-items test (items_named rows own) low before.once;
    there = λ item there. elim (items-from test (items_named rows own) low item there) [
      | inl old ↦
          let was = before.there item old in
          (was.0, was.1, was.2, was.3, was.4, was.5, (let less = was.6 in omega (arith, less)))
      | inr added ↦
          let line = named item added.0 in
          let order = line.3 in
          (added.1, line.0, line.1, line.2, line.4, omega (arith, order, above), omega (arith, order))
    ];
    all = λ row there districts from_is below passes. elim (cases_eq row.order to) [
      | inl same ↦ new-items test (items_named rows own) low row.item (listed row there same districts) passes
      | inr differs ↦ old-items test (items_named rows own) low row.item
          (before.all row there districts from_is (grind (arith, nat_tests, below, differs)) passes)
    ];
  })

-- they are as many as the different ones
pub low-counted : (warehouse district next : ℕ) (test : ℕ → Bool) (rows : List OrderLine) (low : List ℕ)
    → All (λ row. row.warehouse ≡ warehouse) rows → AreLow test district (next - 20) next rows low
    → length low ≡ distinct_count (λ one other. one == other) (filter test (map (λ line. line.item)
    (filter (is_recent next) (lines_of_district warehouse district rows))))
low-counted warehouse district next test rows low own are =
    let in_district : OrderLine → Bool = λ row. (row.warehouse == warehouse) && (row.district == district) in
    let recent : List OrderLine = filter (is_recent next) (lines_of_district warehouse district rows) in
    counted-once low (filter test (map (λ (line : OrderLine). line.item) recent)) are.once
    (λ item there.
    let line = are.there item there in
    let home = in-all (λ (row : OrderLine). row.warehouse ≡ warehouse) rows line.1 own line.2 in
    let districts = line.4 in
    let above = line.5 in
    let below = line.6 in
    in-filter test item (map (λ (line : OrderLine). line.item) recent)
    (subst (λ i. IsIn i (map (λ (line : OrderLine). line.item) recent)) line.3
    (in-map (λ (line : OrderLine). line.item) recent line.1
    (in-filter (is_recent next) line.1 (lines_of_district warehouse district rows)
    (in-filter in_district line.1 rows line.2 (grind (arith, nat_tests, home, districts)))
    (grind (arith, nat_tests, above, below))))) line.0)
    (λ item there.
    let kept = filter-in test item (map (λ (line : OrderLine). line.item) recent) there in
    let line = map-in (λ (line : OrderLine). line.item) recent item kept.0 in
    let is_recent_line = filter-in (is_recent next) line.0 (lines_of_district warehouse district rows) line.1 in
    let is_own = filter-in in_district line.0 rows is_recent_line.0 in
    let columns = tells-two (line.0).warehouse (line.0).district warehouse district is_own.1 in
    let parts = and_parts (nat_le (next - 20) (line.0).order) (nat_lt (line.0).order next) is_recent_line.1 in
    let above = parts.0 in
    let below = parts.1 in
    subst (λ i. IsIn i low) line.2
    (are.all line.0 is_own.0 columns.1 (grind (arith, nat_tests, above)) (grind (arith, nat_tests, below))
    (ap test line.2 ∙ kept.1)))
