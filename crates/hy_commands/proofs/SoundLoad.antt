-- The rows of each warehouse of a load are sound.
use Rattle.std.proofs.Common.{◌≡◌, ◌≢◌, ℕ, zero, suc, ◌+◌, ◌-◌, ◌*◌, ◌/◌, ◌<◌, ◌≤◌, ◌==◌, ◌&&◌, Bool, true, false, List, [], ◌∷◌, map, length, take, get_or, slice_get, IfSome, Option, Some, None, refl, sym, ap, subst, ◌∙◌, arith}
use Rattle.std.specs.Prelude.{All}
use Rattle.std.specs.List.{list_all, list_any, sum}
use Rattle.std.proofs.lemmas.Bool.{and_parts, both_ways, eq-eqb, eqb-true, or_parts}
use Rattle.std.proofs.lemmas.Bool.Decides.{nat_tests}
use Rattle.std.proofs.lemmas.List.Elements.{All-cons, All-filter, All-map, All-nil}
use Rattle.std.proofs.lemmas.List.Kept.{AllPairs-cons}
use Rattle.std.proofs.Math.Nat.{div-add-mod, mul-le-mul_left}
use Rattle.std.proofs.lemmas.Nat.{div-mul-add, mod-mul-add}
use Rattle.std.proofs.lemmas.List.Folds.{list_any_at}
use Rattle.std.proofs.lemmas.Option.{IfSome_then, slice_get-get_or, slice_get_within}
use Rattle.hy_rows.specs.Rows.{stock_of}
use Rattle.hy_rows.specs.declared.stock.Stock.{Stock}
use Rattle.hy_commands.specs.NewOrders.{is_stock}
use Rattle.hy_rows.specs.Finding.{is_customer}
use Rattle.hy_rows.specs.Ranges.{IsBetween}
use Rattle.hy_rows.specs.Tables.{Lists, Tables, of_warehouse}
use Rattle.hy_rows.specs.declared.district.District.{District}
use Rattle.hy_rows.specs.declared.new_order.NewOrder.{NewOrder}
use Rattle.hy_rows.specs.declared.order.Order.{Order}
use Rattle.hy_rows.specs.declared.order_line.OrderLine.{OrderLine}
use Rattle.hy_rows.proofs.BetweenLaws.{bounds}
use Rattle.hy_rows.proofs.RangeLaws.{allowed-at}
use Rattle.hy_rows.specs.Catalogue.{columns_of}
use Rattle.hy_rows.specs.Rows.{district_values, order_values}
use Rattle.hy_rows.specs.declared.catalogue.Table.TheVariants as tables
use Rattle.hy_schema.specs.Conditions.{column_sum, conditions, first_broken, new_order_numbers, order_numbers, paid_amount}
use Rattle.hy_schema.specs.Keys.{AreUnique}
use Rattle.hy_schema.specs.Loads.{IsDistrictAt, IsItemAt, IsStockAt, IsLoad, IsNewOrderAt, IsOrderAt, IsOrderLineAt}
use Rattle.hy_schema.specs.Related.{is_line, is_line_of, is_new_order, is_new_order_of, is_order, lines_of}
use Rattle.hy_schema.proofs.ChangedLists.{All-passing_also}
use Rattle.hy_schema.proofs.ConditionLaws.{consistent-unbroken, delivered-own, filter-implied}
use Rattle.hy_schema.proofs.KeyLaws.{IsOneWarehouse-load}
use Rattle.hy_commands.specs.Invariant.{HasOrder, HasOrderAndItem, HasOwnOrders, IsOwnOrder, IsSoundWarehouse, MeetsOwnConditions, line_key, new_order_key, order_key, stock_key}
use Rattle.hy_commands.proofs.ListLaws.{any-filter-same, unique-filter}
use Rattle.hy_commands.proofs.MeetsLaws.{CarriedOrNew, CountsDistrict, CountsLines, DeliveredWithLines, IsBalanced, Meets, NumbersInRow, PaidIn, PaidInDistrict, SumsDistricts, behind-orders, meets-facts, meets-tests}
use Rattle.hy_commands.proofs.NumberLaws.{AreInRow}
use Rattle.hy_commands.proofs.OnceLaws.{passes-three}

-- ---- the conditions of a load

met-at : (tables : Tables) (tests : List (ℕ × (Tables → Bool))) (place : ℕ)
    → list_all (λ condition. condition.1 tables) tests ≡ true
    → IfSome (slice_get tests place) (λ condition. condition.1 tables ≡ true)
met-at tables [] place all = tt
met-at tables (first ∷ tests) zero all = (and_parts (first.1 tables) (list_all (λ condition. condition.1 tables)
    tests) all).0
met-at tables (first ∷ tests) (suc place) all =
    met-at tables tests place
    (and_parts (first.1 tables) (list_all (λ condition. condition.1 tables) tests) all).1

own-conditions : (tables : Tables) → first_broken tables ≡ None → MeetsOwnConditions tables
own-conditions tables unbroken =
    let all = consistent-unbroken tables unbroken in
    record {
      condition_1 = met-at tables conditions 0 all;
      condition_2 = met-at tables conditions 1 all;
      condition_3 = met-at tables conditions 2 all;
      condition_4 = met-at tables conditions 3 all;
      condition_5 = met-at tables conditions 4 all;
      condition_6 = met-at tables conditions 5 all;
      condition_7 = met-at tables conditions 6 all;
      condition_8 = met-at tables conditions 7 all;
      condition_9 = met-at tables conditions 8 all;
      condition_12 = met-at tables conditions 10 all;
    }

-- ---- those of one of its warehouses

module _ (number : ℕ) (tables : Tables) where
  abbrev here : Tables
  here = of_warehouse number tables

  own-orders : (row : Order) → row.warehouse ≡ number → lines_of row here.order_lines ≡ lines_of row tables.order_lines
  own-orders row home =
      filter-implied (is_line_of row) (λ line. line.warehouse == number)
      (λ line passes. grind (arith, nat_tests, passes, home)) tables.order_lines

  own-numbers : (row : District) → row.warehouse ≡ number → NumbersInRow tables.orders tables.new_orders row
      → NumbersInRow here.orders here.new_orders row
  own-numbers row home in_row =
      let orders : order_numbers here.orders row ≡ order_numbers tables.orders row =
      ap (map (λ (order : Order). order.id))
      (filter-implied (λ order. (order.warehouse == row.warehouse) && (order.district == row.id)) (λ order.
      order.warehouse == number)
      (λ order passes. grind (arith, nat_tests, passes, home)) tables.orders) in
      let news : new_order_numbers here.new_orders row ≡ new_order_numbers tables.new_orders row =
      ap (map (λ (new : NewOrder). new.order))
      (filter-implied (λ new. (new.warehouse == row.warehouse) && (new.district == row.id)) (λ new. new.warehouse ==
      number)
      (λ new passes. grind (arith, nat_tests, passes, home)) tables.new_orders) in
      subst (λ numbers. AreInRow row.next_order numbers (new_order_numbers here.new_orders row)) (sym orders)
      (subst (λ numbers. AreInRow row.next_order (order_numbers tables.orders row) numbers) (sym news) in_row)

  own-counts : (row : District) → row.warehouse ≡ number → CountsDistrict tables.orders tables.order_lines row
      → CountsDistrict here.orders here.order_lines row
  own-counts row home counts =
      ap (λ orders. sum (map (λ (order : Order). order.line_count) orders))
      (filter-implied (λ order. (order.warehouse == row.warehouse) && (order.district == row.id)) (λ order.
      order.warehouse == number)
      (λ order passes. grind (arith, nat_tests, passes, home)) tables.orders)
      ∙ counts
      ∙ sym (ap length
      (filter-implied (λ line. (line.warehouse == row.warehouse) && (line.district == row.id)) (λ line. line.warehouse
      == number)
      (λ line passes. grind (arith, nat_tests, passes, home)) tables.order_lines))

  own-meets : Meets tables → Meets here
  own-meets meets = record {
    districts =
        All-passing_also (λ row. row.id == number) (SumsDistricts tables.districts) (SumsDistricts here.districts)
        tables.warehouses
        (λ row sums own. sums ∙ sym (ap (column_sum (λ (district : District). district.ytd))
        (filter-implied (λ district. district.warehouse == row.id) (λ district. district.warehouse == number)
        (λ district passes. grind (arith, nat_tests, passes, own)) tables.districts))) meets.districts;
    numbers =
        All-passing_also (λ row. row.warehouse == number) (NumbersInRow tables.orders tables.new_orders)
        (NumbersInRow here.orders here.new_orders) tables.districts
        (λ row in_row own. own-numbers row (eqb-true row.warehouse number own) in_row) meets.numbers;
    district_lines =
        All-passing_also (λ row. row.warehouse == number) (CountsDistrict tables.orders tables.order_lines)
        (CountsDistrict here.orders here.order_lines) tables.districts
        (λ row counts own. own-counts row (eqb-true row.warehouse number own) counts) meets.district_lines;
    carried =
        All-passing_also (λ row. row.warehouse == number) (CarriedOrNew tables.new_orders) (CarriedOrNew
        here.new_orders) tables.orders
        (λ row is own. is ∙ sym (any-filter-same (is_new_order_of row) (λ new. new.warehouse == number)
        (λ new other. grind (arith, nat_tests, other, own)) tables.new_orders)) meets.carried;
    lines =
        All-passing_also (λ row. row.warehouse == number) (CountsLines tables.order_lines) (CountsLines
        here.order_lines) tables.orders
        (λ row counts own. counts ∙ sym (ap length (own-orders row (eqb-true row.warehouse number own)))) meets.lines;
    delivered =
        All-passing_also (λ row. row.warehouse == number) (DeliveredWithLines tables.order_lines)
        (DeliveredWithLines here.order_lines) tables.orders
        (λ row all own. subst (All (λ (line : OrderLine). (line.delivery_date == 0) ≡ (row.carrier == 0)))
        (sym (own-orders row (eqb-true row.warehouse number own))) all) meets.delivered;
    paid =
        All-passing_also (λ row. row.id == number) (PaidIn tables.history) (PaidIn here.history) tables.warehouses
        (λ row sums own. sums ∙ sym (ap paid_amount
        (filter-implied (λ payment. payment.warehouse == row.id) (λ payment. payment.warehouse == number)
        (λ payment passes. grind (arith, nat_tests, passes, own)) tables.history))) meets.paid;
    district_paid =
        All-passing_also (λ row. row.warehouse == number) (PaidInDistrict tables.history) (PaidInDistrict
        here.history) tables.districts
        (λ row sums own. sums ∙ sym (ap paid_amount
        (filter-implied (λ payment. (payment.warehouse == row.warehouse) && (payment.district == row.id))
        (λ payment. payment.warehouse == number) (λ payment passes. grind (arith, nat_tests, passes, own))
        tables.history)))
        meets.district_paid;
    balances =
        All-passing_also (λ row. row.warehouse == number) (IsBalanced tables.orders tables.order_lines)
        (IsBalanced here.orders here.order_lines) tables.customers
        (λ row settled own.
        settled ∙ sym (delivered-own number row (eqb-true row.warehouse number own) tables.orders tables.order_lines))
        meets.balances;
  }

-- ---- the rows of a load

-- what holds at each place holds of all
pub all-by_place : {Row : Type 0} (P : Row → Type 0) (rows : List Row) → ((place : ℕ) → IfSome (slice_get rows place)
    P) → All P rows
all-by_place P [] each = All-nil P
all-by_place P (row ∷ rows) each = All-cons P row rows (each 0) (all-by_place P rows (λ place. each (suc place)))

-- where no key is that of a row before, none stands twice
unique-by_place : {Row Key : Type 0} (key : Row → Key) (same : Row → Row → Bool)
    → ((row other : Row) → key other ≡ key row → same row other ≡ true) → (rows : List Row)
    → ((place : ℕ) → IfSome (slice_get rows place) (λ row. list_any (same row) (take place rows) ≡ false))
    → AreUnique (map key rows)
unique-by_place key same tells [] each = λ i j d before within. absurd (omega arith)
unique-by_place {Row = Row} key same tells (first ∷ rows) each =
    let differs : All (λ row. key first ≢ key row) rows = all-by_place (λ row. key first ≢ key row) rows
    (λ place. IfSome_then (slice_get rows place)
    {P = λ row. list_any (same row) (first ∷ take place rows) ≡ false} {Q = λ row. key first ≢ key row} (each (suc
    place))
    (λ row new equal. both_ways (same row first) (or_parts (same row first) (list_any (same row) (take place rows))
    new).0
    (tells row first equal))) in
    AllPairs-cons (λ one other. one ≢ other) (key first) (map key rows)
    (All-map (λ other. key first ≢ other) key rows differs)
    (unique-by_place key same tells rows (λ place. IfSome_then (slice_get rows place)
    {P = λ row. list_any (same row) (first ∷ take place rows) ≡ false} {Q = λ row. list_any (same row) (take place
    rows) ≡ false}
    (each (suc place))
    (λ row new. (or_parts (same row first) (list_any (same row) (take place rows)) new).1)))

-- ranks that go by the place tell rows apart
unique-ranked : {Row Key : Type 0} (key : Row → Key) (rank : Row → ℕ)
    → ((row other : Row) → key row ≡ key other → rank row ≡ rank other) → (start : ℕ) (rows : List Row)
    → ((place : ℕ) → IfSome (slice_get rows place) (λ row. rank row ≡ start + place)) → AreUnique (map key rows)
unique-ranked key rank tells start [] each = λ i j d before within. absurd (omega arith)
unique-ranked key rank tells start (row ∷ rows) each =
    let first : rank row ≡ start + 0 = each 0 in
    AllPairs-cons (λ one other. one ≢ other) (key row) (map key rows)
    (All-map (λ other. key row ≢ other) key rows
    (all-by_place (λ other. key row ≢ key other) rows (λ place. IfSome_then (slice_get rows place)
    {P = λ other. rank other ≡ start + suc place} {Q = λ other. key row ≢ key other} (each (suc place))
    (λ other is same. let equal : rank row ≡ rank other = tells row other same in omega (arith, is, equal, first)))))
    (unique-ranked key rank tells (start + 1) rows (λ place. IfSome_then (slice_get rows place)
    {P = λ other. rank other ≡ start + suc place} {Q = λ other. rank other ≡ start + 1 + place} (each (suc place))
    (λ other is. omega (arith, is))))

-- what follows at a place that is there
at-place : {Row : Type 0} (P Q : Row → Type 0) (row : Option Row) → ((r : Row) → row ≡ Some r → P r → Q r) → IfSome
    row P
    → IfSome row Q
at-place P Q None follows holds = tt
at-place P Q (Some row) follows holds = follows row refl holds

module _ (number : ℕ) (load : Lists) (is_load : IsLoad load) where
  abbrev all_rows : Tables
  all_rows = load.tables

  abbrev own : Tables
  own = of_warehouse number load.tables

  unique-orders : AreUnique (map order_key all_rows.orders)
  unique-orders =
      unique-by_place order_key (λ row. is_order row.warehouse row.district row.id)
      (λ row other equal. passes-three other.warehouse other.district other.id row.warehouse row.district row.id
      (ap (λ (key : ℕ × ℕ × ℕ). key.0) equal) (ap (λ (key : ℕ × ℕ × ℕ). key.1) equal) (ap (λ (key : ℕ × ℕ × ℕ). key.2)
      equal))
      all_rows.orders (λ place. IfSome_then (slice_get all_rows.orders place) {P = IsOrderAt all_rows.districts
      all_rows.customers all_rows.orders place}
      {Q = λ row. list_any (is_order row.warehouse row.district row.id) (take place all_rows.orders) ≡ false}
      (is_load.orders.each place) (λ row right. right.1))

  unique-new_orders : AreUnique (map new_order_key all_rows.new_orders)
  unique-new_orders =
      unique-by_place new_order_key (λ row. is_new_order row.warehouse row.district row.order)
      (λ row other equal. passes-three other.warehouse other.district other.order row.warehouse row.district row.order
      (ap (λ (key : ℕ × ℕ × ℕ). key.0) equal) (ap (λ (key : ℕ × ℕ × ℕ). key.1) equal) (ap (λ (key : ℕ × ℕ × ℕ). key.2)
      equal))
      all_rows.new_orders (λ place. IfSome_then (slice_get all_rows.new_orders place) {P = IsNewOrderAt
      all_rows.orders all_rows.new_orders place}
      {Q = λ row. list_any (is_new_order row.warehouse row.district row.order) (take place all_rows.new_orders) ≡ false}
      (is_load.new_orders.each place) (λ row right. right.1))

  unique-lines : AreUnique (map line_key all_rows.order_lines)
  unique-lines =
      unique-by_place line_key (λ row. is_line row.warehouse row.district row.order row.number)
      (λ row other equal.
      let three = passes-three other.warehouse other.district other.order row.warehouse row.district row.order
      (ap (λ (key : ℕ × ℕ × ℕ × ℕ). key.0) equal) (ap (λ (key : ℕ × ℕ × ℕ × ℕ). key.1) equal)
      (ap (λ (key : ℕ × ℕ × ℕ × ℕ). key.2) equal) in
      let last = eq-eqb other.number row.number (ap (λ (key : ℕ × ℕ × ℕ × ℕ). key.3) equal) in
      rw (three, last) refl)
      all_rows.order_lines (λ place. IfSome_then (slice_get all_rows.order_lines place)
      {P = IsOrderLineAt all_rows.warehouses load.items all_rows.orders all_rows.order_lines place}
      {Q = λ row. list_any (is_line row.warehouse row.district row.order row.number) (take place all_rows.order_lines)
      ≡ false}
      (is_load.order_lines.each place) (λ row right. right.1))

  -- what the rules of a load say of each row of ORDER, NEW-ORDER and ORDER-LINE
  abbrev OrderFits : Order → Type 0
  OrderFits row =
      IsBetween 1 10 row.district × (0 < row.id)
      × (list_any (is_customer row.warehouse row.district row.customer) all_rows.customers ≡ true)

  orders-fit : All OrderFits all_rows.orders
  orders-fit = all-by_place OrderFits all_rows.orders (λ place. IfSome_then (slice_get all_rows.orders place)
      {P = IsOrderAt all_rows.districts all_rows.customers all_rows.orders place} {Q = OrderFits} (is_load.orders.each
      place)
      (λ row right.
      let ranges = allowed-at (columns_of tables.Order) (order_values row) right.0 in
      let ends = bounds 1 1_000_000_000 row.id (ranges 0) in
      (ranges 1, omega (arith, ends.0), right.3)))

  new_orders-fit : All (HasOrder all_rows.orders) all_rows.new_orders
  new_orders-fit = all-by_place (HasOrder all_rows.orders) all_rows.new_orders (λ place. IfSome_then (slice_get
      all_rows.new_orders place)
      {P = IsNewOrderAt all_rows.orders all_rows.new_orders place} {Q = HasOrder all_rows.orders}
      (is_load.new_orders.each place)
      (λ row right. right.2))

  lines-fit : All (HasOrderAndItem load.items all_rows.orders) all_rows.order_lines
  lines-fit = all-by_place (HasOrderAndItem load.items all_rows.orders) all_rows.order_lines (λ place. IfSome_then
      (slice_get
      all_rows.order_lines place)
      {P = IsOrderLineAt all_rows.warehouses load.items all_rows.orders all_rows.order_lines place} {Q =
      HasOrderAndItem load.items all_rows.orders}
      (is_load.order_lines.each place) (λ row right. (right.2, right.3)))

  -- an order of the warehouse is there among its own
  own-there : (w d n : ℕ) → (w == number) ≡ true → list_any (is_order w d n) all_rows.orders ≡ true
      → list_any (is_order w d n) own.orders ≡ true
  own-there w d n home there =
      any-filter-same (is_order w d n) (λ order. order.warehouse == number)
      (λ order other. grind (arith, nat_tests, other, home)) all_rows.orders ∙ there

  orders-load : HasOwnOrders load.items number own
  orders-load = record {
    unique_orders =
        unique-filter order_key order_key (λ row. row.warehouse == number) (λ one two kept also equal. equal)
        all_rows.orders
        unique-orders;
    unique_new_orders =
        unique-filter new_order_key new_order_key (λ row. row.warehouse == number) (λ one two kept also equal. equal)
        all_rows.new_orders unique-new_orders;
    unique_lines =
        unique-filter line_key line_key (λ row. row.warehouse == number) (λ one two kept also equal. equal)
        all_rows.order_lines unique-lines;
    next_orders =
        All-filter (λ row. row.warehouse == number) (λ (row : District). 0 < row.next_order) all_rows.districts
        (all-by_place (λ (row : District). 0 < row.next_order) all_rows.districts (λ place. IfSome_then (slice_get
        all_rows.districts place)
        {P = IsDistrictAt (length all_rows.warehouses) place} {Q = λ row. 0 < row.next_order} (is_load.districts.each
        place)
        (λ row right.
        let ranges = allowed-at (columns_of tables.District) (district_values row) right.0 in
        omega (arith, (bounds 1 1_000_000_000 row.next_order (ranges 5)).0))));
    orders =
        All-passing_also (λ row. row.warehouse == number) OrderFits (IsOwnOrder number own.customers) all_rows.orders
        (λ row fits home. record {
          warehouse = eqb-true row.warehouse number home;
          district = fits.0;
          positive = fits.1;
          customer =
              any-filter-same (is_customer row.warehouse row.district row.customer) (λ customer. customer.warehouse ==
              number)
              (λ customer other. grind (arith, nat_tests, other, home)) all_rows.customers ∙ fits.2;
        }) orders-fit;
    new_orders =
        All-passing_also (λ row. row.warehouse == number) (HasOrder all_rows.orders) (HasOrder own.orders)
        all_rows.new_orders
        (λ row there home. own-there row.warehouse row.district row.order home there) new_orders-fit;
    order_lines =
        All-passing_also (λ row. row.warehouse == number) (HasOrderAndItem load.items all_rows.orders)
        (HasOrderAndItem load.items own.orders) all_rows.order_lines
        (λ row there home. (own-there row.warehouse row.district row.order home there.0, there.1)) lines-fit;
  }

  -- the stock
  abbrev item_count : ℕ
  item_count = length load.items

  unique-stock : AreUnique (map stock_key all_rows.stock)
  unique-stock =
      unique-ranked stock_key (λ row. item_count * row.warehouse + row.item)
      (λ row other same. ap (λ (key : ℕ × ℕ). item_count * key.0 + key.1) same) (item_count + 1) all_rows.stock
      (λ place. IfSome_then (slice_get all_rows.stock place) {P = IsStockAt (length all_rows.warehouses) item_count
      place}
      {Q = λ row. item_count * row.warehouse + row.item ≡ item_count + 1 + place} (is_load.stock.each place)
      (λ row right.
      let warehouse : item_count * row.warehouse ≡ item_count * (place / item_count + 1) = ap (λ w. item_count * w)
      right.1 in
      omega (arith, warehouse, right.2, div-add-mod place item_count)))

  in-stock : IsBetween 1 (length all_rows.warehouses) number
      → All (λ item. list_any (is_stock number item.id) own.stock ≡ true) load.items
  in-stock between =
      all-by_place (λ item. list_any (is_stock number item.id) own.stock ≡ true) load.items
      (λ place. at-place (IsItemAt place) (λ item. list_any (is_stock number item.id) own.stock ≡ true)
      (slice_get load.items place)
      (λ item is right.
      let k : ℕ = place in
      let within : place < item_count = slice_get_within load.items place item is in
      let ends = bounds 1 (length all_rows.warehouses) number between in
      let before : ℕ = number - 1 in
      let is_number : number ≡ before + 1 = omega (arith, ends.0) in
      let at : ℕ = before * item_count + place in
      let room : item_count * number ≤ item_count * length all_rows.warehouses = mul-le-mul_left item_count ends.1 in
      let product : item_count * number ≡ item_count * (before + 1) = ap (λ n. item_count * n) is_number in
      let there : at < length all_rows.stock = omega (arith, room, product, within, is_load.stock.whole) in
      let row : Stock = get_or all_rows.stock at (stock_of []) in
      let found : slice_get all_rows.stock at ≡ Some row = slice_get-get_or all_rows.stock at (stock_of []) there in
      let holds : IsStockAt (length all_rows.warehouses) item_count at row =
      subst (λ one. IfSome one (IsStockAt (length all_rows.warehouses) item_count at)) found (is_load.stock.each at) in
      let warehouse : row.warehouse ≡ number = holds.1 ∙ ap (λ n. n + 1) (div-mul-add before item_count place within)
      ∙ sym
      is_number in
      let same_item : row.item ≡ item.id = holds.2 ∙ ap (λ n. n + 1) (mod-mul-add before item_count place within) ∙
      sym right.1
      in
      let passes : is_stock number item.id row ≡ true = rw (
        eq-eqb row.warehouse number warehouse,
        eq-eqb row.item
            item.id same_item,
      ) refl in
      any-filter-same (is_stock number item.id) (λ row. row.warehouse == number)
      (λ row other. grind (arith, nat_tests, other)) all_rows.stock
      ∙ list_any_at (is_stock number item.id) all_rows.stock at (stock_of []) there passes)
      (is_load.items.each place))

  -- the rows of each warehouse of a load are sound
  pub sound-load : IsBetween 1 (length load.tables.warehouses) number → IsSoundWarehouse load.items number own
  sound-load between = record {
    rows = IsOneWarehouse-load load number is_load between;
    orders = orders-load;
    numbers = behind-orders own orders-load.next_orders (own-meets number all_rows (meets-facts all_rows
        (own-conditions all_rows
        is_load.conditions)));
    stock = record {
      unique =
          unique-filter stock_key stock_key (λ row. row.warehouse == number) (λ one two kept also equal. equal)
          all_rows.stock unique-stock;
      each = in-stock between;
    };
    conditions = meets-tests own (own-meets number all_rows (meets-facts all_rows (own-conditions all_rows
        is_load.conditions)));
  }
