-- A purchase keeps the rows of a warehouse sound.
use Rattle.std.proofs.Common.{◌≡◌, ◌≢◌, ℕ, suc, ◌+◌, ◌<◌, ◌==◌, ◌&&◌, ◌||◌, Bool, true, false, cond, not, List, [], ◌∷◌, ◌++◌, map, filter, length, Some, refl, sym, ap, ap₂, subst, ◌∙◌, arith, length-append}
use Rattle.std.specs.Prelude.{All, fold, unwrap_or}
use Rattle.std.specs.List.{find, flat_map, list_all, list_any, sum}
use Rattle.std.proofs.lemmas.Bool.{and_parts, both_ways, eqb-true, false_from_ne_true, or_left, or_right}
use Rattle.std.proofs.lemmas.Bool.Decides.{nat_tests}
use Rattle.std.proofs.lemmas.List.{append-nil}
use Rattle.std.proofs.lemmas.List.Elements.{All-append, All-cons, All-filter, All-map, All-nil, All-push, All-weaker, filter-append}
use Rattle.std.proofs.lemmas.List.Folds.{list_any-append}
use Rattle.std.proofs.lemmas.List.Kept.{AllPairs-cons}
use Rattle.std.proofs.lemmas.List.Sums.{sum_by_push}
use Rattle.hy_rows.specs.Finding.{is_customer, is_district}
use Rattle.hy_rows.specs.Rows.{district_of}
use Rattle.hy_rows.specs.Tables.{Tables}
use Rattle.hy_rows.specs.declared.customer.Customer.{Customer}
use Rattle.hy_rows.specs.declared.district.District.{District}
use Rattle.hy_rows.specs.declared.item.Item.{Item}
use Rattle.hy_rows.specs.declared.new_order.NewOrder.{NewOrder}
use Rattle.hy_rows.specs.declared.order.Order.{Order}
use Rattle.hy_rows.specs.declared.order_line.OrderLine.{OrderLine}
use Rattle.hy_rows.specs.declared.stock.Stock.{Stock}
use Rattle.hy_schema.specs.Conditions.{column_sum, delivered_amount, new_order_numbers, order_numbers}
use Rattle.hy_schema.specs.Keys.{AreUnique, HasUniqueKeys, IsOneWarehouse, district_key}
use Rattle.hy_schema.specs.Related.{is_delivered, is_line_of, is_new_order_of, is_order, is_order_by, is_undelivered, lines_of, lines_of_district, orders_by, orders_of}
use Rattle.hy_schema.proofs.ChangedLists.{All-with_changed, map-with_changed}
use Rattle.hy_schema.proofs.KeyLaws.{HasUniqueKeys-one_warehouse}
use Rattle.hy_commands.specs.declared.command.Purchase.{Purchase}
use Rattle.hy_commands.specs.declared.command.PurchaseLine.{PurchaseLine}
use Rattle.hy_commands.specs.Invariant.{HasOrder, HasOrderAndItem, HasOwnOrders, IsOwnOrder, IsSoundWarehouse, line_key, new_order_key, order_key, stock_key}
use Rattle.hy_commands.specs.NewOrders.{has_item, is_stock, sold, sold_line, line_row, line_rows, new_order_row, order_number, order_row, ordered, supplied, with_next_order}
use Rattle.hy_commands.proofs.AcceptedLaws.{IsAcceptedPurchase}
use Rattle.hy_commands.proofs.KeptByPayment.{own-district}
use Rattle.hy_commands.proofs.ListLaws.{All-changed_once, All-find, All-map_filter, All-of_both, any-none, column_sum-by_values, filter-all, filter-none, find-passes, list_any-with_changed, flat_map-append, flat_map-same_on, map-append, map-filter-push, map-filter-with_changed, unique-append, unique-push}
use Rattle.hy_commands.proofs.MeetsLaws.{CarriedOrNew, CountsDistrict, CountsLines, DeliveredWithLines, IsBalanced, Meets, NumbersInRow, PaidInDistrict, SumsDistricts, behind-orders, meets-facts, meets-tests}
use Rattle.hy_commands.proofs.NumberLaws.{AreInRow, in_row-below, in_row-push}
use Rattle.hy_commands.proofs.OnceLaws.{once-district, passes-three, tells-three, tells-two}

-- ---- the rows of the lines

module _ (items : List Item) (order : Purchase) (number : ℕ) where
  -- what holds of the row of each line
  all-lines : (P : OrderLine → Type 0) → ((place : ℕ) (line : PurchaseLine) → P (line_row items order number place
      line))
      → (place : ℕ) (lines : List PurchaseLine) → All P (line_rows items order number place lines)
  all-lines P each place [] = All-nil P
  all-lines P each place (line ∷ lines) =
      All-cons P (line_row items order number place line) (line_rows items order number (place + 1) lines)
      (each place line) (all-lines P each (place + 1) lines)

  length-lines : (place : ℕ) (lines : List PurchaseLine) → length (line_rows items order number place lines) ≡ length
      lines
  length-lines place [] = refl
  length-lines place (line ∷ lines) = ap suc (length-lines (place + 1) lines)

  -- their numbers rise, so that their keys differ
  numbers-above : (low place : ℕ) (lines : List PurchaseLine) → low < place
      → All (λ key. (order.warehouse, order.district, number, low) ≢ key) (map line_key (line_rows items order number
      place lines))
  numbers-above low place [] below = All-nil (λ key. (order.warehouse, order.district, number, low) ≢ key)
  numbers-above low place (line ∷ lines) below =
      All-cons (λ key. (order.warehouse, order.district, number, low) ≢ key) (
        order.warehouse,
        order.district,
        number,
        place,
      )
      (map line_key (line_rows items order number (place + 1) lines))
      (λ same. let equal : low ≡ place = ap (λ (key : ℕ × ℕ × ℕ × ℕ). key.3) same in omega (arith, equal, below))
      (numbers-above low (place + 1) lines (omega (arith, below)))

  unique-lines : (place : ℕ) (lines : List PurchaseLine) → AreUnique (map line_key (line_rows items order number place
      lines))
  unique-lines place [] = λ i j d before within. absurd (omega arith)
  unique-lines place (line ∷ lines) =
      AllPairs-cons (λ one other. one ≢ other) (order.warehouse, order.district, number, place)
      (map line_key (line_rows items order number (place + 1) lines))
      (numbers-above place (place + 1) lines (omega arith)) (unique-lines (place + 1) lines)

  -- their items are there
  items-there : (orders : List Order) → list_any (is_order order.warehouse order.district number) orders ≡ true
      → (place : ℕ) (lines : List PurchaseLine) → list_all (has_item items) lines ≡ true
      → All (HasOrderAndItem items orders) (line_rows items order number place lines)
  items-there orders there place [] known = All-nil (HasOrderAndItem items orders)
  items-there orders there place (line ∷ lines) known =
      let both = and_parts (has_item items line) (list_all (has_item items) lines) known in
      All-cons (HasOrderAndItem items orders) (line_row items order number place line)
      (line_rows items order number (place + 1) lines) (there, both.0)
      (items-there orders there (place + 1) lines both.1)

-- ---- the stock

-- its keys stay
sold-keys : (supplier : ℕ) (order : Purchase) (lines : List PurchaseLine) (rows : List Stock)
    → map stock_key (fold (sold_line supplier order) rows lines) ≡ map stock_key rows
sold-keys supplier order [] rows = refl
sold-keys supplier order (line ∷ lines) rows =
    sold-keys supplier order lines (sold_line supplier order rows line)
    ∙ map-with_changed stock_key (is_stock supplier line.item) (sold (not (order.warehouse == supplier)) line.quantity)
    (λ row. refl) rows

sold-any : (supplier : ℕ) (order : Purchase) (warehouse item : ℕ) (lines : List PurchaseLine) (rows : List Stock)
    → list_any (is_stock warehouse item) (fold (sold_line supplier order) rows lines) ≡ list_any (is_stock warehouse
    item) rows
sold-any supplier order warehouse item [] rows = refl
sold-any supplier order warehouse item (line ∷ lines) rows =
    sold-any supplier order warehouse item lines (sold_line supplier order rows line)
    ∙ list_any-with_changed (is_stock warehouse item) (is_stock supplier line.item)
    (sold (not (order.warehouse == supplier)) line.quantity) (λ row. refl) rows

-- what a warehouse supplies keeps it sound, whoever orders it
pub sound-supplied : (items : List Item) (number : ℕ) (order : Purchase) (tables : Tables)
    → IsSoundWarehouse items number tables → IsSoundWarehouse items number (supplied number order tables)
sound-supplied items number order tables sound =
    let supplied_lines : List PurchaseLine = filter (λ line. line.supply_warehouse == number) order.lines in
    let after : Tables = supplied number order tables in
    record {
      rows = record {
        warehouse = sound.rows.warehouse;
        districts = sound.rows.districts;
        customers = sound.rows.customers;
        unique = sound.rows.unique;
      };
      orders = record {
        unique_orders = sound.orders.unique_orders;
        unique_new_orders = sound.orders.unique_new_orders;
        unique_lines = sound.orders.unique_lines;
        next_orders = sound.orders.next_orders;
        orders = sound.orders.orders;
        new_orders = sound.orders.new_orders;
        order_lines = sound.orders.order_lines;
      };
      numbers = sound.numbers;
      stock = record {
        unique = subst AreUnique (sym (sold-keys number order supplied_lines tables.stock)) sound.stock.unique;
        each =
            All-weaker (λ item. list_any (is_stock number item.id) tables.stock ≡ true)
            (λ item. list_any (is_stock number item.id) after.stock ≡ true)
            (λ item there. sold-any number order number item.id supplied_lines tables.stock ∙ there) items
            sound.stock.each;
      };
      conditions = record {
        condition_1 = sound.conditions.condition_1;
        condition_2 = sound.conditions.condition_2;
        condition_3 = sound.conditions.condition_3;
        condition_4 = sound.conditions.condition_4;
        condition_5 = sound.conditions.condition_5;
        condition_6 = sound.conditions.condition_6;
        condition_7 = sound.conditions.condition_7;
        condition_8 = sound.conditions.condition_8;
        condition_9 = sound.conditions.condition_9;
        condition_12 = sound.conditions.condition_12;
      };
    }

-- the district of an order that a warehouse has, and its number
abbrev In : ℕ → ℕ → Order → Bool
In warehouse district row = (row.warehouse == warehouse) && (row.district == district)

-- where a district is there, all its orders have numbers below its next one
pub orders-below : (items : List Item) (number warehouse district : ℕ) (tables : Tables) (row : District)
    → IsSoundWarehouse items number tables → find (is_district warehouse district) tables.districts ≡ Some row
    → (0 < row.next_order)
    × All (λ order. In warehouse district order ≡ true → order.id < row.next_order) tables.orders
orders-below items number warehouse district tables row sound found =
    let meets : Meets tables = meets-facts tables sound.conditions in
    let some = All-find (λ (row : District). 0 < row.next_order) (is_district warehouse district) tables.districts row
    sound.orders.next_orders found in
    let in_row = All-find (NumbersInRow tables.orders tables.new_orders) (is_district warehouse district)
    tables.districts row
    meets.numbers found in
    let is = tells-two row.warehouse row.id warehouse district
    (find-passes (is_district warehouse district) tables.districts row found) in
    let below = in_row-below row.next_order (order_numbers tables.orders row) (new_order_numbers tables.new_orders
    row) some in_row in
    let each = All-map_filter (λ id. id < row.next_order) (λ (order : Order). order.id) (In row.warehouse row.id)
    tables.orders below in (
      some,
      subst (λ d. All (λ order. In warehouse d order ≡ true → order.id < row.next_order) tables.orders) is.1
          (subst (λ w. All (λ order. In w row.id order ≡ true → order.id < row.next_order) tables.orders) is.0 each),
    )

-- ---- a purchase

module _ (items : List Item) (number : ℕ) (order : Purchase) (tables : Tables) (accepted : IsAcceptedPurchase number order) (buyer : list_any (is_customer order.warehouse order.district order.customer) tables.customers ≡ true) (known : list_all (has_item items) order.lines ≡ true) (sound : IsSoundWarehouse items number tables) where
  abbrev after : Tables
  after = ordered items order tables

  abbrev w : ℕ
  w = order.warehouse

  abbrev d : ℕ
  d = order.district

  abbrev n : ℕ
  n = order_number order tables

  found : (row : District) × (find (is_district w d) tables.districts ≡ Some row)
  found =
      subst (λ home. (row : District) × (find (is_district home d) tables.districts ≡ Some row)) (sym accepted.home)
      (own-district number d tables sound.rows accepted.district)

  number-is : (row : District) → find (is_district w d) tables.districts ≡ Some row → n ≡ row.next_order
  number-is row finds = ap (λ one. (unwrap_or one (district_of [])).next_order) finds

  below : (0 < n) × All (λ row. In w d row ≡ true → row.id < n) tables.orders
  below =
      subst (λ next. (0 < next) × All (λ row. In w d row ≡ true → row.id < next) tables.orders)
      (sym (number-is found.0 found.1)) (orders-below items number w d tables found.0 sound found.1)

  -- no order has the number, and so no undelivered order and no line
  new-order : All (λ row. is_order w d n row ≡ false) tables.orders
  new-order =
      All-weaker (λ row. In w d row ≡ true → row.id < n) (λ row. is_order w d n row ≡ false)
      (λ row under. false_from_ne_true (is_order w d n row)
      (λ passes. let both = and_parts (In w d row) (row.id == n) passes in
      let same = eqb-true row.id n both.1 in
      omega (arith, same, under both.0))) tables.orders below.1

  no-order : list_any (is_order w d n) tables.orders ≡ false
  no-order = any-none (is_order w d n) tables.orders new-order

  other-key : (a b c : ℕ) → list_any (is_order a b c) tables.orders ≡ true
      → ((a == w) && (b == d) && (c == n)) ≡ false
  other-key a b c there = false_from_ne_true ((a == w) && (b == d) && (c == n)) (λ passes.
      let same = tells-three a b c w d n passes in
      let here = rw (same.0, same.1, same.2) at there in
      both_ways (list_any (is_order w d n) tables.orders) no-order here)

  new-new_order : All (λ row. ((row.warehouse == w) && (row.district == d) && (row.order == n)) ≡ false)
      tables.new_orders
  new-new_order =
      All-weaker (HasOrder tables.orders) (λ row. ((row.warehouse == w) && (row.district == d) && (row.order == n)) ≡
      false)
      (λ row there. other-key row.warehouse row.district row.order there) tables.new_orders sound.orders.new_orders

  new-line : All (λ row. ((row.warehouse == w) && (row.district == d) && (row.order == n)) ≡ false) tables.order_lines
  new-line =
      All-weaker (HasOrderAndItem items tables.orders)
      (λ row. ((row.warehouse == w) && (row.district == d) && (row.order == n)) ≡ false)
      (λ row there. other-key row.warehouse row.district row.order there.0) tables.order_lines sound.orders.order_lines

  abbrev placed : Order
  placed = order_row order n

  abbrev waiting : NewOrder
  waiting = new_order_row order n

  abbrev added_lines : List OrderLine
  added_lines = line_rows items order n 1 order.lines

  -- the order itself is there, behind the others
  itself : list_any (is_order w d n) (placed ∷ []) ≡ true
  itself = or_left (is_order w d n placed) false (passes-three w d n w d n refl refl refl)

  there-behind : (a b c : ℕ) → list_any (is_order a b c) tables.orders ≡ true
      → list_any (is_order a b c) after.orders ≡ true
  there-behind a b c there =
      list_any-append (is_order a b c) tables.orders (placed ∷ [])
      ∙ or_left (list_any (is_order a b c) tables.orders) (list_any (is_order a b c) (placed ∷ [])) there

  there-itself : list_any (is_order w d n) after.orders ≡ true
  there-itself =
      list_any-append (is_order w d n) tables.orders (placed ∷ [])
      ∙ or_right (list_any (is_order w d n) tables.orders) (list_any (is_order w d n) (placed ∷ [])) itself

  ordered-rows : IsOneWarehouse number after
  ordered-rows = record {
    warehouse = sound.rows.warehouse;
    districts =
        map-with_changed district_key (is_district w d) with_next_order (λ row. refl) tables.districts
        ∙ sound.rows.districts;
    customers = sound.rows.customers;
    unique = sound.rows.unique;
  }

  unique : HasUniqueKeys tables
  unique = HasUniqueKeys-one_warehouse number tables sound.rows

  ordered-orders : HasOwnOrders items number after
  ordered-orders = record {
    unique_orders =
        subst AreUnique (sym (map-append order_key tables.orders (placed ∷ [])))
        (unique-push (map order_key tables.orders) (w, d, n) sound.orders.unique_orders
        (All-map (λ key. key ≢ (w, d, n)) order_key tables.orders
        (All-weaker (λ row. is_order w d n row ≡ false) (λ row. order_key row ≢ (w, d, n))
        (λ row other same. differ row.warehouse row.district row.id other same) tables.orders new-order)));
    unique_new_orders =
        subst AreUnique (sym (map-append new_order_key tables.new_orders (waiting ∷ [])))
        (unique-push (map new_order_key tables.new_orders) (w, d, n) sound.orders.unique_new_orders
        (All-map (λ key. key ≢ (w, d, n)) new_order_key tables.new_orders
        (All-weaker (λ row. ((row.warehouse == w) && (row.district == d) && (row.order == n)) ≡ false)
        (λ row. new_order_key row ≢ (w, d, n))
        (λ row other same. differ row.warehouse row.district row.order other same) tables.new_orders new-new_order)));
    unique_lines =
        subst AreUnique (sym (map-append line_key tables.order_lines added_lines))
        (unique-append (map line_key tables.order_lines) (map line_key added_lines) sound.orders.unique_lines
        (unique-lines items order n 1 order.lines)
        (All-map (λ key. All (λ other. key ≢ other) (map line_key added_lines)) line_key tables.order_lines
        (All-weaker (λ row. ((row.warehouse == w) && (row.district == d) && (row.order == n)) ≡ false)
        (λ row. All (λ other. line_key row ≢ other) (map line_key added_lines))
        (λ row other. All-map (λ key. line_key row ≢ key) line_key added_lines
        (all-lines items order n (λ line. line_key row ≢ line_key line)
        (λ place line same. differ_line row.warehouse row.district row.order row.number place other same) 1
        order.lines))
        tables.order_lines new-line)));
    next_orders =
        All-with_changed (λ (row : District). 0 < row.next_order) (is_district w d) with_next_order
        (λ row some. omega arith) tables.districts sound.orders.next_orders;
    orders =
        All-push (IsOwnOrder number tables.customers) tables.orders placed sound.orders.orders record {
          warehouse = accepted.home;
          district = accepted.district;
          positive = below.0;
          customer = buyer;
        };
    new_orders =
        All-push (HasOrder after.orders) tables.new_orders waiting
        (All-weaker (HasOrder tables.orders) (HasOrder after.orders)
        (λ row there. there-behind row.warehouse row.district row.order there) tables.new_orders
        sound.orders.new_orders)
        there-itself;
    order_lines =
        All-append (HasOrderAndItem items after.orders) tables.order_lines added_lines
        (All-weaker (HasOrderAndItem items tables.orders) (HasOrderAndItem items after.orders)
        (λ row there. (there-behind row.warehouse row.district row.order there.0, there.1)) tables.order_lines
        sound.orders.order_lines)
        (items-there items order n after.orders there-itself 1 order.lines known);
  }
    where
      differ : (a b c : ℕ) → ((a == w) && (b == d) && (c == n)) ≡ false
          → ◌≡◌ {A = ℕ × ℕ × ℕ} (a, b, c) (w, d, n) → ⊥
      differ a b c other same =
          both_ways ((a == w) && (b == d) && (c == n)) other
          (passes-three a b c w d n (ap (λ (key : ℕ × ℕ × ℕ). key.0) same) (ap (λ (key : ℕ × ℕ × ℕ). key.1) same)
          (ap (λ (key : ℕ × ℕ × ℕ). key.2) same))

      differ_line : (a b c place other : ℕ) → ((a == w) && (b == d) && (c == n)) ≡ false
          → ◌≡◌ {A = ℕ × ℕ × ℕ × ℕ} (a, b, c, place) (w, d, n, other) → ⊥
      differ_line a b c place other apart same =
          both_ways ((a == w) && (b == d) && (c == n)) apart
          (passes-three a b c w d n (ap (λ (key : ℕ × ℕ × ℕ × ℕ). key.0) same) (ap (λ (key : ℕ × ℕ × ℕ × ℕ). key.1)
          same)
          (ap (λ (key : ℕ × ℕ × ℕ × ℕ). key.2) same))

  -- the lines of the other orders, and those of the order
  old-lines : (row : Order) → is_order w d n row ≡ false → lines_of row after.order_lines ≡ lines_of row
      tables.order_lines
  old-lines row other =
      filter-append (is_line_of row) tables.order_lines added_lines
      ∙ ap (λ rest. lines_of row tables.order_lines ++ rest)
      (filter-none (is_line_of row) added_lines
      (all-lines items order n (λ line. is_line_of row line ≡ false)
      (λ place line. grind (arith, nat_tests, other)) 1 order.lines))
      ∙ append-nil (lines_of row tables.order_lines)

  own-lines : lines_of placed after.order_lines ≡ added_lines
  own-lines =
      filter-append (is_line_of placed) tables.order_lines added_lines
      ∙ ap (λ rest. rest ++ lines_of placed added_lines) (filter-none (is_line_of placed) tables.order_lines new-line)
      ∙ filter-all (is_line_of placed) added_lines
      (all-lines items order n (λ line. is_line_of placed line ≡ true)
      (λ place line. passes-three w d n w d n refl refl refl) 1 order.lines)

  -- what the orders of a district count, with one more
  district-lines : (row : District) → CountsDistrict tables.orders tables.order_lines row
      → CountsDistrict after.orders after.order_lines row
  district-lines row counts =
      let In_row : Order → Bool = In row.warehouse row.id in
      let orders = map-filter-push (λ (order : Order). order.line_count) (In row.warehouse row.id) tables.orders
      placed in
      let lines = filter-append (λ (line : OrderLine). (line.warehouse == row.warehouse) && (line.district == row.id))
      tables.order_lines added_lines in
      elim ((w == row.warehouse) && (d == row.id)) as (λ b. ((w == row.warehouse) && (d == row.id)) ≡ b
      → CountsDistrict after.orders after.order_lines row) [
        | true ↦ λ own.
            let all = filter-all (λ (line : OrderLine). (line.warehouse == row.warehouse) && (line.district ==
            row.id)) added_lines
            (all-lines items order n (λ line. ((line.warehouse == row.warehouse) && (line.district == row.id)) ≡ true)
            (λ place line. own) 1 order.lines) in
            ap sum (orders ∙ ap (λ b. map (λ (order : Order). order.line_count) (orders_of row.warehouse row.id
            tables.orders)
            ++ cond b (length order.lines ∷ []) []) own)
            ∙ sum_by_push (λ k. k) (map (λ (order : Order). order.line_count) (orders_of row.warehouse row.id
            tables.orders))
            (length order.lines)
            ∙ ap₂ (λ a b. a + b) counts (sym (length-lines items order n 1 order.lines))
            ∙ sym (length-append (lines_of_district row.warehouse row.id tables.order_lines) added_lines)
            ∙ sym (ap length (lines ∙ ap (λ rest. lines_of_district row.warehouse row.id tables.order_lines ++ rest)
            all))
        | false ↦ λ other.
            let none = filter-none (λ (line : OrderLine). (line.warehouse == row.warehouse) && (line.district ==
            row.id)) added_lines
            (all-lines items order n (λ line. ((line.warehouse == row.warehouse) && (line.district == row.id)) ≡ false)
            (λ place line. other) 1 order.lines) in
            ap sum (orders ∙ ap (λ b. map (λ (order : Order). order.line_count) (orders_of row.warehouse row.id
            tables.orders)
            ++ cond b (length order.lines ∷ []) []) other
            ∙ append-nil (map (λ (order : Order). order.line_count) (orders_of row.warehouse row.id tables.orders)))
            ∙ counts
            ∙ sym (ap length (lines ∙ ap (λ rest. lines_of_district row.warehouse row.id tables.order_lines ++ rest)
            none
            ∙ append-nil (lines_of_district row.warehouse row.id tables.order_lines)))
      ] refl

  -- the numbers of a district, with one more or without
  numbers-more : (row : District) → ((w == row.warehouse) && (d == row.id)) ≡ true → n ≡ row.next_order
      → 0 < row.next_order → NumbersInRow tables.orders tables.new_orders row
      → NumbersInRow after.orders after.new_orders (with_next_order row)
  numbers-more row own is some in_row =
      let numbers_so_far : List ℕ = order_numbers tables.orders row in
      let news_so_far : List ℕ = new_order_numbers tables.new_orders row in
      let orders : order_numbers after.orders row ≡ numbers_so_far ++ row.next_order ∷ [] =
      map-filter-push (λ (order : Order). order.id) (In row.warehouse row.id) tables.orders placed
      ∙ ap (λ b. numbers_so_far ++ cond b (n ∷ []) []) own ∙ ap (λ k. numbers_so_far ++ k ∷ []) is in
      let news : new_order_numbers after.new_orders row ≡ news_so_far ++ row.next_order ∷ [] =
      map-filter-push (λ (new : NewOrder). new.order) (λ new. (new.warehouse == row.warehouse) && (new.district ==
      row.id))
      tables.new_orders waiting ∙ ap (λ b. news_so_far ++ cond b (n ∷ []) []) own ∙ ap (λ k. news_so_far ++ k ∷ []) is
      in
      subst (λ numbers. AreInRow (row.next_order + 1) numbers (new_order_numbers after.new_orders row)) (sym orders)
      (subst (λ numbers. AreInRow (row.next_order + 1) (numbers_so_far ++ row.next_order ∷ []) numbers) (sym news)
      (in_row-push row.next_order numbers_so_far news_so_far some in_row))

  numbers-same : (row : District) → ((w == row.warehouse) && (d == row.id)) ≡ false
      → NumbersInRow tables.orders tables.new_orders row → NumbersInRow after.orders after.new_orders row
  numbers-same row other in_row =
      let numbers_so_far : List ℕ = order_numbers tables.orders row in
      let news_so_far : List ℕ = new_order_numbers tables.new_orders row in
      let orders : order_numbers after.orders row ≡ numbers_so_far =
      map-filter-push (λ (order : Order). order.id) (In row.warehouse row.id) tables.orders placed
      ∙ ap (λ b. numbers_so_far ++ cond b (n ∷ []) []) other ∙ append-nil numbers_so_far in
      let news : new_order_numbers after.new_orders row ≡ news_so_far =
      map-filter-push (λ (new : NewOrder). new.order) (λ new. (new.warehouse == row.warehouse) && (new.district ==
      row.id))
      tables.new_orders waiting ∙ ap (λ b. news_so_far ++ cond b (n ∷ []) []) other ∙ append-nil news_so_far in
      subst (λ numbers. AreInRow row.next_order numbers (new_order_numbers after.new_orders row)) (sym orders)
      (subst (λ numbers. AreInRow row.next_order numbers_so_far numbers) (sym news) in_row)

  -- what was delivered to a customer stays
  delivered-same : (customer : Customer)
      → delivered_amount after.orders after.order_lines customer ≡ delivered_amount tables.orders tables.order_lines
      customer
  delivered-same customer =
      let Old : List OrderLine = flat_map (λ order. lines_of order tables.order_lines) (orders_by customer
      tables.orders) in
      let same : flat_map (λ order. lines_of order after.order_lines) (orders_by customer tables.orders) ≡ Old =
      flat_map-same_on (λ order. lines_of order after.order_lines) (λ order. lines_of order tables.order_lines)
      (orders_by customer tables.orders)
      (All-filter (is_order_by customer) (λ row. lines_of row after.order_lines ≡ lines_of row tables.order_lines)
      tables.orders
      (All-weaker (λ row. is_order w d n row ≡ false) (λ row. lines_of row after.order_lines ≡ lines_of row
      tables.order_lines)
      old-lines tables.orders new-order)) in
      let undelivered : filter is_delivered added_lines ≡ [] =
      filter-none is_delivered added_lines (all-lines items order n (λ line. is_delivered line ≡ false) (λ place line.
      refl) 1
      order.lines) in
      let New : Bool → List OrderLine = λ b. flat_map (λ order. lines_of order after.order_lines) (cond b (placed ∷
      []) [])
      in
      let none : (b : Bool) → filter is_delivered (New b) ≡ [] = λ b. elim b as (λ b. filter is_delivered (New b) ≡
      []) [
        | true ↦ ap (filter is_delivered) (append-nil (lines_of placed after.order_lines) ∙ own-lines) ∙ undelivered
        | false ↦ refl
      ] in
      let own : Bool = is_order_by customer placed in
      ap (column_sum (λ (line : OrderLine). line.amount))
      (ap (λ orders. filter is_delivered (flat_map (λ order. lines_of order after.order_lines) orders))
      (filter-append (is_order_by customer) tables.orders (placed ∷ []))
      ∙ ap (filter is_delivered)
      (flat_map-append (λ order. lines_of order after.order_lines) (orders_by customer tables.orders) (cond own
      (placed ∷
      []) []))
      ∙ filter-append is_delivered (flat_map (λ order. lines_of order after.order_lines) (orders_by customer
      tables.orders)) (New own)
      ∙ ap₂ (λ one other. one ++ other) (ap (filter is_delivered) same) (none own)
      ∙ append-nil (filter is_delivered Old))

  abbrev Numbered : District → Type 0
  Numbered row = NumbersInRow tables.orders tables.new_orders row × (0 < row.next_order)

  ordered-meets : Meets tables → Meets after
  ordered-meets meets = record {
    districts =
        All-weaker (SumsDistricts tables.districts) (SumsDistricts after.districts)
        (λ row sums. sums ∙ sym (column_sum-by_values (λ (row : District). row.ytd) (λ (row : District). row.ytd)
        (filter (λ other. other.warehouse == row.id) after.districts) (filter (λ other. other.warehouse == row.id)
        tables.districts)
        (map-filter-with_changed (λ (row : District). row.ytd) (λ other. other.warehouse == row.id) (is_district w d)
        with_next_order (λ row. refl) (λ row. refl) tables.districts))) tables.warehouses meets.districts;
    numbers =
        All-changed_once Numbered (NumbersInRow after.orders after.new_orders) (is_district w d) with_next_order
        tables.districts (once-district w d tables.districts unique.districts)
        (λ row passes finds both.
        numbers-more row (grind (arith, nat_tests, passes)) (number-is row finds) both.1 both.0)
        (λ row fails both. numbers-same row (grind (arith, nat_tests, fails)) both.0)
        (All-of_both (NumbersInRow tables.orders tables.new_orders) (λ row. 0 < row.next_order) Numbered
        tables.districts
        (λ row in_row some. (in_row, some)) meets.numbers sound.orders.next_orders);
    district_lines =
        All-with_changed (CountsDistrict after.orders after.order_lines) (is_district w d) with_next_order
        (λ row counts. counts) tables.districts
        (All-weaker (CountsDistrict tables.orders tables.order_lines) (CountsDistrict after.orders after.order_lines)
        district-lines tables.districts meets.district_lines);
    carried =
        All-push (CarriedOrNew after.new_orders) tables.orders placed
        (All-of_both (CarriedOrNew tables.new_orders) (λ row. is_order w d n row ≡ false) (CarriedOrNew
        after.new_orders)
        tables.orders
        (λ row is other. is ∙ sym (list_any-append (is_new_order_of row) tables.new_orders (waiting ∷ [])
        ∙ or_none (is_undelivered tables.new_orders row) (is_new_order_of row waiting) (grind (
          arith,
          nat_tests,
          other,
        ))))
        meets.carried new-order)
        (sym (list_any-append (is_new_order_of placed) tables.new_orders (waiting ∷ [])
        ∙ or_right (is_undelivered tables.new_orders placed) (list_any (is_new_order_of placed) (waiting ∷ []))
        (or_left (is_new_order_of placed waiting) false (passes-three w d n w d n refl refl refl))));
    lines =
        All-push (CountsLines after.order_lines) tables.orders placed
        (All-of_both (CountsLines tables.order_lines) (λ row. is_order w d n row ≡ false) (CountsLines
        after.order_lines)
        tables.orders (λ row counts other. counts ∙ sym (ap length (old-lines row other))) meets.lines new-order)
        (sym (ap length own-lines ∙ length-lines items order n 1 order.lines));
    delivered =
        All-push (DeliveredWithLines after.order_lines) tables.orders placed
        (All-of_both (DeliveredWithLines tables.order_lines) (λ row. is_order w d n row ≡ false)
        (DeliveredWithLines after.order_lines) tables.orders
        (λ row all other. subst (All (λ line. (line.delivery_date == 0) ≡ (row.carrier == 0))) (sym (old-lines row
        other)) all)
        meets.delivered new-order)
        (subst (All (λ (line : OrderLine). (line.delivery_date == 0) ≡ true)) (sym own-lines)
        (all-lines items order n (λ line. (line.delivery_date == 0) ≡ true) (λ place line. refl) 1 order.lines));
    paid = meets.paid;
    district_paid =
        All-with_changed (PaidInDistrict tables.history) (is_district w d) with_next_order (λ row sums. sums)
        tables.districts meets.district_paid;
    balances =
        All-weaker (IsBalanced tables.orders tables.order_lines) (IsBalanced after.orders after.order_lines)
        (λ row settled. settled ∙ sym (delivered-same row)) tables.customers meets.balances;
  }
    where
      or_none : (one other : Bool) → other ≡ false → (one || (other || false)) ≡ one
      or_none true other none = refl
      or_none false other none = rw none refl

  pub sound-ordered : IsSoundWarehouse items number after
  sound-ordered = record {
    rows = ordered-rows;
    orders = ordered-orders;
    numbers = behind-orders after ordered-orders.next_orders (ordered-meets (meets-facts tables sound.conditions));
    stock = record { unique = sound.stock.unique; each = sound.stock.each };
    conditions = meets-tests after (ordered-meets (meets-facts tables sound.conditions));
  }

-- both at one warehouse
pub sound-purchase : (items : List Item) (number : ℕ) (order : Purchase) (tables : Tables)
    → IsAcceptedPurchase number order
    → list_any (is_customer order.warehouse order.district order.customer) tables.customers ≡ true
    → list_all (has_item items) order.lines ≡ true → IsSoundWarehouse items number tables
    → IsSoundWarehouse items number (supplied number order (ordered items order tables))
sound-purchase items number order tables accepted buyer known sound =
    sound-supplied items number order (ordered items order tables)
    (sound-ordered items number order tables accepted buyer known sound)
