-- The head and each line of a purchase keep the rows of a warehouse whole.
use Rattle.std.proofs.Common.{◌≡◌, ◌≢◌, ℕ, suc, ◌+◌, ◌<◌, ◌≤◌, ◌==◌, ◌&&◌, Bool, true, false, cond, not, List, [], ◌∷◌, ◌++◌, map, filter, Option, Some, None, refl, sym, ap, subst, ◌∙◌, arith}
use Rattle.std.specs.Prelude.{All, unwrap_or}
use Rattle.std.specs.List.{find, list_any}
use Rattle.std.specs.Option.{option_map}
use Rattle.std.proofs.lemmas.Bool.{and_parts, both_ways, eqb-true, false_from_ne_true, or_left, or_right}
use Rattle.std.proofs.lemmas.Bool.Decides.{nat_tests}
use Rattle.std.proofs.lemmas.List.Elements.{All-append, All-cons, All-map, All-nil, All-push, All-weaker, filter-append}
use Rattle.std.proofs.lemmas.List.Folds.{list_any-append}
use Rattle.hy_rows.specs.Finding.{is_customer, is_district}
use Rattle.hy_rows.specs.Rows.{district_of}
use Rattle.hy_rows.specs.Tables.{Tables}
use Rattle.hy_rows.specs.declared.district.District.{District}
use Rattle.hy_rows.specs.declared.item.Item.{Item}
use Rattle.hy_rows.specs.declared.new_order.NewOrder.{NewOrder}
use Rattle.hy_rows.specs.declared.order.Order.{Order}
use Rattle.hy_rows.specs.declared.order_line.OrderLine.{OrderLine}
use Rattle.hy_schema.specs.Keys.{AreUnique, IsOneWarehouse, district_key}
use Rattle.hy_schema.specs.Related.{is_order, orders_of}
use Rattle.hy_schema.proofs.ChangedLists.{All-with_changed, map-with_changed}
use Rattle.hy_schema.proofs.KeyLaws.{HasUniqueKeys-one_warehouse}
use Rattle.hy_commands.specs.declared.command.Purchase.{Purchase}
use Rattle.hy_commands.specs.declared.command.PurchaseLine.{PurchaseLine}
use Rattle.hy_commands.specs.Invariant.{HasOrder, HasOrderAndItem, HasOwnOrders, HasOwnStock, IsBehindOrders, IsOwnOrder, IsSoundWarehouse, line_key, new_order_key, order_key, stock_key}
use Rattle.hy_commands.specs.NewOrders.{has_item, is_stock, line_row, new_order_row, order_number, order_row, sold, sold_line, with_next_order}
use Rattle.hy_commands.proofs.AcceptedLaws.{IsAcceptedPurchase}
use Rattle.hy_commands.proofs.KeptByPayment.{own-district}
use Rattle.hy_commands.proofs.ListLaws.{All-changed_once, All-find, All-map_filter, any-none, find-any, find-passes, list_any-with_changed, map-append, unique-push}
use Rattle.hy_commands.proofs.OnceLaws.{once-district, passes-three, tells-three, tells-two}
use Rattle.hy_slices.specs.Between.{IsLineBefore, IsWholeWarehouse}
use Rattle.hy_slices.specs.Slices.{headed, headed_number, is_known, lined, with_line}
use Rattle.hy_slices.proofs.SliceLaws.{find-with_changed}

pub whole-sound : (items : List Item) (number : ℕ) (tables : Tables) → IsSoundWarehouse items number tables
    → IsWholeWarehouse items number tables
whole-sound items number tables sound =
    record { rows = sound.rows; orders = sound.orders; numbers = sound.numbers; stock = sound.stock }

-- the rows are whole, the order with the number that the head took is there, and its lines are the first so many at most
pub record IsPlacing (items : List Item) (number : ℕ) (order : Purchase) (taken count : ℕ) (tables : Tables) : Type 0 where
  pub whole : IsWholeWarehouse items number tables
  pub there : list_any (is_order order.warehouse order.district taken) tables.orders ≡ true
  pub lines : All (IsLineBefore order taken count) tables.order_lines

-- whether an order is one of a district
abbrev In : ℕ → ℕ → Order → Bool
In warehouse district row = (row.warehouse == warehouse) && (row.district == district)

-- ---- the head

module _ (items : List Item) (number : ℕ) (order : Purchase) (tables : Tables) (accepted : IsAcceptedPurchase number order) (buyer : list_any (is_customer order.warehouse order.district order.customer) tables.customers ≡ true) (whole : IsWholeWarehouse items number tables) where
  abbrev after : Tables
  after = headed order tables

  abbrev w : ℕ
  w = order.warehouse

  abbrev d : ℕ
  d = order.district

  abbrev n : ℕ
  n = order_number order tables

  abbrev placed : Order
  placed = order_row order n

  abbrev waiting : NewOrder
  waiting = new_order_row order n

  -- the district is there, and its next number is the one that is taken
  pub home-district : (row : District) × (find (is_district w d) tables.districts ≡ Some row)
  home-district =
      subst (λ home. (row : District) × (find (is_district home d) tables.districts ≡ Some row)) (sym accepted.home)
      (own-district number d tables whole.rows accepted.district)

  pub number-is : (row : District) → find (is_district w d) tables.districts ≡ Some row → n ≡ row.next_order
  number-is row finds = ap (λ one. (unwrap_or one (district_of [])).next_order) finds

  pub number-headed_next : order_number order after ≡ n + 1
  number-headed_next =
      let next = find-with_changed (is_district w d) with_next_order (λ row. refl) tables.districts
      ∙ ap (option_map with_next_order) home-district.1 in
      ap (λ one. (unwrap_or one (district_of [])).next_order) next
      ∙ ap (λ k. k + 1) (sym (number-is home-district.0 home-district.1))

  positive : 0 < n
  positive =
      subst (λ next. 0 < next) (sym (number-is home-district.0 home-district.1))
      (All-find (λ (row : District). 0 < row.next_order) (is_district w d) tables.districts home-district.0
      whole.orders.next_orders home-district.1)

  -- the orders of the district have numbers below it
  below : All (λ row. In w d row ≡ true → row.id < n) tables.orders
  below =
      let row : District = home-district.0 in
      let is = tells-two row.warehouse row.id w d (find-passes (is_district w d) tables.districts row home-district.1) in
      let behind : All (λ (order : Order). order.id < row.next_order) (orders_of row.warehouse row.id tables.orders) =
      All-find (IsBehindOrders tables.orders) (is_district w d) tables.districts row whole.numbers home-district.1 in
      let each = All-map_filter (λ id. id < row.next_order) (λ (order : Order). order.id) (In row.warehouse row.id)
      tables.orders
      (All-map (λ id. id < row.next_order) (λ (order : Order). order.id) (orders_of row.warehouse row.id tables.orders)
      behind) in
      subst (λ next. All (λ order. In w d order ≡ true → order.id < next) tables.orders) (sym (number-is row home-district.1))
      (subst (λ v. All (λ order. In w v order ≡ true → order.id < row.next_order) tables.orders) is.1
      (subst (λ v. All (λ order. In v row.id order ≡ true → order.id < row.next_order) tables.orders) is.0 each))

  -- so that no order has it, and no undelivered order and no line either
  new-order : All (λ row. is_order w d n row ≡ false) tables.orders
  new-order =
      All-weaker (λ row. In w d row ≡ true → row.id < n) (λ row. is_order w d n row ≡ false)
      (λ row under. false_from_ne_true (is_order w d n row)
      (λ passes. let both = and_parts (In w d row) (row.id == n) passes in
      let same = eqb-true row.id n both.1 in
      omega (arith, same, under both.0))) tables.orders below

  other-key : (a b c : ℕ) → list_any (is_order a b c) tables.orders ≡ true → a ≡ w → b ≡ d → c ≡ n → ⊥
  other-key a b c there first second third =
      let here = rw (first, second, third) at there in
      both_ways (list_any (is_order w d n) tables.orders) (any-none (is_order w d n) tables.orders new-order) here

  -- the order of a line is one of the warehouse
  no-line : All (λ row. row.district ≡ d → row.order ≡ n → ⊥) tables.order_lines
  no-line =
      All-weaker (HasOrderAndItem items tables.orders) (λ row. row.district ≡ d → row.order ≡ n → ⊥)
      (λ row there second third.
      let one = find-any (is_order row.warehouse row.district row.order) tables.orders there.0 in
      let own = All-find (IsOwnOrder number tables.customers) (is_order row.warehouse row.district row.order)
      tables.orders
      one.0 whole.orders.orders one.1 in
      let is = tells-three (one.0).warehouse (one.0).district (one.0).id row.warehouse row.district row.order
      (find-passes (is_order row.warehouse row.district row.order) tables.orders one.0 one.1) in
      other-key row.warehouse row.district row.order there.0 (sym is.0 ∙ own.warehouse ∙ sym accepted.home) second
      third)
      tables.order_lines whole.orders.order_lines

  -- the order itself is there, behind the others
  there-behind : (a b c : ℕ) → list_any (is_order a b c) tables.orders ≡ true
      → list_any (is_order a b c) after.orders ≡ true
  there-behind a b c there =
      list_any-append (is_order a b c) tables.orders (placed ∷ [])
      ∙ or_left (list_any (is_order a b c) tables.orders) (list_any (is_order a b c) (placed ∷ [])) there

  there-itself : list_any (is_order w d n) after.orders ≡ true
  there-itself =
      list_any-append (is_order w d n) tables.orders (placed ∷ [])
      ∙ or_right (list_any (is_order w d n) tables.orders) (list_any (is_order w d n) (placed ∷ []))
      (or_left (is_order w d n placed) false (passes-three w d n w d n refl refl refl))

  headed-rows : IsOneWarehouse number after
  headed-rows = record {
    warehouse = whole.rows.warehouse;
    districts =
        map-with_changed district_key (is_district w d) with_next_order (λ row. refl) tables.districts
        ∙ whole.rows.districts;
    customers = whole.rows.customers;
    unique = whole.rows.unique;
  }

  headed-orders : HasOwnOrders items number after
  headed-orders = record {
    unique_orders =
        subst AreUnique (sym (map-append order_key tables.orders (placed ∷ [])))
        (unique-push (map order_key tables.orders) (w, d, n) whole.orders.unique_orders
        (All-map (λ key. key ≢ (w, d, n)) order_key tables.orders
        (All-weaker (λ row. is_order w d n row ≡ false) (λ row. order_key row ≢ (w, d, n))
        (λ row other same.
        both_ways (is_order w d n row) other
        (passes-three row.warehouse row.district row.id w d n (ap (λ (key : ℕ × ℕ × ℕ). key.0) same)
        (ap (λ (key : ℕ × ℕ × ℕ). key.1) same) (ap (λ (key : ℕ × ℕ × ℕ). key.2) same)))
        tables.orders new-order)));
    unique_new_orders =
        subst AreUnique (sym (map-append new_order_key tables.new_orders (waiting ∷ [])))
        (unique-push (map new_order_key tables.new_orders) (w, d, n) whole.orders.unique_new_orders
        (All-map (λ key. key ≢ (w, d, n)) new_order_key tables.new_orders
        (All-weaker (HasOrder tables.orders) (λ row. new_order_key row ≢ (w, d, n))
        (λ row there same.
        other-key row.warehouse row.district row.order there (ap (λ (key : ℕ × ℕ × ℕ). key.0) same)
        (ap (λ (key : ℕ × ℕ × ℕ). key.1) same) (ap (λ (key : ℕ × ℕ × ℕ). key.2) same))
        tables.new_orders whole.orders.new_orders)));
    unique_lines = whole.orders.unique_lines;
    next_orders =
        All-with_changed (λ (row : District). 0 < row.next_order) (is_district w d) with_next_order
        (λ row some. omega arith) tables.districts whole.orders.next_orders;
    orders =
        All-push (IsOwnOrder number tables.customers) tables.orders placed whole.orders.orders record {
          warehouse = accepted.home;
          district = accepted.district;
          positive = positive;
          customer = buyer;
        };
    new_orders =
        All-push (HasOrder after.orders) tables.new_orders waiting
        (All-weaker (HasOrder tables.orders) (HasOrder after.orders)
        (λ row there. there-behind row.warehouse row.district row.order there) tables.new_orders
        whole.orders.new_orders)
        there-itself;
    order_lines =
        All-weaker (HasOrderAndItem items tables.orders) (HasOrderAndItem items after.orders)
        (λ row there. (there-behind row.warehouse row.district row.order there.0, there.1)) tables.order_lines
        whole.orders.order_lines;
  }

  -- the orders of a district with one more, or without
  behind-more : (row : District) (next : ℕ) → row.next_order ≤ next
      → (In row.warehouse row.id placed ≡ true → n < next) → IsBehindOrders tables.orders row
      → All (λ order. order.id < next) (orders_of row.warehouse row.id after.orders)
  behind-more row next more own behind =
      subst (All (λ order. order.id < next)) (sym (filter-append (In row.warehouse row.id) tables.orders (placed ∷ [])))
      (All-append (λ order. order.id < next) (orders_of row.warehouse row.id tables.orders)
      (filter (In row.warehouse row.id) (placed ∷ []))
      (All-weaker (λ order. order.id < row.next_order) (λ order. order.id < next)
      (λ order under. omega (arith, more, under)) (orders_of row.warehouse row.id tables.orders) behind)
      (elim (In row.warehouse row.id placed) as (λ b. (b ≡ true → n < next)
      → All (λ order. order.id < next) (cond b (placed ∷ []) [])) [
        | true ↦ λ under. All-cons (λ order. order.id < next) placed [] (under refl) (All-nil (λ order. order.id <
            next))
        | false ↦ λ under. All-nil (λ order. order.id < next)
      ] own))

  headed-numbers : All (IsBehindOrders after.orders) after.districts
  headed-numbers =
      All-changed_once (IsBehindOrders tables.orders) (IsBehindOrders after.orders) (is_district w d) with_next_order
      tables.districts
      (once-district w d tables.districts (HasUniqueKeys-one_warehouse number tables whole.rows).districts)
      (λ row passes finds behind.
      behind-more row (row.next_order + 1) (omega arith) (λ own. omega (arith, number-is row finds)) behind)
      (λ row fails behind.
      behind-more row row.next_order (omega arith)
      (λ own. absurd (both_ways (In row.warehouse row.id placed) (grind (arith, nat_tests, fails)) own)) behind)
      whole.numbers

  pub placing-headed : IsPlacing items number order n 0 after
  placing-headed = record {
    whole = record {
      rows = headed-rows;
      orders = headed-orders;
      numbers = headed-numbers;
      stock = record { unique = whole.stock.unique; each = whole.stock.each };
    };
    there = there-itself;
    lines =
        All-weaker (λ row. row.district ≡ d → row.order ≡ n → ⊥) (IsLineBefore order n 0)
        (λ row none second third. absurd (none second third)) tables.order_lines no-line;
  }

-- ---- a line

module _ (items : List Item) (number : ℕ) (order : Purchase) (taken done : ℕ) (tables : Tables) (placing : IsPlacing items number order taken done tables) where
  module _ (line : PurchaseLine) (known : has_item items line ≡ true) where
    abbrev added : OrderLine
    added = line_row items order taken (done + 1) line

    -- the rows with it, where the warehouse supplies it or another does
    abbrev with_added : Bool → Tables
    with_added own = record tables {
      order_lines = tables.order_lines ++ added ∷ [];
      stock = cond own (sold_line number order tables.stock line) tables.stock;
    }

    lined-stock : (own : Bool) → HasOwnStock items number (with_added own)
    lined-stock true =
        let stock = placing.whole.stock in
        record {
          unique =
              subst AreUnique (sym (map-with_changed stock_key (is_stock number line.item)
              (sold (not (order.warehouse == number)) line.quantity) (λ row. refl) tables.stock)) stock.unique;
          each =
              All-weaker (λ item. list_any (is_stock number item.id) tables.stock ≡ true)
              (λ item. list_any (is_stock number item.id) (sold_line number order tables.stock line) ≡ true)
              (λ item there.
              list_any-with_changed (is_stock number item.id) (is_stock number line.item)
              (sold (not (order.warehouse == number)) line.quantity) (λ row. refl) tables.stock ∙ there) items
              stock.each;
        }
    lined-stock false = record { unique = placing.whole.stock.unique; each = placing.whole.stock.each }

    -- the lines of the order that are there have other numbers
    lined-unique : AreUnique (map line_key (tables.order_lines ++ added ∷ []))
    lined-unique =
        let key : ℕ × ℕ × ℕ × ℕ = (order.warehouse, order.district, taken, done + 1) in
        subst AreUnique (sym (map-append line_key tables.order_lines (added ∷ [])))
        (unique-push (map line_key tables.order_lines) key placing.whole.orders.unique_lines
        (All-map (λ other. other ≢ key) line_key tables.order_lines
        (All-weaker (IsLineBefore order taken done) (λ row. line_key row ≢ key)
        (λ row before same.
        let above = before (ap (λ (key : ℕ × ℕ × ℕ × ℕ). key.1) same) (ap (λ (key : ℕ × ℕ × ℕ × ℕ). key.2) same) in
        let equal : row.number ≡ done + 1 = ap (λ (key : ℕ × ℕ × ℕ × ℕ). key.3) same in
        omega (arith, above, equal)) tables.order_lines placing.lines)))

    placing-added : (own : Bool) → IsPlacing items number order taken (suc done) (with_added own)
    placing-added own = record {
      whole = record {
        rows = record {
          warehouse = placing.whole.rows.warehouse;
          districts = placing.whole.rows.districts;
          customers = placing.whole.rows.customers;
          unique = placing.whole.rows.unique;
        };
        orders = record {
          unique_orders = placing.whole.orders.unique_orders;
          unique_new_orders = placing.whole.orders.unique_new_orders;
          unique_lines = lined-unique;
          next_orders = placing.whole.orders.next_orders;
          orders = placing.whole.orders.orders;
          new_orders = placing.whole.orders.new_orders;
          order_lines =
              All-push (HasOrderAndItem items tables.orders) tables.order_lines added placing.whole.orders.order_lines
              (placing.there, known);
        };
        numbers = placing.whole.numbers;
        stock = lined-stock own;
      };
      there = placing.there;
      lines =
          All-push (IsLineBefore order taken (suc done)) tables.order_lines added
          (All-weaker (IsLineBefore order taken done) (IsLineBefore order taken (suc done))
          (λ row before second third. let above = before second third in omega (arith, above)) tables.order_lines
          placing.lines)
          (λ second third. omega arith);
    }

  -- the next line, if there is one
  pub placing-with_line : (line : Option PurchaseLine) → is_known items line ≡ true
      → order_number order tables ≡ taken + 1
      → IsPlacing items number order taken (suc done) (with_line items number order (done + 1) tables line)
  placing-with_line None known next = record {
    whole = placing.whole;
    there = placing.there;
    lines =
        All-weaker (IsLineBefore order taken done) (IsLineBefore order taken (suc done))
        (λ row before second third. let above = before second third in omega (arith, above)) tables.order_lines
        placing.lines;
  }
  placing-with_line (Some line) known next =
      let same : taken ≡ headed_number order tables = omega (arith, next) in
      subst (λ number_taken. IsPlacing items number order taken (suc done)
      (lined items number order number_taken (done + 1) tables line)) same
      (placing-added line known (line.supply_warehouse == number))
