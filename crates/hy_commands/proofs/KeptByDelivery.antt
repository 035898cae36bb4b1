-- A delivery keeps the rows of a warehouse sound.
use Rattle.std.proofs.Common.{◌≡◌, ℕ, ◌<◌, pos, ◌+ℤ◌, ◌==◌, ◌&&◌, Bool, true, false, cond, not, ℤ, List, [], ◌∷◌, map, filter, length, Some, refl, sym, ap, ap₂, subst, ◌∙◌, arith}
use Rattle.std.specs.Prelude.{All, fold, unwrap_or}
use Rattle.std.specs.List.{find, list_any, sum}
use Rattle.std.proofs.lemmas.Int.{ints}
use Rattle.std.proofs.lemmas.Bool.{both_ways, false_from_ne_true}
use Rattle.std.proofs.lemmas.Bool.Decides.{nat_tests}
use Rattle.std.proofs.lemmas.List.Elements.{All-head, All-tail, All-filter, All-map, All-weaker, filter_passes}
use Rattle.hy_rows.specs.Finding.{first_or, is_customer}
use Rattle.hy_rows.specs.Rows.{order_of}
use Rattle.hy_rows.specs.Tables.{Tables}
use Rattle.hy_rows.specs.declared.customer.Customer.{Customer}
use Rattle.hy_rows.specs.declared.district.District.{District}
use Rattle.hy_rows.specs.declared.item.Item.{Item}
use Rattle.hy_rows.specs.declared.new_order.NewOrder.{NewOrder}
use Rattle.hy_rows.specs.declared.order.Order.{Order}
use Rattle.hy_rows.specs.declared.order_line.OrderLine.{OrderLine}
use Rattle.hy_schema.specs.Conditions.{column_sum, delivered_amount, least, new_order_numbers, order_numbers}
use Rattle.hy_schema.specs.Keys.{AreUnique, IsOneWarehouse, customer_key, district_numbers}
use Rattle.hy_schema.specs.Related.{is_delivered, is_line_of, is_new_order, is_new_order_of, is_order, is_order_by, is_undelivered, lines_of, lines_of_district, new_orders_of, orders_by}
use Rattle.hy_schema.proofs.ChangedLists.{All-with_changed, map-with_changed}
use Rattle.hy_schema.proofs.ConditionLaws.{filter-implied}
use Rattle.hy_commands.specs.declared.command.Delivery.{Delivery}
use Rattle.hy_commands.specs.Deliveries.{carried, customer_delivered, delivered, delivered_in, delivered_line, oldest, order_cents, with_delivered}
use Rattle.hy_commands.specs.Invariant.{HasOrder, HasOrderAndItem, HasOwnOrders, IsOwnOrder, IsSoundWarehouse, line_key, new_order_key, order_key}
use Rattle.hy_commands.proofs.ListLaws.{All-changed_once, All-find, any-filter-none, any-filter-same, column_sum-by_values, column_sum-flat_map, column_sum-once, filter-all, filter-map, filter-none, find-any, find-passes, in-any, length-map, list_any-with_changed, map-filter-again, map-filter-with_changed, map-map, map-same, map-same_on, unique-filter}
use Rattle.hy_commands.proofs.MeetsLaws.{CarriedOrNew, CountsDistrict, CountsLines, DeliveredWithLines, IsBalanced, Meets, NumbersInRow, behind-orders, meets-facts, meets-tests}
use Rattle.hy_commands.proofs.NumberLaws.{AreInRow, in_row-taken, least-in, others}
use Rattle.hy_commands.proofs.OnceLaws.{once-customer, once-order, passes-three, tells-three, tells-two}

module _ (items : List Item) (number : ℕ) (delivery : Delivery) (tables : Tables) (the_order : Order) (carrier : (delivery.carrier == 0) ≡ false) (moment : (delivery.at == 0) ≡ false) (finds : find (is_order the_order.warehouse the_order.district the_order.id) tables.orders ≡ Some the_order) (waits : is_undelivered tables.new_orders the_order ≡ true) (first : the_order.id ≡ least (map (λ row. row.order) (new_orders_of the_order.warehouse the_order.district tables.new_orders))) (sound : IsSoundWarehouse items number tables) where
  abbrev a : ℕ
  a = the_order.warehouse

  abbrev b : ℕ
  b = the_order.district

  abbrev c : ℕ
  c = the_order.id

  abbrev after : Tables
  after = with_delivered delivery the_order tables

  abbrev marked : OrderLine → OrderLine
  marked row = cond (is_line_of the_order row) (delivered_line delivery.at row) row

  abbrev the_customer : Customer → Bool
  the_customer = is_customer a b the_order.customer

  abbrev cents : ℤ
  cents = order_cents the_order tables.order_lines

  -- what a mark leaves alone
  marked-column : {Column : Type 0} (column : OrderLine → Column)
      → ((row : OrderLine) → column (delivered_line delivery.at row) ≡ column row)
      → (row : OrderLine) → column (marked row) ≡ column row
  marked-column column same row = elim (is_line_of the_order row) as (λ b. column (cond b (delivered_line delivery.at
      row)
      row) ≡ column row) [
        | true ↦ same row
        | false ↦ refl
      ]

  -- the lines of an order afterwards
  lines-after : (row : Order) → lines_of row after.order_lines ≡ map marked (lines_of row tables.order_lines)
  lines-after row = filter-map (is_line_of row) marked (marked-column (is_line_of row) (λ line. refl))
      tables.order_lines

  lines-other : (row : Order) → is_order a b c row ≡ false → lines_of row after.order_lines ≡ lines_of row
      tables.order_lines
  lines-other row other =
      lines-after row
      ∙ map-same_on marked (λ line. line) (lines_of row tables.order_lines)
      (All-weaker (λ line. is_line_of row line ≡ true) (λ line. marked line ≡ line)
      (λ line passes. ap (λ t. cond t (delivered_line delivery.at line) line)
      (false_from_ne_true (is_line_of the_order line) (λ also.
      let one = tells-three line.warehouse line.district line.order row.warehouse row.district row.id passes in
      let two = tells-three line.warehouse line.district line.order a b c also in
      both_ways (is_order a b c row) other
      (passes-three row.warehouse row.district row.id a b c (sym one.0 ∙ two.0) (sym one.1 ∙ two.1) (sym one.2 ∙
      two.2)))))
      (lines_of row tables.order_lines) (filter_passes (is_line_of row) tables.order_lines))
      ∙ map-itself (lines_of row tables.order_lines)
    where
      map-itself : (rows : List OrderLine) → map (λ line. line) rows ≡ rows
      map-itself [] = refl
      map-itself (row ∷ rows) = ap (λ others. row ∷ others) (map-itself rows)

  delivered-rows : IsOneWarehouse number after
  delivered-rows = record {
    warehouse = sound.rows.warehouse;
    districts = sound.rows.districts;
    customers =
        All-with_changed (λ (row : Customer). row.warehouse ≡ number) the_customer (customer_delivered cents)
        (λ row own. own) tables.customers sound.rows.customers;
    unique =
        subst AreUnique (sym (map-with_changed customer_key the_customer (customer_delivered cents) (λ row. refl)
        tables.customers))
        sound.rows.unique;
  }

  -- an order that is there is there afterwards
  there-after : (x y z : ℕ) → list_any (is_order x y z) tables.orders ≡ true → list_any (is_order x y z) after.orders
      ≡ true
  there-after x y z there =
      list_any-with_changed (is_order x y z) (is_order a b c) (carried delivery.carrier) (λ row. refl) tables.orders ∙
      there

  delivered-orders : HasOwnOrders items number after
  delivered-orders = record {
    unique_orders =
        subst AreUnique (sym (map-with_changed order_key (is_order a b c) (carried delivery.carrier) (λ row. refl)
        tables.orders))
        sound.orders.unique_orders;
    unique_new_orders =
        unique-filter new_order_key new_order_key (λ row. not (is_new_order a b c row)) (λ one two kept also same. same)
        tables.new_orders sound.orders.unique_new_orders;
    unique_lines =
        subst AreUnique (sym (map-map marked line_key tables.order_lines
        ∙ map-same (λ row. line_key (marked row)) line_key (marked-column line_key (λ row. refl)) tables.order_lines))
        sound.orders.unique_lines;
    next_orders = sound.orders.next_orders;
    orders =
        All-with_changed (IsOwnOrder number after.customers) (is_order a b c) (carried delivery.carrier)
        (λ row own. record {
          warehouse = own.warehouse;
          district = own.district;
          positive = own.positive;
          customer = own.customer;
        }) tables.orders
        (All-weaker (IsOwnOrder number tables.customers) (IsOwnOrder number after.customers)
        (λ row own. record {
          warehouse = own.warehouse;
          district = own.district;
          positive = own.positive;
          customer =
              list_any-with_changed (is_customer row.warehouse row.district row.customer) the_customer
              (customer_delivered cents) (λ row. refl) tables.customers ∙ own.customer;
        }) tables.orders sound.orders.orders);
    new_orders =
        All-filter (λ row. not (is_new_order a b c row)) (HasOrder after.orders) tables.new_orders
        (All-weaker (HasOrder tables.orders) (HasOrder after.orders)
        (λ row there. there-after row.warehouse row.district row.order there) tables.new_orders
        sound.orders.new_orders);
    order_lines =
        All-map (HasOrderAndItem items after.orders) marked tables.order_lines
        (All-weaker (HasOrderAndItem items tables.orders) (λ row. HasOrderAndItem items after.orders (marked row))
        (λ row there.
        let here = there-after row.warehouse row.district row.order there.0 in
        elim (is_line_of the_order row) as (λ t. HasOrderAndItem items after.orders (cond t (delivered_line
        delivery.at row)
        row)) [
          | true ↦ (here, there.1)
          | false ↦ (here, there.1)
        ]) tables.order_lines sound.orders.order_lines);
  }

  -- the numbers of a district's undelivered orders
  numbers-after : (row : District) → NumbersInRow tables.orders tables.new_orders row
      → NumbersInRow after.orders after.new_orders row
  numbers-after row in_row =
      let Own : NewOrder → Bool = λ new. (new.warehouse == row.warehouse) && (new.district == row.id) in
      let numbers_there : List ℕ = order_numbers tables.orders row in
      let news_there : List ℕ = new_order_numbers tables.new_orders row in
      let orders : order_numbers after.orders row ≡ numbers_there =
      map-filter-with_changed (λ (order : Order). order.id) (λ order. (order.warehouse == row.warehouse) &&
      (order.district == row.id))
      (is_order a b c) (carried delivery.carrier) (λ order. refl) (λ order. refl) tables.orders in
      let unique : AreUnique news_there = unique-filter new_order_key (λ (new : NewOrder). new.order) Own
      (λ one two own also same.
      let first = tells-two one.warehouse one.district row.warehouse row.id own in
      let second = tells-two two.warehouse two.district row.warehouse row.id also in
      let warehouses : one.warehouse ≡ two.warehouse = first.0 ∙ sym second.0 in
      let districts : one.district ≡ two.district = first.1 ∙ sym second.1 in
      rw (warehouses, districts, same) refl) tables.new_orders sound.orders.unique_new_orders in
      subst (λ numbers. AreInRow row.next_order numbers (new_order_numbers after.new_orders row)) (sym orders)
      (elim ((a == row.warehouse) && (b == row.id)) as (λ t. ((a == row.warehouse) && (b == row.id)) ≡ t
      → AreInRow row.next_order numbers_there (new_order_numbers after.new_orders row)) [
        | true ↦ λ own.
            let is = tells-two a b row.warehouse row.id own in
            let is_least : c ≡ least news_there = first
            ∙ ap₂ (λ w d. least (map (λ (new : NewOrder). new.order) (new_orders_of w d tables.new_orders))) is.0 is.1
            in
            let taken : new_order_numbers after.new_orders row ≡ others c news_there =
            map-filter-again (λ (new : NewOrder). new.order) Own (λ new. not (is_new_order a b c new)) (λ n. not (n ==
            c))
            (λ new passes. grind (arith, nat_tests, passes, own)) tables.new_orders in
            subst (AreInRow row.next_order numbers_there) (sym (taken ∙ ap (λ n. others n news_there) is_least))
            (in_row-taken row.next_order numbers_there news_there unique in_row)
        | false ↦ λ other.
            let same : new_order_numbers after.new_orders row ≡ news_there =
            ap (map (λ (new : NewOrder). new.order))
            (filter-implied Own (λ new. not (is_new_order a b c new))
            (λ new passes. grind (arith, nat_tests, passes, other)) tables.new_orders) in
            subst (AreInRow row.next_order numbers_there) (sym same) in_row
      ] refl)

  -- what was delivered of an order, in cents
  abbrev delivered_of : List OrderLine → Order → ℤ
  delivered_of lines row = column_sum (λ line. line.amount) (filter is_delivered (lines_of row lines))

  -- the order's lines were all undelivered, and all are delivered
  delivered-before : Meets tables → delivered_of tables.order_lines the_order ≡ pos 0
  delivered-before meets =
      let is_new : (the_order.carrier == 0) ≡ true =
      All-find (CarriedOrNew tables.new_orders) (is_order a b c) tables.orders the_order meets.carried finds ∙ waits in
      let all = All-find (DeliveredWithLines tables.order_lines) (is_order a b c) tables.orders the_order
      meets.delivered
      finds in
      ap (column_sum (λ (line : OrderLine). line.amount))
      (filter-none is_delivered (lines_of the_order tables.order_lines)
      (All-weaker (λ line. (line.delivery_date == 0) ≡ (the_order.carrier == 0)) (λ line. is_delivered line ≡ false)
      (λ line same. ap not (same ∙ is_new)) (lines_of the_order tables.order_lines) all))

  delivered-now : delivered_of after.order_lines the_order ≡ cents
  delivered-now =
      ap (λ lines. column_sum (λ (line : OrderLine). line.amount) (filter is_delivered lines)) (lines-after the_order)
      ∙ ap (column_sum (λ (line : OrderLine). line.amount))
      (filter-all is_delivered (map marked (lines_of the_order tables.order_lines))
      (All-map (λ line. is_delivered line ≡ true) marked (lines_of the_order tables.order_lines)
      (All-weaker (λ line. is_line_of the_order line ≡ true) (λ line. is_delivered (marked line) ≡ true)
      (λ line own. ap (λ t. is_delivered (cond t (delivered_line delivery.at line) line)) own ∙ ap not moment)
      (lines_of the_order tables.order_lines) (filter_passes (is_line_of the_order) tables.order_lines))))
      ∙ column_sum-by_values (λ (line : OrderLine). line.amount) (λ (line : OrderLine). line.amount)
      (map marked (lines_of the_order tables.order_lines)) (lines_of the_order tables.order_lines)
      (map-map marked (λ (line : OrderLine). line.amount) (lines_of the_order tables.order_lines)
      ∙ map-same (λ line. (marked line).amount) (λ line. line.amount) (marked-column (λ line. line.amount) (λ line.
      refl))
      (lines_of the_order tables.order_lines))

  -- what was delivered to a customer grows by the order, if it is the customer's
  delivered-more : Meets tables → (customer : Customer)
      → delivered_amount after.orders after.order_lines customer
      ≡ delivered_amount tables.orders tables.order_lines customer +ℤ cond (is_order_by customer the_order) cents (pos
      0)
  delivered-more meets customer =
      let amount : OrderLine → ℤ = λ line. line.amount in
      let Mine : Order → Bool = is_order_by customer in
      column_sum-flat_map (λ (line : OrderLine). line.amount) is_delivered (λ order. lines_of order after.order_lines)
      (orders_by customer after.orders)
      ∙ column_sum-by_values (delivered_of after.order_lines) (delivered_of after.order_lines) (orders_by customer
      after.orders)
      (orders_by customer tables.orders)
      (map-filter-with_changed (delivered_of after.order_lines) (is_order_by customer) (is_order a b c)
      (carried delivery.carrier) (λ row. refl) (λ row. refl) tables.orders)
      ∙ column_sum-once (delivered_of after.order_lines) (delivered_of tables.order_lines) (is_order a b c)
      (is_order_by customer) cents tables.orders (once-order a b c tables.orders sound.orders.unique_orders)
      (λ row other. ap (λ lines. column_sum (λ (line : OrderLine). line.amount) (filter is_delivered lines))
      (lines-other row other))
      the_order finds (omega (arith, ints, delivered-before meets, delivered-now))
      ∙ ap (λ sum. sum +ℤ cond (is_order_by customer the_order) cents (pos 0))
      (sym (column_sum-flat_map (λ (line : OrderLine). line.amount) is_delivered (λ order. lines_of order
      tables.order_lines)
      (orders_by customer tables.orders)))

  delivered-meets : Meets tables → Meets after
  delivered-meets meets = record {
    districts = meets.districts;
    numbers =
        All-weaker (NumbersInRow tables.orders tables.new_orders) (NumbersInRow after.orders after.new_orders)
        numbers-after tables.districts meets.numbers;
    district_lines =
        All-weaker (CountsDistrict tables.orders tables.order_lines) (CountsDistrict after.orders after.order_lines)
        (λ row counts.
        ap sum (map-filter-with_changed (λ (order : Order). order.line_count)
        (λ order. (order.warehouse == row.warehouse) && (order.district == row.id)) (is_order a b c)
        (carried delivery.carrier) (λ order. refl) (λ order. refl) tables.orders)
        ∙ counts
        ∙ sym (ap length (filter-map (λ (line : OrderLine). (line.warehouse == row.warehouse) && (line.district ==
        row.id)) marked
        (marked-column (λ line. (line.warehouse == row.warehouse) && (line.district == row.id)) (λ line. refl))
        tables.order_lines)
        ∙ length-map marked (lines_of_district row.warehouse row.id tables.order_lines)))
        tables.districts meets.district_lines;
    carried =
        All-changed_once (CarriedOrNew tables.new_orders) (CarriedOrNew after.new_orders) (is_order a b c)
        (carried delivery.carrier) tables.orders (once-order a b c tables.orders sound.orders.unique_orders)
        (λ row passes found is.
        carrier ∙ sym (any-filter-none (is_new_order_of row) (λ new. not (is_new_order a b c new))
        (λ new kept. grind (arith, nat_tests, passes, kept)) tables.new_orders))
        (λ row fails is.
        is ∙ sym (any-filter-same (is_new_order_of row) (λ new. not (is_new_order a b c new))
        (λ new left. grind (arith, nat_tests, fails, left)) tables.new_orders)) meets.carried;
    lines =
        All-with_changed (CountsLines after.order_lines) (is_order a b c) (carried delivery.carrier) (λ row counts.
        counts)
        tables.orders
        (All-weaker (CountsLines tables.order_lines) (CountsLines after.order_lines)
        (λ row counts. counts ∙ sym (ap length (lines-after row) ∙ length-map marked (lines_of row tables.order_lines)))
        tables.orders meets.lines);
    delivered =
        All-changed_once (DeliveredWithLines tables.order_lines) (DeliveredWithLines after.order_lines) (is_order a b c)
        (carried delivery.carrier) tables.orders (once-order a b c tables.orders sound.orders.unique_orders)
        (λ row passes found all.
        subst (All (λ (line : OrderLine). (line.delivery_date == 0) ≡ (delivery.carrier == 0))) (sym (lines-after row))
        (All-map (λ (line : OrderLine). (line.delivery_date == 0) ≡ (delivery.carrier == 0)) marked
        (lines_of row tables.order_lines)
        (All-weaker (λ line. is_line_of row line ≡ true)
        (λ line. ((marked line).delivery_date == 0) ≡ (delivery.carrier == 0))
        (λ line own.
        let one = tells-three line.warehouse line.district line.order row.warehouse row.district row.id own in
        let two = tells-three row.warehouse row.district row.id a b c passes in
        let mine : is_line_of the_order line ≡ true = passes-three line.warehouse line.district line.order a b c
        (one.0 ∙ two.0) (one.1 ∙ two.1) (one.2 ∙ two.2) in
        ap (λ t. (cond t (delivered_line delivery.at line) line).delivery_date == 0) mine ∙ moment ∙ sym carrier)
        (lines_of row tables.order_lines) (filter_passes (is_line_of row) tables.order_lines))))
        (λ row fails all.
        subst (All (λ (line : OrderLine). (line.delivery_date == 0) ≡ (row.carrier == 0))) (sym (lines-other row
        fails)) all)
        meets.delivered;
    paid = meets.paid;
    district_paid = meets.district_paid;
    balances =
        All-changed_once (IsBalanced tables.orders tables.order_lines) (IsBalanced after.orders after.order_lines)
        the_customer (customer_delivered cents) tables.customers
        (once-customer a b the_order.customer tables.customers sound.rows.unique)
        (λ row passes found settled.
        let mine : is_order_by row the_order ≡ true = grind (arith, nat_tests, passes) in
        let more = delivered-more meets row ∙ ap (λ t. delivered_amount tables.orders tables.order_lines row +ℤ cond t
        cents (pos 0)) mine in
        omega (arith, ints, settled, more))
        (λ row fails settled.
        let other : is_order_by row the_order ≡ false = grind (arith, nat_tests, fails) in
        let same = delivered-more meets row ∙ ap (λ t. delivered_amount tables.orders tables.order_lines row +ℤ cond t
        cents (pos 0)) other in
        omega (arith, ints, settled, same)) meets.balances;
  }

  pub sound-with_delivered : IsSoundWarehouse items number after
  sound-with_delivered = record {
    rows = delivered-rows;
    orders = delivered-orders;
    numbers = behind-orders after delivered-orders.next_orders (delivered-meets (meets-facts tables sound.conditions));
    stock = record { unique = sound.stock.unique; each = sound.stock.each };
    conditions = meets-tests after (delivered-meets (meets-facts tables sound.conditions));
  }

-- where the least number isn't 0, there is one
least-some : (numbers : List ℕ) → (least numbers == 0) ≡ false → 0 < length numbers
least-some [] differs = absurd (cc)
least-some (n ∷ numbers) differs = omega arith

-- the order that is delivered in a district
pub record IsOldest (delivery : Delivery) (tables : Tables) (place : ℕ) (order : Order) : Type 0 where
  pub chosen :
      first_or (order_of []) (is_order delivery.warehouse place (oldest delivery.warehouse place tables))
      tables.orders ≡ order
  pub district : order.district ≡ place
  pub finds : find (is_order order.warehouse order.district order.id) tables.orders ≡ Some order
  pub waits : is_undelivered tables.new_orders order ≡ true
  pub first : order.id ≡ least (map (λ row. row.order) (new_orders_of order.warehouse order.district tables.new_orders))

module _ (items : List Item) (number : ℕ) (delivery : Delivery) where
  -- it is there
  pub oldest-there : (tables : Tables) (district : ℕ) → IsSoundWarehouse items number tables
      → (oldest delivery.warehouse district tables == 0) ≡ false → (order : Order) × IsOldest delivery tables district
      order
  oldest-there tables district sound some =
      let w : ℕ = delivery.warehouse in
      let m : ℕ = oldest w district tables in
      let news_there : List ℕ = map (λ (new : NewOrder). new.order) (new_orders_of w district tables.new_orders) in
      let there : list_any (is_new_order w district m) tables.new_orders ≡ true =
      in-any (λ (new : NewOrder). new.order) (λ new. (new.warehouse == w) && (new.district == district)) m
      tables.new_orders
      (least-in news_there (least-some news_there some)) in
      let new = find-any (is_new_order w district m) tables.new_orders there in
      let has = All-find (HasOrder tables.orders) (is_new_order w district m) tables.new_orders new.0
      sound.orders.new_orders new.1 in
      let is_new = tells-three (new.0).warehouse (new.0).district (new.0).order w district m
      (find-passes (is_new_order w district m) tables.new_orders new.0 new.1) in
      let ordered : list_any (is_order w district m) tables.orders ≡ true = rw (is_new.0, is_new.1, is_new.2) at has in
      let order = find-any (is_order w district m) tables.orders ordered in
      let the_order : Order = order.0 in
      let is = tells-three the_order.warehouse the_order.district the_order.id w district m (find-passes (is_order w
      district m) tables.orders
      the_order order.1) in
      let finds : find (is_order the_order.warehouse the_order.district the_order.id) tables.orders ≡ Some the_order =
      rw (is.0, is.1, is.2) order.1 in
      let waits : list_any (is_new_order the_order.warehouse the_order.district the_order.id) tables.new_orders ≡ true
      = rw (is.0, is.1, is.2)
      there in
      let first : the_order.id ≡ least (map (λ (new : NewOrder). new.order) (new_orders_of the_order.warehouse
      the_order.district
      tables.new_orders)) =
      rw (is.0, is.1) is.2 in (
        the_order,
        record {
          chosen = ap (λ one. unwrap_or one (order_of [])) {y = Some the_order} order.1;
          district = is.1;
          finds = finds;
          waits =
              waits;
          first = first;
        },
      )

  -- a delivery in one district leaves the undelivered orders of the others, so that which orders are delivered is seen
  -- before the first
  pub oldest-other : (tables : Tables) (district other : ℕ) → IsSoundWarehouse items number tables
      → (district == other) ≡ false
      → oldest delivery.warehouse other (delivered_in delivery tables district) ≡ oldest delivery.warehouse other tables
  oldest-other tables district other sound apart =
      elim (oldest delivery.warehouse district tables == 0) as (λ b. (oldest delivery.warehouse district tables == 0)
      ≡ b
      → oldest delivery.warehouse other (cond b tables (with_delivered delivery
      (first_or (order_of [])
      (is_order delivery.warehouse district (oldest delivery.warehouse district tables)) tables.orders) tables))
      ≡ oldest delivery.warehouse other tables) [
        | true ↦ λ none. refl
        | false ↦ λ some.
            let there = oldest-there tables district sound some in
            subst (λ order. oldest delivery.warehouse other (with_delivered delivery order tables)
            ≡ oldest delivery.warehouse other tables) (sym (there.1).chosen)
            (ap (λ rows. least (map (λ (new : NewOrder). new.order) rows))
            (filter-implied (λ new. (new.warehouse == delivery.warehouse) && (new.district == other))
            (λ new. not (is_new_order (there.0).warehouse (there.0).district (there.0).id new))
            (λ new passes. keeps (there.0).district (there.0).warehouse (there.0).id new (there.1).district
            passes) tables.new_orders))
      ] refl
    where
      keeps : (d w n : ℕ) (new : NewOrder) → d ≡ district
          → ((new.warehouse == delivery.warehouse) && (new.district == other)) ≡ true
          → not (is_new_order w d n new) ≡ true
      keeps d w n new is passes = grind (arith, nat_tests, is, passes, apart)

  module _ (carrier : (delivery.carrier == 0) ≡ false) (moment : (delivery.at == 0) ≡ false) where
    pub sound-delivered_in : (tables : Tables) (district : ℕ) → IsSoundWarehouse items number tables
        → IsSoundWarehouse items number (delivered_in delivery tables district)
    sound-delivered_in tables district sound =
        elim (oldest delivery.warehouse district tables == 0) as (λ b. (oldest delivery.warehouse district tables ==
        0) ≡ b
        → IsSoundWarehouse items number (cond b tables (with_delivered delivery
        (first_or (order_of []) (is_order delivery.warehouse district (oldest delivery.warehouse district tables))
        tables.orders) tables))) [
          | true ↦ λ none. sound
          | false ↦ λ some.
              let there = oldest-there tables district sound some in
              subst (λ order. IsSoundWarehouse items number (with_delivered delivery order tables)) (sym
              (there.1).chosen)
              (sound-with_delivered items number delivery tables there.0 carrier moment (there.1).finds
              (there.1).waits (there.1).first sound)
        ] refl

    -- one district after the other
    sound-districts : (districts : List ℕ) (tables : Tables) → IsSoundWarehouse items number tables
        → IsSoundWarehouse items number (fold (delivered_in delivery) tables districts)
    sound-districts [] tables sound = sound
    sound-districts (district ∷ districts) tables sound =
        sound-districts districts (delivered_in delivery tables district) (sound-delivered_in tables district sound)

    pub sound-delivered : (tables : Tables) → IsSoundWarehouse items number tables
        → IsSoundWarehouse items number (delivered delivery tables)
    sound-delivered tables sound = sound-districts district_numbers tables sound

    -- so the undelivered orders of a district stay while others are delivered in
    pub oldest-later : (done : List ℕ) (tables : Tables) (other : ℕ) → IsSoundWarehouse items number tables
        → All (λ district. (district == other) ≡ false) done
        → oldest delivery.warehouse other (fold (delivered_in delivery) tables done)
        ≡ oldest delivery.warehouse other tables
    oldest-later [] tables other sound apart = refl
    oldest-later (district ∷ done) tables other sound apart =
        oldest-later done (delivered_in delivery tables district) other (sound-delivered_in tables district sound)
        (All-tail (λ district. (district == other) ≡ false) district done apart)
        ∙ oldest-other tables district other sound
        (All-head (λ district. (district == other) ≡ false) district done apart)
