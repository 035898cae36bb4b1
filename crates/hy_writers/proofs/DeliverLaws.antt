-- An undelivered order, its rows and what its delivery makes of a store.
use Rattle.std.proofs.Common.{◌≡◌, ℕ, suc, ◌*◌, ◌≤◌, ◌==◌, ◌||◌, ℤ, pos, ◌≤ℤ◌, Bool, true, false, List, [], ◌∷◌, length, map, filter, not, Some, None, refl, sym, ap, ap₂, subst, ◌∙◌, arith}
use Rattle.std.specs.Prelude.{if◌then◌else◌, slice_get, slice_set, All, find, unwrap_or}
use Rattle.std.specs.List.{list_any}
use Rattle.std.proofs.lemmas.Bool.Decides.{nat_tests}
use Rattle.std.proofs.lemmas.Int.{ints}
use Rattle.std.proofs.lemmas.List.Elements.{All-filter, All-head, All-tail}
use Rattle.hy_rows.specs.declared.customer.Customer.{Customer}
use Rattle.hy_rows.specs.declared.item.Item.{Item}
use Rattle.hy_rows.specs.declared.new_order.NewOrder.{NewOrder}
use Rattle.hy_rows.specs.declared.order.Order.{Order}
use Rattle.hy_rows.specs.declared.order_line.OrderLine.{OrderLine}
use Rattle.hy_rows.specs.Finding.{first_or, is_customer, with_changed}
use Rattle.hy_rows.specs.Limits.{max_line_cents}
use Rattle.hy_commands.specs.Growth.{IsLineAmount}
use Rattle.hy_rows.specs.Rows.{order_of}
use Rattle.hy_rows.specs.Spelling.{live_rows}
use Rattle.hy_schema.specs.Conditions.{column_sum, least}
use Rattle.hy_schema.specs.Keys.{customer_key}
use Rattle.hy_schema.specs.Related.{is_line_of, is_new_order, is_order, lines_of, new_orders_of}
use Rattle.hy_indexes.specs.of_index.declared.key.Entry.{Entry}
use Rattle.hy_indexes.specs.of_index.Index.{IsInOrder, first_from, found, without}
use Rattle.hy_relation.specs.Relation.{row_in}
use Rattle.hy_commands.specs.declared.command.Delivery.{Delivery}
use Rattle.hy_commands.specs.Deliveries.{carried, customer_delivered, delivered_in, oldest, delivered_line, order_cents as cents_of, with_delivered}
use Rattle.hy_commands.specs.Growth.{IsLineUpTo, IsOrderUpTo, max_order_cents}
use Rattle.hy_commands.specs.Invariant.{IsOwnOrder, IsSoundWarehouse}
use Rattle.hy_commands.specs.Sorting.{with_all_changed}
use Rattle.hy_commands.proofs.ListLaws.{column_sum-cons, find-any, find-passes}
use Rattle.hy_commands.proofs.MeetsLaws.{CountsLines, meets-facts}
use Rattle.hy_commands.proofs.OnceLaws.{passes-three, tells-three}
use Rattle.hy_commands.specs.declared.command.Who.TheVariants as who
use Rattle.hy_layout.specs.Layout.{IsMeantAt, LayoutState}
use Rattle.hy_indexes.specs.of_store.declared.keys.OrderKey.{OrderKey}
use Rattle.hy_indexes.specs.of_store.declared.keys.WaitingKey.{WaitingKey}
use Rattle.hy_indexes.specs.of_store.Keys.{is_lesser_order, is_lesser_waiting}
use Rattle.hy_indexes.specs.of_store.Stored.{Stored}
use Rattle.hy_layout.specs.Finds.{IsIn}
use Rattle.hy_indexes.specs.Indexes.{order_key_at, waiting_key_at}
use Rattle.hy_indexes.proofs.IndexLaws.{index-finds, index-has, index-lacks}
use Rattle.hy_indexes.proofs.KeyOrders.{order-of_orders, order-of_waiting}
use Rattle.hy_writers.specs.Changes.{IsFoundAt}
use Rattle.hy_writers.specs.Deliveries.{ChargesCustomer, HasLinesOf, with_delivery, with_lines, with_lines_of}
use Rattle.hy_writers.specs.Limits.{most_applied}
use Rattle.hy_writers.specs.Waiting.{IsSoundStore, IsWaiting, order_of_entry, without_waiting}
use Rattle.hy_writers.proofs.FindLaws.{found-customer, found-only}
use Rattle.hy_writers.proofs.WaitingLaws.{all-in, in-all, live-erased, live-in, not-eqb, oldest-behind, oldest-found, oldest-none}
use Rattle.hy_writers.proofs.WritesLaws.{all-at}

-- a test that some row passes
pub any-place : {Row : Type 0} (test : Row → Bool) (rows : List Row) → list_any test rows ≡ true
    → (place : ℕ) × (row : Row) × (slice_get rows place ≡ Some row) × (test row ≡ true)
any-place test [] is = absurd (cc)
any-place test (row ∷ rows) is =
    elim (test row) as (λ b. test row ≡ b → (b || list_any test rows) ≡ true
    → (place : ℕ) × (found : _) × (slice_get (row ∷ rows) place ≡ Some found) × (test found ≡ true)) [
      | true ↦ λ passes is. (0, row, refl, passes)
      | false ↦ λ passes is.
          let rest = any-place test rows is in
          (suc rest.0, rest.1, rest.2, rest.3)
    ] refl is

-- the lines of a warehouse are its own
pub own-lines : (items : List Item) (number : ℕ) (s : Stored) → IsSoundWarehouse items number s.tables
    → All (λ row. row.warehouse ≡ number) s.tables.order_lines
own-lines items number s sound =
    all-in (λ (row : OrderLine). row.warehouse ≡ number) s.tables.order_lines (λ row there.
    let has = in-all (λ (row : OrderLine). list_any (is_order row.warehouse row.district row.order) s.tables.orders ≡ true) s.tables.order_lines row
    (all-in (λ (row : OrderLine). list_any (is_order row.warehouse row.district row.order) s.tables.orders ≡ true) s.tables.order_lines
    (λ other here. (in-all (λ (r : OrderLine). (list_any (is_order r.warehouse r.district r.order) s.tables.orders ≡ true) × (list_any (λ (item : Item). item.id == r.item) items ≡ true)) s.tables.order_lines other sound.orders.order_lines here).0)) there in
    let order = any-place (is_order row.warehouse row.district row.order) s.tables.orders has in
    let columns = tells-three (order.1).warehouse (order.1).district (order.1).id row.warehouse row.district row.order order.3 in
    let own = all-at (IsOwnOrder number s.tables.customers) s.tables.orders order.0 order.1 sound.orders.orders order.2 in
    sym columns.0 ∙ own.warehouse)

-- sums of amounts
pub amounts-within : (rows : List OrderLine) → All (λ row. IsLineAmount row.amount) rows
    → (pos 0 ≤ℤ column_sum (λ row. row.amount) rows)
    × (column_sum (λ row. row.amount) rows ≤ℤ pos (max_line_cents * length rows))
amounts-within [] all = (omega (arith, ints), omega (arith, ints))
amounts-within (row ∷ rows) all =
    let rest = amounts-within rows (All-tail (λ (row : OrderLine). IsLineAmount row.amount) row rows all) in
    let first = All-head (λ (row : OrderLine). IsLineAmount row.amount) row rows all in
    let sum = column_sum-cons (λ (row : OrderLine). row.amount) row rows in
    (omega (arith, ints, rest.0, first.0, sum), omega (arith, ints, rest.1, first.1, sum))

module _ (layout : LayoutState) (s : Stored) (entry : Entry WaitingKey) (store : IsSoundStore layout s)
    (waiting : IsWaiting layout.warehouse s entry) (live : s.tables.new_orders ≡ live_rows s.new_order_slots)
    (in_order : IsInOrder is_lesser_order s.orders) where
  abbrev number : ℕ
  number = layout.warehouse

  abbrev key : OrderKey
  key = record { order = entry.key.order; district = entry.key.district }

  -- the order is there
  pub order-there : (place : ℕ) × (row : Order) × (slice_get s.tables.orders place ≡ Some row) × (order_key_at row ≡ key)
  order-there =
      let has = in-all (λ (row : NewOrder). list_any (is_order row.warehouse row.district row.order) s.tables.orders ≡ true)
      s.tables.new_orders waiting.row store.sound.orders.new_orders
      (subst (IsIn waiting.row) (sym live) (live-in s.new_order_slots entry.slot waiting.row waiting.here)) in
      let order = any-place (is_order waiting.row.warehouse waiting.row.district waiting.row.order) s.tables.orders has in
      let columns = tells-three (order.1).warehouse (order.1).district (order.1).id waiting.row.warehouse waiting.row.district
      waiting.row.order order.3 in (
        order.0,
        order.1,
        order.2,
        ap₂ (λ (o : ℕ) (d : ℕ). record { order = o; district = d })
            (columns.2 ∙ ap (λ (k : WaitingKey). k.order) waiting.key) (columns.1 ∙ ap (λ (k : WaitingKey). k.district) waiting.key),
      )

  pub order-found : found is_lesser_order key s.orders ≡ None → ⊥
  order-found none =
      index-lacks is_lesser_order order-of_orders order_key_at (slice_get s.tables.orders) s.orders store.indexes.orders key none
      (order-there).0 (order-there).1 (order-there).2 (order-there).3

  module _ (place : ℕ) (order : Order) (is : found is_lesser_order key s.orders ≡ Some place)
      (here : slice_get s.tables.orders place ≡ Some order) where
    own-order : IsOwnOrder number s.tables.customers order
    own-order = all-at (IsOwnOrder number s.tables.customers) s.tables.orders place order store.sound.orders.orders here

    pub order-key : order_key_at order ≡ key
    order-key =
        let finds = index-finds is_lesser_order order-of_orders order_key_at (slice_get s.tables.orders) s.orders in_order
        store.indexes.orders key place is in
        let rows : Some finds.0 ≡ Some order = sym finds.1 ∙ here in
        let same : finds.0 ≡ order = cc in
        ap order_key_at (sym same) ∙ finds.2

    pub order-home : order.warehouse ≡ number
    order-home = own-order.warehouse

    pub order-only : IsFoundAt (is_order number entry.key.district entry.key.order) s.tables.orders place order
    order-only =
        let finds = index-finds is_lesser_order order-of_orders order_key_at (slice_get s.tables.orders) s.orders in_order
        store.indexes.orders key place is in
        found-only (is_order number entry.key.district entry.key.order) s.tables.orders place order (record {
          here = here;
          passes = passes-three order.warehouse order.district order.id number entry.key.district entry.key.order order-home
              (ap (λ (k : OrderKey). k.district) order-key) (ap (λ (k : OrderKey). k.order) order-key);
          only = λ other another there passes.
              let columns = tells-three another.warehouse another.district another.id number entry.key.district entry.key.order passes in
              finds.3 other another there (ap₂ (λ (o : ℕ) (d : ℕ). record { order = o; district = d }) columns.2 columns.1);
        })

    pub order-lines : HasLinesOf order.warehouse order s
    order-lines = record {
      own = subst (λ n. All (λ (row : OrderLine). row.warehouse ≡ n) s.tables.order_lines) (sym order-home)
          (own-lines layout.load.items number s store.sound);
      home = refl;
      index = store.indexes.lines;
      unique = store.sound.orders.unique_lines;
      few =
          let counts = all-at (CountsLines s.tables.order_lines) s.tables.orders place order
          (meets-facts s.tables store.sound.conditions).lines here in
          let fits = all-at (IsOrderUpTo most_applied) s.tables.orders place order store.bounds.orders here in
          let many = fits.line_count in
          omega (arith, counts, many);
      amounts = all-in (λ (row : OrderLine). IsLineAmount row.amount) s.tables.order_lines (λ row there.
          (in-all (IsLineUpTo most_applied) s.tables.order_lines row store.bounds.order_lines there).amount);
    }

    pub order-cents : (pos 0 ≤ℤ cents_of order s.tables.order_lines)
        × (cents_of order s.tables.order_lines ≤ℤ pos max_order_cents)
    order-cents =
        let lines = order-lines in
        let within = amounts-within (lines_of order s.tables.order_lines)
        (All-filter (is_line_of order) (λ (row : OrderLine). IsLineAmount row.amount) s.tables.order_lines lines.amounts) in
        let few = lines.few in
        (within.0, omega (arith, ints, within.1, few))

    pub order-buyer : list_any (is_customer number order.district order.customer) s.tables.customers ≡ true
    order-buyer = subst (λ n. list_any (is_customer n order.district order.customer) s.tables.customers ≡ true) order-home own-order.customer

    waiting-key : entry.key ≡ record { district = order.district; order = order.id }
    waiting-key = ap₂ (λ (d : ℕ) (o : ℕ). record { district = d; order = o })
        (sym (ap (λ (k : OrderKey). k.district) order-key)) (sym (ap (λ (k : OrderKey). k.order) order-key))

    -- the row of NEW-ORDER is the only one of its order
    waiting-taken : IsInOrder is_lesser_waiting s.waiting → live_rows (slice_set s.new_order_slots entry.slot None)
        ≡ filter (λ row. not (is_new_order order.warehouse order.district order.id row)) s.tables.new_orders
    waiting-taken waiting_in_order =
        let test : NewOrder → Bool = is_new_order order.warehouse order.district order.id in
        let row_key = waiting.key ∙ waiting-key in
        live-erased test s.new_order_slots entry.slot waiting.row waiting.here
        (passes-three waiting.row.warehouse waiting.row.district waiting.row.order order.warehouse order.district order.id
        (waiting.home ∙ sym order-home) (ap (λ (k : WaitingKey). k.district) row_key) (ap (λ (k : WaitingKey). k.order) row_key))
        (λ other another there passes.
        let columns = tells-three another.warehouse another.district another.order order.warehouse order.district order.id passes in
        let another_key : waiting_key_at another ≡ waiting_key_at waiting.row =
        ap₂ (λ (d : ℕ) (o : ℕ). record { district = d; order = o }) columns.1 columns.2 ∙ sym row_key in
        let one = index-has is_lesser_waiting order-of_waiting waiting_key_at (row_in s.new_order_slots) s.waiting waiting_in_order
        store.indexes.waiting other another there in
        let two = index-has is_lesser_waiting order-of_waiting waiting_key_at (row_in s.new_order_slots) s.waiting waiting_in_order
        store.indexes.waiting entry.slot waiting.row waiting.here in
        let slots : Some other ≡ Some entry.slot =
        sym one ∙ ap (λ k. found is_lesser_waiting k s.waiting) another_key ∙ two in
        cc)
        ∙ ap (filter (λ row. not (test row))) (sym live)

    pub order-district : order.district ≤ 10
    order-district = let between = own-order.district in grind (arith, nat_tests, between)

    -- the rows that the first writes leave alone
    module _ (mid : Stored) (put_order : Order) (mid_is : mid ≡ record s {
      tables = record s.tables {
        new_orders = live_rows (slice_set s.new_order_slots entry.slot None);
        orders = slice_set s.tables.orders place put_order;
      };
      new_order_slots = slice_set s.new_order_slots entry.slot None;
      waiting = without is_lesser_waiting entry.key s.waiting;
    }) where
      pub lines-still : HasLinesOf order.warehouse order mid
      lines-still =
          let lines = order-lines in
          subst (HasLinesOf order.warehouse order) (sym mid_is) (record {
            own = lines.own;
            home = lines.home;
            index = lines.index;
            unique = lines.unique;
            few = lines.few;
            amounts = lines.amounts;
          })

      pub cents-still : (cents : ℤ) → cents ≡ cents_of order mid.tables.order_lines
          → (pos 0 ≤ℤ cents) × (cents ≤ℤ pos max_order_cents)
      cents-still cents is_cents =
          let same : cents ≡ cents_of order s.tables.order_lines =
          is_cents ∙ ap (λ (t : Stored). cents_of order t.tables.order_lines) mid_is in
          let within = order-cents in
          (omega (arith, ints, same, within.0), omega (arith, ints, same, within.1))

      pub customers-still : (s3 : Stored) (rows : List OrderLine) → s3 ≡ with_lines mid rows
          → s3.tables.customers ≡ s.tables.customers
      customers-still s3 rows third = ap (λ (t : Stored). t.tables.customers) (third ∙ ap (λ (t : Stored). with_lines t rows) mid_is)

    module _ (delivery : Delivery) (customer_place : ℕ) (cents : ℤ) (s1 s2 s3 s4 : Stored) (carried_row : Order) where
      abbrev with_order_put : Stored → Stored
      with_order_put t = record t { tables = record t.tables { orders = slice_set t.tables.orders place carried_row } }

      pub delivered-store : IsInOrder is_lesser_waiting s.waiting
          → IsMeantAt number order.district (who.Number order.customer) s.tables.customers customer_place
          → carried_row ≡ carried delivery.carrier order → cents ≡ cents_of order s2.tables.order_lines
          → s1 ≡ without_waiting entry s
          → s2 ≡ with_order_put s1 → s3 ≡ with_lines_of delivery.at order s2 → ChargesCustomer cents customer_place s3 s4
          → s4 ≡ with_delivery delivery order entry.slot s
      delivered-store waiting_in_order meant is_carried is_cents first second third charges =
          let base : Stored = without_waiting entry s in
          let third_is : s3 ≡ with_lines_of delivery.at order (with_order_put base) =
          third ∙ ap (with_lines_of delivery.at order) (second ∙ ap with_order_put first) in
          let lines_are : s2.tables.order_lines ≡ s.tables.order_lines =
          ap (λ (t : Stored). t.tables.order_lines) (second ∙ ap with_order_put first) in
          let cents_are : cents ≡ cents_of order s.tables.order_lines = is_cents ∙ ap (cents_of order) lines_are in
          let customers_are : s3.tables.customers ≡ s.tables.customers = ap (λ (t : Stored). t.tables.customers) third_is in
          let buyer_here : slice_get s.tables.customers customer_place ≡ Some charges.row =
          ap (λ rows. slice_get rows customer_place) (sym customers_are) ∙ charges.here in
          let same : Some meant.row ≡ Some charges.row = sym meant.here ∙ buyer_here in
          let buyer_is : meant.row ≡ charges.row = cc in
          let meant_passes = find-passes (is_customer number order.district order.customer) s.tables.customers meant.row meant.meant in
          let columns = tells-three meant.row.warehouse meant.row.district meant.row.id number order.district order.customer meant_passes in
          let buyer_key : customer_key charges.row ≡ (number, order.district, order.customer) =
          ap customer_key (sym buyer_is) ∙ meant.key ∙ ap (λ (id : ℕ). (number, order.district, id)) columns.2 in
          let buyer = found-customer number order.district order.customer s.tables customer_place charges.row store.sound.rows
          buyer_here buyer_key in
          let put : with_changed (is_order order.warehouse order.district order.id) (carried delivery.carrier) s.tables.orders
          ≡ slice_set s.tables.orders place carried_row =
          ap₂ (λ (w : ℕ) (k : OrderKey). with_changed (is_order w k.district k.order) (carried delivery.carrier) s.tables.orders)
          order-home order-key
          ∙ order-only.changed (carried delivery.carrier) ∙ ap (slice_set s.tables.orders place) (sym is_carried) in
          let charge : with_changed (is_customer order.warehouse order.district order.customer)
          (customer_delivered (cents_of order s.tables.order_lines)) s.tables.customers
          ≡ slice_set s.tables.customers customer_place (customer_delivered cents charges.row) =
          ap (λ w. with_changed (is_customer w order.district order.customer)
          (customer_delivered (cents_of order s.tables.order_lines)) s.tables.customers) order-home
          ∙ buyer.changed (customer_delivered (cents_of order s.tables.order_lines))
          ∙ ap (λ c. slice_set s.tables.customers customer_place (customer_delivered c charges.row)) (sym cents_are) in
          charges.rows
          ∙ ap (λ (t : Stored). record t {
            tables = record t.tables {
              customers = slice_set t.tables.customers customer_place (customer_delivered cents charges.row);
            };
          }) third_is
          ∙ ap₂ (λ (news : List NewOrder) (k : WaitingKey). record s {
            tables = record s.tables {
              new_orders = news;
              orders = slice_set s.tables.orders place carried_row;
              order_lines = with_all_changed (is_line_of order) (delivered_line delivery.at) s.tables.order_lines;
              customers = slice_set s.tables.customers customer_place (customer_delivered cents charges.row);
            };
            new_order_slots = slice_set s.new_order_slots entry.slot None;
            waiting = without is_lesser_waiting k s.waiting;
          }) (waiting-taken waiting_in_order) waiting-key
          ∙ ap₂ (λ (orders : List Order) (customers : List Customer). record s {
            tables = record s.tables {
              new_orders =
                  filter (λ row. not (is_new_order order.warehouse order.district order.id row)) s.tables.new_orders;
              orders = orders;
              order_lines = with_all_changed (is_line_of order) (delivered_line delivery.at) s.tables.order_lines;
              customers = customers;
            };
            new_order_slots = slice_set s.new_order_slots entry.slot None;
            waiting = without is_lesser_waiting (record { district = order.district; order = order.id }) s.waiting;
          }) (sym put) (sym charge)

-- the first two writes together
pub put-taken : (s s1 s2 : Stored) (entry : Entry WaitingKey) (place : ℕ) (row : Order)
    → s1 ≡ without_waiting entry s
    → s2 ≡ record s1 { tables = record s1.tables { orders = slice_set s1.tables.orders place row } }
    → s2 ≡ record s {
      tables = record s.tables {
        new_orders = live_rows (slice_set s.new_order_slots entry.slot None);
        orders = slice_set s.tables.orders place row;
      };
      new_order_slots = slice_set s.new_order_slots entry.slot None;
      waiting = without is_lesser_waiting entry.key s.waiting;
    }
put-taken s s1 s2 entry place row first second =
    second ∙ ap (λ (t : Stored). record t { tables = record t.tables { orders = slice_set t.tables.orders place row } }) first

-- a customer who is there is meant by the number
pub any-meant : (warehouse district customer : ℕ) (order : Order) (rows : List Customer) → district ≡ order.district
    → customer ≡ order.customer → list_any (is_customer warehouse order.district order.customer) rows ≡ true
    → find (is_customer warehouse district customer) rows ≡ None → ⊥
any-meant warehouse district customer order rows districts customers any none =
    let found = find-any (is_customer warehouse order.district order.customer) rows any in
    let same = ap₂ (λ (d : ℕ) (c : ℕ). find (is_customer warehouse d c) rows) districts customers in
    let both : None ≡ Some found.0 = sym none ∙ same ∙ found.1 in
    absurd (cc)

-- the order that an entry names
pub order-is : (warehouse place : ℕ) (s : Stored) (entry : Entry WaitingKey) (order : Order)
    → IsFoundAt (is_order warehouse entry.key.district entry.key.order) s.tables.orders place order
    → order_of_entry warehouse s entry ≡ order
order-is warehouse place s entry order at = ap (λ found. unwrap_or found (order_of [])) at.found

-- the undelivered orders of a warehouse are its own
pub own-waiting : (items : List Item) (number : ℕ) (s : Stored) → IsSoundWarehouse items number s.tables
    → All (λ row. row.warehouse ≡ number) s.tables.new_orders
own-waiting items number s sound =
    all-in (λ (row : NewOrder). row.warehouse ≡ number) s.tables.new_orders (λ row there.
    let has = in-all (λ (row : NewOrder). list_any (is_order row.warehouse row.district row.order) s.tables.orders ≡ true)
    s.tables.new_orders row sound.orders.new_orders there in
    let order = any-place (is_order row.warehouse row.district row.order) s.tables.orders has in
    let columns = tells-three (order.1).warehouse (order.1).district (order.1).id row.warehouse row.district row.order order.3 in
    let own = all-at (IsOwnOrder number s.tables.customers) s.tables.orders order.0 order.1 sound.orders.orders order.2 in
    sym columns.0 ∙ own.warehouse)

-- the oldest one of a district, by the first entry from the district on
module _ (layout : LayoutState) (s : Stored) (district : ℕ) (store : IsSoundStore layout s)
    (live : s.tables.new_orders ≡ live_rows s.new_order_slots) (in_order : IsInOrder is_lesser_waiting s.waiting) where
  own : All (λ row. row.warehouse ≡ layout.warehouse) (live_rows s.new_order_slots)
  own = subst (All (λ (row : NewOrder). row.warehouse ≡ layout.warehouse)) live
      (own-waiting layout.load.items layout.warehouse s store.sound)

  same-oldest : oldest layout.warehouse district s.tables
      ≡ least (map (λ row. row.order) (new_orders_of layout.warehouse district (live_rows s.new_order_slots)))
  same-oldest = ap (λ rows. least (map (λ (row : NewOrder). row.order) (new_orders_of layout.warehouse district rows))) live

  pub store-waiting : (entry : Entry WaitingKey)
      → Some entry ≡ first_from is_lesser_waiting (record { district = district; order = 0 }) s.waiting
      → entry.key.district ≡ district → IsWaiting layout.warehouse s entry
  store-waiting entry is same =
      let found = oldest-found layout.warehouse district s.new_order_slots s.waiting own in_order store.indexes.waiting entry
      (sym is) same in
      record { row = found.0; here = found.1; key = found.2; home = found.3 }

  pub store-oldest : (entry : Entry WaitingKey)
      → Some entry ≡ first_from is_lesser_waiting (record { district = district; order = 0 }) s.waiting
      → entry.key.district ≡ district → oldest layout.warehouse district s.tables ≡ entry.key.order
  store-oldest entry is same =
      same-oldest
      ∙ (oldest-found layout.warehouse district s.new_order_slots s.waiting own in_order store.indexes.waiting entry (sym is)
      same).4

  pub store-behind : (entry : Entry WaitingKey)
      → Some entry ≡ first_from is_lesser_waiting (record { district = district; order = 0 }) s.waiting
      → (entry.key.district ≡ district → ⊥) → oldest layout.warehouse district s.tables ≡ 0
  store-behind entry is differs =
      same-oldest
      ∙ oldest-behind layout.warehouse district s.new_order_slots s.waiting own in_order store.indexes.waiting entry (sym is)
      differs

  pub store-none : None ≡ first_from is_lesser_waiting (record { district = district; order = 0 }) s.waiting
      → oldest layout.warehouse district s.tables ≡ 0
  store-none is =
      same-oldest
      ∙ oldest-none layout.warehouse district s.new_order_slots s.waiting own in_order store.indexes.waiting (sym is)

-- what the delivery of the oldest order is
module _ (layout : LayoutState) (s : Stored) (entry : Entry WaitingKey) (store : IsSoundStore layout s)
    (waiting : IsWaiting layout.warehouse s entry) (live : s.tables.new_orders ≡ live_rows s.new_order_slots)
    (in_order : IsInOrder is_lesser_order s.orders) where
  abbrev entry_key : OrderKey
  entry_key = record { order = entry.key.order; district = entry.key.district }

  named : (place : ℕ) × (row : Order) × (found is_lesser_order entry_key s.orders ≡ Some place)
      × (slice_get s.tables.orders place ≡ Some row)
  named =
      let there = order-there layout s entry store waiting live in_order in
      let has = index-has is_lesser_order order-of_orders order_key_at (slice_get s.tables.orders) s.orders in_order
      store.indexes.orders there.0 there.1 there.2 in
      (there.0, there.1, ap (λ k. found is_lesser_order k s.orders) (sym there.3) ∙ has, there.2)

  named-is : order_of_entry layout.warehouse s entry ≡ named.1
  named-is = order-is layout.warehouse named.0 s entry named.1
      (order-only layout s entry store waiting live in_order named.0 named.1 named.2 named.3)

  pub entry-key : waiting_key_at waiting.row
      ≡ record {
        district = (order_of_entry layout.warehouse s entry).district;
        order = (order_of_entry layout.warehouse s entry).id;
      }
  entry-key =
      let key = order-key layout s entry store waiting live in_order named.0 named.1 named.2 named.3 in
      waiting.key
      ∙ ap₂ (λ (d : ℕ) (o : ℕ). record { district = d; order = o })
      (sym (ap (λ (row : Order). row.district) named-is ∙ ap (λ (k : OrderKey). k.district) key))
      (sym (ap (λ (row : Order). row.id) named-is ∙ ap (λ (k : OrderKey). k.order) key))

  pub entry-positive : entry.key.order ≡ 0 → ⊥
  entry-positive none =
      let key = order-key layout s entry store waiting live in_order named.0 named.1 named.2 named.3 in
      let own = all-at (IsOwnOrder layout.warehouse s.tables.customers) s.tables.orders named.0 named.1
      store.sound.orders.orders named.3 in
      let positive = own.positive in
      let id = ap (λ (k : OrderKey). k.order) key in
      absurd (omega (arith, positive, id, none))

  pub delivered-oldest : (delivery : Delivery) (district : ℕ) → delivery.warehouse ≡ layout.warehouse
      → entry.key.district ≡ district → oldest layout.warehouse district s.tables ≡ entry.key.order
      → with_delivered delivery (order_of_entry layout.warehouse s entry) s.tables
      ≡ delivered_in delivery s.tables district
  delivered-oldest delivery district home same is =
      let number_is : oldest delivery.warehouse district s.tables ≡ entry.key.order =
      ap (λ w. oldest w district s.tables) home ∙ is in
      let not_none : (oldest delivery.warehouse district s.tables == 0) ≡ false =
      ap (λ n. n == 0) number_is ∙ not-eqb entry.key.order 0 entry-positive in
      let order_is : first_or (order_of []) (is_order delivery.warehouse district (oldest delivery.warehouse district s.tables)) s.tables.orders
      ≡ order_of_entry layout.warehouse s entry =
      ap₂ (λ (w : ℕ) (n : ℕ). first_or (order_of []) (is_order w district n) s.tables.orders) home number_is
      ∙ ap (λ d. first_or (order_of []) (is_order layout.warehouse d entry.key.order) s.tables.orders) (sym same) in
      sym (ap (λ b. if b then s.tables else with_delivered delivery (first_or (order_of [])
      (is_order delivery.warehouse district (oldest delivery.warehouse district s.tables)) s.tables.orders) s.tables) not_none
      ∙ ap (λ (row : Order). with_delivered delivery row s.tables) order_is)
