-- The numbers of each warehouse of a load stay small, whatever is committed.
use Rattle.std.proofs.Common.{◌≡◌, ℕ, suc, ◌+◌, ◌*◌, ◌≤◌, ◌==◌, true, false, cond, List, [], ◌∷◌, filter, map, length, slice_get, Option, Some, None, refl, sym, ap, subst, ◌∙◌, arith}
use Rattle.std.specs.Prelude.{All, is_some}
use Rattle.std.proofs.lemmas.Bool.{eqb-true}
use Rattle.std.proofs.lemmas.List.Elements.{All-filter, All-head, All-map, All-weaker}
use Rattle.std.proofs.lemmas.Option.{IfSome_then}
use Rattle.hy_rows.specs.Finding.{is_customer}
use Rattle.hy_rows.specs.Ranges.{IsBetween}
use Rattle.hy_rows.specs.Tables.{Lists, Tables, of_warehouse}
use Rattle.hy_rows.specs.declared.customer.Customer.{Customer}
use Rattle.hy_rows.specs.declared.item.Item.{Item}
use Rattle.hy_rows.specs.declared.warehouse.Warehouse.{Warehouse}
use Rattle.hy_rows.proofs.BetweenLaws.{bounds}
use Rattle.hy_rows.proofs.RangeLaws.{allowed-at, amount-bounds, text-loaded}
use Rattle.hy_rows.specs.Catalogue.{columns_of}
use Rattle.hy_rows.specs.Rows.{item_values, warehouse_values, district_values, customer_values, history_values, order_values, new_order_values, order_line_values, stock_values}
use Rattle.hy_rows.specs.declared.catalogue.Table.TheVariants as tables
use Rattle.hy_schema.specs.declared.refusal.Refusal.{Refusal}
use Rattle.hy_schema.specs.Loads.{IsCustomerAt, IsDistrictAt, IsHistoryAt, IsItemAt, IsLoad, IsNewOrderAt, IsOrderAt, IsOrderLineAt, IsStockAt, IsWarehouseAt}
use Rattle.hy_commands.specs.declared.command.Command.{Command}
use Rattle.hy_commands.specs.declared.command.Command.TheVariants as commands
use Rattle.hy_commands.specs.declared.command.Commit.{Commit}
use Rattle.hy_commands.specs.declared.command.Commit.TheVariants as commits
use Rattle.hy_commands.specs.declared.command.Payment.{Payment}
use Rattle.hy_commands.specs.declared.command.PurchaseLine.{PurchaseLine}
use Rattle.hy_commands.specs.declared.command.Who.{Who}
use Rattle.hy_commands.specs.declared.command.Who.TheVariants as who
use Rattle.hy_commands.specs.declared.edition.Edition.{Edition}
use Rattle.hy_commands.specs.Customers.{customer_meant, identity_of}
use Rattle.hy_commands.specs.Deliveries.{delivered}
use Rattle.hy_commands.specs.Growth.{HasGrownBy, IsCustomerUpTo, IsDistrictUpTo, IsLineUpTo, IsNewOrderUpTo, IsOrderUpTo, IsPaymentUpTo, IsStockUpTo, IsWarehouseUpTo}
use Rattle.hy_commands.specs.Invariant.{IsSoundWarehouse}
use Rattle.hy_commands.specs.NewOrders.{ordered, supplied}
use Rattle.hy_commands.specs.Parts.{database_of, is_there, number_in, part, part_unless, refusal_in}
use Rattle.hy_commands.specs.Replay.{HasWarehouse, committed, replay, rows_after}
use Rattle.hy_commands.specs.Transactions.{accepted, act, has_customer, outcome_of, payer, refusal_of}
use Rattle.hy_commands.proofs.AcceptedLaws.{IsAccepted, IsAcceptedIn, accepted-delivery, accepted-in, accepted-not_refused, accepted-payment, accepted-purchase, delivery-in_range, named-payment, named-purchase, own-suppliers, payment-in_range, purchase-in_range}
use Rattle.hy_commands.proofs.DatabaseLaws.{rows-load, there-load}
use Rattle.hy_commands.proofs.GrowthLaws.{ItemsFit, grown-delivered, grown-later, grown-ordered, grown-paid, grown-paid_where, grown-supplied, payer-small}
use Rattle.hy_commands.proofs.Kept.{customer-now, not_0, sound-committed}
use Rattle.hy_commands.proofs.ListLaws.{All-find, find-any, find-passes, found-any}
use Rattle.hy_commands.proofs.OnceLaws.{tells-three}
use Rattle.hy_commands.proofs.SameCustomers.{same-committed}
use Rattle.hy_commands.proofs.SoundLoad.{all-by_place, sound-load}

-- ---- commands

module _ (items : List Item) (fits : ItemsFit items) (number : ℕ) (small : number ≤ 16) where
  grown-accepted : (edition : Edition) (command : Command) (tables : Tables) (n : ℕ) → IsAccepted items number command tables
      → IsSoundWarehouse items number tables → HasGrownBy n tables
      → HasGrownBy (n + 1) (accepted items number edition command tables).tables
  grown-accepted edition (commands.NewOrder order) tables n passed sound grown =
      let purchase = accepted-purchase items number order tables passed in
      grown-ordered items fits number order tables n purchase.count purchase.in_range purchase.moment passed.known
      (All-weaker (λ (line : PurchaseLine). line.supply_warehouse ≡ number) (λ line. line.supply_warehouse ≤ 16)
      (λ line own. omega (arith, own, small)) order.lines (own-suppliers number order passed.named))
      (sym (found-any (is_customer order.warehouse order.district order.customer) tables.customers) ∙ passed.customer)
      grown
  grown-accepted edition (commands.Payment payment) tables n passed sound grown =
      let paid = accepted-payment items number payment tables passed in
      grown-paid edition payment (payer payment tables).id tables n paid.amount paid.moment
      (payer-small payment tables n (10 * n) grown.customers) grown
  grown-accepted edition (commands.OrderStatus status) tables n passed sound grown = grown-later n tables grown
  grown-accepted edition (commands.Delivery delivery) tables n passed sound grown =
      let done = accepted-delivery items number delivery tables passed in
      grown-delivered items number delivery done.carrier done.moment (not_0 10 delivery.carrier done.carrier)
      (not_0 1_000_000_000_000_000 delivery.at done.moment) n tables sound grown
  grown-accepted edition (commands.StockLevel level) tables n passed sound grown = grown-later n tables grown

  grown-outcome : (edition : Edition) (command : Command) (tables : Tables) (n : ℕ) (refusal : Option Refusal)
      → refusal_of items number command tables ≡ refusal → IsSoundWarehouse items number tables → HasGrownBy n tables
      → HasGrownBy (n + 1) (outcome_of refusal items number edition command tables).tables
  grown-outcome edition command tables n (Some refusal) is sound grown = grown-later n tables grown
  grown-outcome edition command tables n None is sound grown =
      grown-accepted edition command tables n (accepted-not_refused items number command tables is) sound grown

  pub grown-act : (edition : Edition) (command : Command) (tables : Tables) (n : ℕ) → IsSoundWarehouse items number tables
      → HasGrownBy n tables → HasGrownBy (n + 1) (act items number edition command tables).tables
  grown-act edition command tables n sound grown =
      grown-outcome edition command tables n (refusal_of items number command tables) refl sound grown

-- ---- loads

module _ (load : Lists) (is_load : IsLoad load) where
  abbrev all_rows : Tables
  all_rows = load.tables

  items-fit : ItemsFit load.items
  items-fit =
      all-by_place (λ row. (row.id ≤ 100_000) × (row.price ≤ 1_000_000)) load.items
      (λ place. IfSome_then (slice_get load.items place) {P = IsItemAt place}
      {Q = λ row. (row.id ≤ 100_000) × (row.price ≤ 1_000_000)} (is_load.items.each place)
      (λ row right.
      let ranges = allowed-at (columns_of tables.Item) (item_values row) right.0 in ((bounds 1 100_000 row.id (ranges 0)).1, (bounds 1 1_000_000 row.price (ranges 3)).1)))

  warehouses-fit : All (λ row. IsWarehouseUpTo 0 row × (row.id ≤ 16)) all_rows.warehouses
  warehouses-fit =
      all-by_place (λ row. IsWarehouseUpTo 0 row × (row.id ≤ 16)) all_rows.warehouses
      (λ place. IfSome_then (slice_get all_rows.warehouses place) {P = IsWarehouseAt place}
      {Q = λ row. IsWarehouseUpTo 0 row × (row.id ≤ 16)} (is_load.warehouses.each place)
      (λ row right.
      let ranges = allowed-at (columns_of tables.Warehouse) (warehouse_values row) right.0 in (record { name = (text-loaded 10 row.name (ranges 1)).0; ytd = amount-bounds _ _ row.ytd (ranges 3) }, (bounds 1 16 row.id (ranges 0)).1)))

  districts-fit : All (IsDistrictUpTo 0) all_rows.districts
  districts-fit =
      all-by_place (IsDistrictUpTo 0) all_rows.districts
      (λ place. IfSome_then (slice_get all_rows.districts place) {P = IsDistrictAt (length all_rows.warehouses) place}
      {Q =
      IsDistrictUpTo 0}
      (is_load.districts.each place)
      (λ row right.
      let ranges = allowed-at (columns_of tables.District) (district_values row) right.0 in record {
        name = (text-loaded 10 row.name (ranges 2)).0;
        ytd = amount-bounds _ _ row.ytd (ranges 4);
        next_order = omega (arith, (bounds 1 1_000_000_000 row.next_order (ranges 5)).1);
      }))

  customers-fit : All (IsCustomerUpTo 0 0) all_rows.customers
  customers-fit =
      all-by_place (IsCustomerUpTo 0 0) all_rows.customers
      (λ place. IfSome_then (slice_get all_rows.customers place) {P = IsCustomerAt (length all_rows.warehouses)
      all_rows.customers place}
      {Q = IsCustomerUpTo 0 0} (is_load.customers.each place)
      (λ row right.
      let ranges = allowed-at (columns_of tables.Customer) (customer_values row) right.0 in record {
        id = (bounds 1 3_000 row.id (ranges 0)).1;
        balance = amount-bounds _ _ row.balance (ranges 8);
        ytd_payment = amount-bounds _ _ row.ytd_payment (ranges 9);
        payment_count = omega (arith, (bounds 0 1_000_000_000_000_000 row.payment_count (ranges 10)).1);
        delivery_count = omega (arith, (bounds 0 1_000_000_000_000_000 row.delivery_count (ranges 11)).1);
      }))

  history-fit : All IsPaymentUpTo all_rows.history
  history-fit =
      all-by_place IsPaymentUpTo all_rows.history
      (λ place. IfSome_then (slice_get all_rows.history place) {P = IsHistoryAt all_rows.districts all_rows.customers
      place} {Q =
      IsPaymentUpTo}
      (is_load.history.each place)
      (λ row right.
      let ranges = allowed-at (columns_of tables.History) (history_values row) right.0 in record {
        customer = (bounds 1 3_000 row.customer (ranges 0)).1;
        date = (bounds 1 1_000_000_000_000_000 row.date (ranges 5)).1;
        amount = amount-bounds _ _ row.amount (ranges 6);
        information = (text-loaded 24 row.information (ranges 7)).0;
      }))

  orders-fit : All (IsOrderUpTo 0) all_rows.orders
  orders-fit =
      all-by_place (IsOrderUpTo 0) all_rows.orders
      (λ place. IfSome_then (slice_get all_rows.orders place) {P = IsOrderAt all_rows.districts all_rows.customers
      all_rows.orders place} {Q =
      IsOrderUpTo 0}
      (is_load.orders.each place)
      (λ row right.
      let ranges = allowed-at (columns_of tables.Order) (order_values row) right.0 in record {
        id = omega (arith, (bounds 1 1_000_000_000 row.id (ranges 0)).1);
        customer = (bounds 1 3_000 row.customer (ranges 3)).1;
        entry_date = (bounds 1 1_000_000_000_000_000 row.entry_date (ranges 4)).1;
        carrier = (bounds 0 10 row.carrier (ranges 5)).1;
        line_count = (bounds 5 15 row.line_count (ranges 6)).1;
        all_local = (bounds 0 1 row.all_local (ranges 7)).1;
      }))

  new_orders-fit : All (IsNewOrderUpTo 0) all_rows.new_orders
  new_orders-fit =
      all-by_place (IsNewOrderUpTo 0) all_rows.new_orders
      (λ place. IfSome_then (slice_get all_rows.new_orders place) {P = IsNewOrderAt all_rows.orders
      all_rows.new_orders place} {Q =
      IsNewOrderUpTo 0}
      (is_load.new_orders.each place)
      (λ row right.
      let ranges = allowed-at (columns_of tables.NewOrder) (new_order_values row) right.0 in omega (arith, (bounds 1 1_000_000_000 row.order (ranges 0)).1)))

  lines-fit : All (IsLineUpTo 0) all_rows.order_lines
  lines-fit =
      all-by_place (IsLineUpTo 0) all_rows.order_lines
      (λ place. IfSome_then (slice_get all_rows.order_lines place) {P = IsOrderLineAt all_rows.warehouses load.items
      all_rows.orders
      all_rows.order_lines place}
      {Q = IsLineUpTo 0} (is_load.order_lines.each place)
      (λ row right.
      let ranges = allowed-at (columns_of tables.OrderLine) (order_line_values row) right.0 in record {
        order = omega (arith, (bounds 1 1_000_000_000 row.order (ranges 0)).1);
        number = (bounds 1 15 row.number (ranges 3)).1;
        item = (bounds 1 100_000 row.item (ranges 4)).1;
        supply_warehouse = (bounds 1 16 row.supply_warehouse (ranges 5)).1;
        delivery_date = (bounds 0 1_000_000_000_000_000 row.delivery_date (ranges 6)).1;
        quantity = (bounds 1 10 row.quantity (ranges 7)).1;
        amount = amount-bounds _ _ row.amount (ranges 8);
      }))

  stock-fit : All (IsStockUpTo 0) all_rows.stock
  stock-fit =
      all-by_place (IsStockUpTo 0) all_rows.stock
      (λ place. IfSome_then (slice_get all_rows.stock place) {P = IsStockAt (length all_rows.warehouses) (length
      load.items) place}
      {Q = IsStockUpTo 0}
      (is_load.stock.each place)
      (λ row right.
      let ranges = allowed-at (columns_of tables.Stock) (stock_values row) right.0 in record {
        quantity = (bounds 0 9_999 row.quantity (ranges 2)).1;
        ytd = omega (arith, (bounds 0 1_000_000_000_000_000 row.ytd (ranges 3)).1);
        order_count = omega (arith, (bounds 0 1_000_000_000_000_000 row.order_count (ranges 4)).1);
        remote_count = omega (arith, (bounds 0 1_000_000_000_000_000 row.remote_count (ranges 5)).1);
      }))

  grown-load : (number : ℕ) → HasGrownBy 0 (of_warehouse number all_rows)
  grown-load number = record {
    warehouses =
        All-filter (λ row. row.id == number) (IsWarehouseUpTo 0) all_rows.warehouses
        (All-weaker (λ row. IsWarehouseUpTo 0 row × (row.id ≤ 16)) (IsWarehouseUpTo 0) (λ row both. both.0)
        all_rows.warehouses warehouses-fit);
    districts = All-filter (λ row. row.warehouse == number) (IsDistrictUpTo 0) all_rows.districts districts-fit;
    customers = All-filter (λ row. row.warehouse == number) (IsCustomerUpTo 0 0) all_rows.customers customers-fit;
    history = All-filter (λ row. row.warehouse == number) IsPaymentUpTo all_rows.history history-fit;
    orders = All-filter (λ row. row.warehouse == number) (IsOrderUpTo 0) all_rows.orders orders-fit;
    new_orders = All-filter (λ row. row.warehouse == number) (IsNewOrderUpTo 0) all_rows.new_orders new_orders-fit;
    order_lines = All-filter (λ row. row.warehouse == number) (IsLineUpTo 0) all_rows.order_lines lines-fit;
    stock = All-filter (λ row. row.warehouse == number) (IsStockUpTo 0) all_rows.stock stock-fit;
  }

  -- the number of a warehouse of the load
  number-small : (number : ℕ) → IsBetween 1 (length all_rows.warehouses) number → number ≤ 16
  number-small number between =
      let sound = sound-load number load is_load between in
      let ids : All (λ id. id ≤ 16) (map (λ (row : Warehouse). row.id) (of_warehouse number all_rows).warehouses) =
      All-map (λ id. id ≤ 16) (λ (row : Warehouse). row.id) (of_warehouse number all_rows).warehouses
      (All-filter (λ row. row.id == number) (λ row. row.id ≤ 16) all_rows.warehouses
      (All-weaker (λ row. IsWarehouseUpTo 0 row × (row.id ≤ 16)) (λ row. row.id ≤ 16) (λ row both. both.1)
      all_rows.warehouses warehouses-fit)) in
      All-head (λ id. id ≤ 16) number [] (subst (All (λ id. id ≤ 16)) sound.rows.warehouse ids)

  -- ---- parts of commands

  -- the number that a payment names its customer by
  named-small : (payment : Payment) → IsAcceptedIn (database_of load) (commands.Payment payment)
      → number_in payment.who ≤ 3_000
  named-small payment passed =
      let own = there-load load payment.customer_warehouse
      (named-payment (is_there (database_of load)) payment passed.named).1 in
      known payment.who (ap (has_customer (commands.Payment payment)) (sym (rows-load load payment.customer_warehouse
      own)) ∙ passed.customer)
    where
      known : (whom : Who)
          → is_some (customer_meant payment.customer_warehouse payment.customer_district whom
          (filter (λ row. row.warehouse == payment.customer_warehouse) all_rows.customers)) ≡ true
          → number_in whom ≤ 3_000
      known (who.Number number) there =
          let own : List Customer = filter (λ row. row.warehouse == payment.customer_warehouse) all_rows.customers in
          let found = find-any (is_customer payment.customer_warehouse payment.customer_district number) own
          (sym (found-any (is_customer payment.customer_warehouse payment.customer_district number) own) ∙ there) in
          let same = (tells-three (found.0).warehouse (found.0).district (found.0).id payment.customer_warehouse
          payment.customer_district number
          (find-passes (is_customer payment.customer_warehouse payment.customer_district number) own found.0 found.1)).2
          in
          let small = (All-find (IsCustomerUpTo 0 0) (is_customer payment.customer_warehouse payment.customer_district
          number) own found.0
          (All-filter (λ row. row.warehouse == payment.customer_warehouse) (IsCustomerUpTo 0 0) all_rows.customers
          customers-fit) found.1).id in
          omega (arith, same, small)
      known (who.Last name) there = omega arith

  module _ (number : ℕ) (has : HasWarehouse load number) where
    grown-part : (edition : Edition) (command : Command) (tables : Tables) (n : ℕ)
        → map identity_of tables.customers ≡ map identity_of (of_warehouse number all_rows).customers
        → IsAcceptedIn (database_of load) command → IsSoundWarehouse load.items number tables → HasGrownBy n tables
        → HasGrownBy (n + 1) (part load.items number edition command tables)
    grown-part edition (commands.NewOrder order) tables n same passed sound grown =
        let range = purchase-in_range order.warehouse order refl passed.in_range passed.districts in
        let suppliers = (named-purchase (is_there (database_of load)) order passed.named).1 in
        elim (order.warehouse == number) as (λ b. (order.warehouse == number) ≡ b
        → HasGrownBy (n + 1) (supplied number order (cond b (ordered load.items order tables) tables))) [
          | true ↦ λ own.
              let home : order.warehouse ≡ number = eqb-true order.warehouse number own in
              let there = customer-now load number (commands.NewOrder order) tables has home same passed in
              grown-ordered load.items items-fit number order tables n range.count range.in_range range.moment
              passed.known
              (All-weaker (λ (line : PurchaseLine). is_there (database_of load) line.supply_warehouse ≡ true)
              (λ line. line.supply_warehouse ≤ 16)
              (λ line named. number-small line.supply_warehouse (there-load load line.supply_warehouse named))
              order.lines suppliers)
              (sym (found-any (is_customer order.warehouse order.district order.customer) tables.customers) ∙ there)
              grown
          | false ↦ λ other. grown-supplied number order tables n range.count range.in_range grown
        ] refl
    grown-part edition (commands.Payment payment) tables n same passed sound grown =
        let range = payment-in_range payment.warehouse payment refl passed.in_range passed.districts in
        grown-paid_where edition payment (number_in payment.who) tables n range.amount range.moment (named-small payment passed)
        grown (payment.warehouse == number) (payment.customer_warehouse == number)
    grown-part edition (commands.OrderStatus status) tables n same passed sound grown = grown-later n tables grown
    grown-part edition (commands.Delivery delivery) tables n same passed sound grown =
        let range = delivery-in_range delivery.warehouse delivery refl passed.in_range in
        elim (delivery.warehouse == number) as (λ b. HasGrownBy (n + 1) (cond b (delivered delivery tables) tables)) [
          | true ↦ grown-delivered load.items number delivery range.carrier range.moment
              (not_0 10 delivery.carrier range.carrier) (not_0 1_000_000_000_000_000 delivery.at range.moment) n tables
              sound grown
          | false ↦ grown-later n tables grown
        ]
    grown-part edition (commands.StockLevel level) tables n same passed sound grown = grown-later n tables grown

    grown-part_unless : (edition : Edition) (command : Command) (tables : Tables) (n : ℕ) (refusal : Option Refusal)
        → refusal_in (database_of load) command ≡ refusal
        → map identity_of tables.customers ≡ map identity_of (of_warehouse number all_rows).customers
        → IsSoundWarehouse load.items number tables → HasGrownBy n tables
        → HasGrownBy (n + 1) (part_unless refusal load.items number edition command tables)
    grown-part_unless edition command tables n (Some refusal) is same sound grown = grown-later n tables grown
    grown-part_unless edition command tables n None is same sound grown =
        grown-part edition command tables n same (accepted-in (database_of load) command is) sound grown

    -- ---- commits

    pub grown-committed : (tables : Tables) (commit : Commit) (n : ℕ)
        → map identity_of tables.customers ≡ map identity_of (of_warehouse number all_rows).customers
        → IsSoundWarehouse load.items number tables → HasGrownBy n tables
        → HasGrownBy (n + 1) (committed load number tables commit)
    grown-committed tables (commits.Local edition command) n same sound grown =
        grown-act load.items items-fit number (number-small number has) edition command tables n sound grown
    grown-committed tables (commits.Cross edition crossing command) n same sound grown =
        grown-part_unless edition command tables n (refusal_in (database_of load) command) refl same sound grown

    pub grown-replay : (loaded : Tables) (commits : List Commit) (n : ℕ)
        → map identity_of loaded.customers ≡ map identity_of (of_warehouse number all_rows).customers
        → IsSoundWarehouse load.items number loaded → HasGrownBy n loaded
        → HasGrownBy (n + length commits) (replay load number loaded commits)
    grown-replay loaded [] n same sound grown = subst (λ n. HasGrownBy n loaded) (omega arith) grown
    grown-replay loaded (commit ∷ commits) n same sound grown =
        let after : Tables = committed load number loaded commit in
        let one_more : n + 1 + length commits ≡ n + suc (length commits) = omega arith in
        subst (λ n. HasGrownBy n (replay load number after commits)) one_more
        (grown-replay after commits (n + 1) (same-committed load number loaded commit ∙ same)
        (sound-committed load number has loaded commit same sound) (grown-committed loaded commit n same sound grown))

-- the numbers of each warehouse of a load, after each list of commits
pub grown-rows : (lists : Lists) (number : ℕ) (commits : List Commit) → IsLoad lists → HasWarehouse lists number
    → HasGrownBy (length commits) (rows_after lists number commits)
grown-rows lists number commits is_load has =
    let same : 0 + length commits ≡ length commits = omega arith in
    subst (λ n. HasGrownBy n (rows_after lists number commits)) same
    (grown-replay lists is_load number has (of_warehouse number lists.tables) commits 0 refl
    (sound-load number lists is_load has) (grown-load lists is_load number))
