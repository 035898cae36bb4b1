-- What a command adds to the numbers of a warehouse.
use Rattle.std.proofs.Common.{◌≡◌, ℕ, zero, suc, ◌+◌, ◌-◌, ◌*◌, ◌/◌, ◌≤◌, ℤ, pos, ◌+ℤ◌, ◌-ℤ◌, ◌≤ℤ◌, ◌==◌, Bool, true, false, cond, not, List, [], ◌∷◌, ◌++◌, filter, length, Some, refl, sym, subst, arith, length-append}
use Rattle.std.specs.Prelude.{All, codes, fold, nat_le, slice_get, unwrap_or}
use Rattle.std.specs.List.{find, list_all, list_any}
use Rattle.std.proofs.Math.Nat.{mul-le-mul_left}
use Rattle.std.proofs.lemmas.Int.{ints}
use Rattle.std.proofs.lemmas.Bool.{and_parts, eqb-true, leb-false}
use Rattle.std.proofs.lemmas.List.Elements.{All-append, All-cons, All-filter, All-head, All-map, All-nil, All-push, All-tail, All-weaker}
use Rattle.std.proofs.lemmas.List.Sums.{AllPass-from_list_all, count_by-le-length, length-filter}
use Rattle.hy_rows.specs.Finding.{first_or, is_customer, is_district, is_warehouse, with_changed}
use Rattle.hy_rows.specs.Ranges.{IsBetween}
use Rattle.hy_rows.specs.Rows.{customer_of, district_of, order_of, warehouse_of}
use Rattle.hy_rows.specs.Tables.{Tables}
use Rattle.hy_rows.specs.declared.customer.Customer.{Customer}
use Rattle.hy_rows.specs.declared.district.District.{District}
use Rattle.hy_rows.specs.declared.item.Item.{Item}
use Rattle.hy_rows.specs.declared.order.Order.{Order}
use Rattle.hy_rows.specs.declared.order_line.OrderLine.{OrderLine}
use Rattle.hy_rows.specs.declared.stock.Stock.{Stock}
use Rattle.hy_rows.specs.declared.warehouse.Warehouse.{Warehouse}
use Rattle.hy_rows.proofs.BetweenLaws.{bounds}
use Rattle.hy_schema.specs.Conditions.{column_sum}
use Rattle.hy_schema.specs.Keys.{district_numbers}
use Rattle.hy_schema.specs.Related.{is_item, is_line_of, is_new_order, is_order, lines_of}
use Rattle.hy_commands.specs.declared.command.Delivery.{Delivery}
use Rattle.hy_commands.specs.declared.command.Payment.{Payment}
use Rattle.hy_commands.specs.declared.command.Purchase.{Purchase}
use Rattle.hy_commands.specs.declared.command.PurchaseLine.{PurchaseLine}
use Rattle.hy_commands.specs.declared.command.Who.{Who}
use Rattle.hy_commands.specs.declared.command.Who.TheVariants as who
use Rattle.hy_commands.specs.declared.edition.Edition.{Edition}
use Rattle.hy_commands.specs.Commands.{is_line_in_range}
use Rattle.hy_commands.specs.Customers.{customer_meant, is_earlier, is_named}
use Rattle.hy_commands.specs.Deliveries.{carried, customer_delivered, delivered, delivered_in, delivered_line, oldest, order_cents, with_delivered}
use Rattle.hy_commands.specs.Growth.{HasGrownBy, IsCustomerUpTo, IsDistrictUpTo, IsLineUpTo, IsMoneyUpTo, IsNewOrderUpTo, IsOrderUpTo, IsPaymentUpTo, IsStockUpTo, IsWarehouseUpTo}
use Rattle.hy_commands.specs.Invariant.{IsSoundWarehouse}
use Rattle.hy_commands.specs.NewOrders.{has_item, is_stock, line_cents, line_row, line_rows, new_order_row, no_item, order_number, order_row, ordered, quantity_left, sold, sold_line, supplied, with_next_order}
use Rattle.hy_commands.specs.Payments.{customer_paid, district_paid, history_row, paid_by, paid_in, warehouse_paid}
use Rattle.hy_commands.specs.Sorting.{inserted, sorted}
use Rattle.hy_commands.specs.Transactions.{payer}
use Rattle.hy_commands.proofs.KeptByDelivery.{oldest-there, sound-delivered_in}
use Rattle.hy_commands.proofs.ListLaws.{All-find, column_sum-cons, find-any, find-passes}
use Rattle.hy_commands.proofs.MeetsLaws.{CountsLines, meets-facts}
use Rattle.hy_commands.proofs.OnceLaws.{tells-three}

-- ---- lists

-- what holds of the rows once the first that passes was changed
pub All-with_changed_to : {Row : Type 0} (P Q : Row → Type 0) (test : Row → Bool) (change : Row → Row)
    → ((row : Row) → P row → Q (change row)) → ((row : Row) → P row → Q row) → (rows : List Row)
    → All P rows → All Q (with_changed test change rows)
All-with_changed_to P Q test change changed same [] all = All-nil Q
All-with_changed_to P Q test change changed same (row ∷ rows) all =
    elim (test row) as (λ b. All Q (cond b (change row ∷ rows) (row ∷ with_changed test change rows))) [
      | true ↦ All-cons Q (change row) rows (changed row (All-head P row rows all)) (All-weaker P Q same rows
          (All-tail P row rows all))
      | false ↦ All-cons Q row (with_changed test change rows) (same row (All-head P row rows all))
          (All-with_changed_to P Q test change changed same rows (All-tail P row rows all))
    ]

-- the first row that passes, or another that does as well
first_or-all : {Row : Type 0} (P : Row → Type 0) (none : Row) (test : Row → Bool) → P none → (rows : List Row) → All P
    rows
    → P (first_or none test rows)
first_or-all P none test fits [] all = fits
first_or-all P none test fits (row ∷ rows) all =
    elim (test row) as (λ b. P (unwrap_or (cond b (Some row) (find test rows)) none)) [
      | true ↦ All-head P row rows all
      | false ↦ first_or-all P none test fits rows (All-tail P row rows all)
    ]

-- rows in order are rows
All-sorted : {Row : Type 0} (P : Row → Type 0) (less : Row → Row → Bool) (rows : List Row) → All P rows → All P
    (sorted less rows)
All-sorted P less [] all = All-nil P
All-sorted {Row = Row} P less (row ∷ rows) all =
    put row (sorted less rows) (All-head P row rows all) (All-sorted P less rows (All-tail P row rows all))
  where
    put : (new : Row) (rows : List Row) → P new → All P rows → All P (inserted less new rows)
    put new [] fits all = All-cons P new [] fits all
    put new (row ∷ rows) fits all =
        elim (less new row) as (λ b. All P (cond b (new ∷ row ∷ rows) (row ∷ inserted less new rows))) [
          | true ↦ All-cons P new (row ∷ rows) fits all
          | false ↦ All-cons P row (inserted less new rows) (All-head P row rows all) (put new rows fits (All-tail P
              row rows all))
        ]

-- a row at a place is a row
All-at : {Row : Type 0} (P : Row → Type 0) (none : Row) → P none → (rows : List Row) (place : ℕ) → All P rows
    → P (unwrap_or (slice_get rows place) none)
All-at P none fits [] place all = fits
All-at P none fits (row ∷ rows) zero all = All-head P row rows all
All-at P none fits (row ∷ rows) (suc place) all = All-at P none fits rows place (All-tail P row rows all)

-- a sum of amounts from 0 to a bound
pub sum-between : {Row : Type 0} (column : Row → ℤ) (rows : List Row)
    → All (λ row. (pos 0 ≤ℤ column row) × (column row ≤ℤ pos 10_000_000)) rows
    → (pos 0 ≤ℤ column_sum column rows) × (column_sum column rows ≤ℤ pos (10_000_000 * length rows))
sum-between column [] all = (omega (arith, ints), omega (arith, ints))
sum-between column (row ∷ rows) all =
    let here = All-head (λ row. (pos 0 ≤ℤ column row) × (column row ≤ℤ pos 10_000_000)) row rows all in
    let later = sum-between column rows (All-tail (λ row. (pos 0 ≤ℤ column row) × (column row ≤ℤ pos 10_000_000)) row
    rows all) in
    let split = column_sum-cons column row rows in (
      omega (arith, ints, here.0, here.1, later.0, later.1, split),
      omega (
        arith,
        ints,
        here.0,
        here.1,
        later.0,
        later.1,
        split,
      ),
    )

-- ---- money

pub money-later : (growth target : ℕ) (cents : ℤ) → growth ≤ target → IsMoneyUpTo growth cents → IsMoneyUpTo target cents
money-later growth target cents more up = (omega (arith, ints, up.0, more), omega (arith, ints, up.1, more))

money-more : (growth more target : ℕ) (cents amount : ℤ) → growth + more ≤ target → pos 0 ≤ℤ amount → amount ≤ℤ pos more
    → IsMoneyUpTo growth cents → IsMoneyUpTo target (cents +ℤ amount)
money-more growth more target cents amount room low high up =
    (omega (arith, ints, up.0, room, low, high), omega (arith, ints, up.1, room, low, high))

money-less : (growth more target : ℕ) (cents amount : ℤ) → growth + more ≤ target → pos 0 ≤ℤ amount → amount ≤ℤ pos more
    → IsMoneyUpTo growth cents → IsMoneyUpTo target (cents -ℤ amount)
money-less growth more target cents amount room low high up =
    (omega (arith, ints, up.0, room, low, high), omega (arith, ints, up.1, room, low, high))

-- ---- rows one commit later

module _ (n : ℕ) where
  warehouse-later : (row : Warehouse) → IsWarehouseUpTo n row → IsWarehouseUpTo (n + 1) row
  warehouse-later row up = record {
    name = up.name;
    ytd = money-later (500_000 * n) (500_000 * (n + 1)) row.ytd (omega arith) up.ytd;
  }

  district-later : (row : District) → IsDistrictUpTo n row → IsDistrictUpTo (n + 1) row
  district-later row up = record {
    name = up.name;
    ytd = money-later (500_000 * n) (500_000 * (n + 1)) row.ytd (omega arith) up.ytd;
    next_order = omega (arith, up.next_order);
  }

  customer-later : (k j : ℕ) → k ≤ j → (row : Customer) → IsCustomerUpTo n k row → IsCustomerUpTo (n + 1) j row
  customer-later k j below row up = record {
    id = up.id;
    balance = money-later (500_000 * n + 150_000_000 * k) (500_000 * (n + 1) + 150_000_000 * j) row.balance (omega
        (arith, below)) up.balance;
    ytd_payment = money-later (500_000 * n) (500_000 * (n + 1)) row.ytd_payment (omega arith) up.ytd_payment;
    payment_count = omega (arith, up.payment_count);
    delivery_count = omega (arith, up.delivery_count, below);
  }

  order-later : (row : Order) → IsOrderUpTo n row → IsOrderUpTo (n + 1) row
  order-later row up = record {
    id = omega (arith, up.id);
    customer = up.customer;
    entry_date = up.entry_date;
    carrier = up.carrier;
    line_count = up.line_count;
    all_local = up.all_local;
  }

  line-later : (row : OrderLine) → IsLineUpTo n row → IsLineUpTo (n + 1) row
  line-later row up = record {
    order = omega (arith, up.order);
    number = up.number;
    item = up.item;
    supply_warehouse = up.supply_warehouse;
    delivery_date = up.delivery_date;
    quantity = up.quantity;
    amount = up.amount;
  }

pub stock-later : (k j : ℕ) → k ≤ j → (row : Stock) → IsStockUpTo k row → IsStockUpTo j row
stock-later k j below row up = record {
  quantity = up.quantity;
  ytd = omega (arith, up.ytd, below);
  order_count = omega (arith, up.order_count, below);
  remote_count = omega (arith, up.remote_count, below);
}

pub grown-later : (n : ℕ) (tables : Tables) → HasGrownBy n tables → HasGrownBy (n + 1) tables
grown-later n tables grown = record {
  warehouses = All-weaker (IsWarehouseUpTo n) (IsWarehouseUpTo (n + 1)) (warehouse-later n) tables.warehouses
      grown.warehouses;
  districts = All-weaker (IsDistrictUpTo n) (IsDistrictUpTo (n + 1)) (district-later n) tables.districts
      grown.districts;
  customers =
      All-weaker (IsCustomerUpTo n (10 * n)) (IsCustomerUpTo (n + 1) (10 * (n + 1))) (customer-later n (10 * n) (10 *
      (n + 1)) (omega arith))
      tables.customers grown.customers;
  history = grown.history;
  orders = All-weaker (IsOrderUpTo n) (IsOrderUpTo (n + 1)) (order-later n) tables.orders grown.orders;
  new_orders = All-weaker (IsNewOrderUpTo n) (IsNewOrderUpTo (n + 1)) (λ row up. omega (arith, up)) tables.new_orders
      grown.new_orders;
  order_lines = All-weaker (IsLineUpTo n) (IsLineUpTo (n + 1)) (line-later n) tables.order_lines grown.order_lines;
  stock = All-weaker (IsStockUpTo (15 * n)) (IsStockUpTo (15 * (n + 1))) (stock-later (15 * n) (15 * (n + 1)) (omega
      arith)) tables.stock grown.stock;
}

-- ---- Payment

-- the customer who pays has one of the customers' numbers
pub payer-small : (payment : Payment) (tables : Tables) (n k : ℕ) → All (IsCustomerUpTo n k) tables.customers
    → (payer payment tables).id ≤ 3_000
payer-small payment tables n k all = meant payment.who
  where
    small : All (λ (row : Customer). row.id ≤ 3_000) tables.customers
    small = All-weaker (IsCustomerUpTo n k) (λ row. row.id ≤ 3_000) (λ row up. up.id) tables.customers all

    meant : (whom : Who)
        → (unwrap_or (customer_meant payment.customer_warehouse payment.customer_district whom tables.customers)
        (customer_of [])).id ≤ 3_000
    meant (who.Number number) =
        first_or-all (λ (row : Customer). row.id ≤ 3_000) (customer_of [])
        (is_customer payment.customer_warehouse payment.customer_district number) (omega arith) tables.customers small
    meant (who.Last name) =
        let rows : List Customer = sorted is_earlier
        (filter (is_named payment.customer_warehouse payment.customer_district name) tables.customers) in
        All-at (λ (row : Customer). row.id ≤ 3_000) (customer_of []) (omega arith) rows ((length rows + 1) / 2 - 1)
        (All-sorted (λ (row : Customer). row.id ≤ 3_000) is_earlier
        (filter (is_named payment.customer_warehouse payment.customer_district name) tables.customers)
        (All-filter (is_named payment.customer_warehouse payment.customer_district name) (λ row. row.id ≤ 3_000)
        tables.customers small))

-- what a payment adds to some money
paid-up : (n cents : ℕ) (money : ℤ) → IsBetween 100 500_000 cents → IsMoneyUpTo (500_000 * n) money
    → IsMoneyUpTo (500_000 * (n + 1)) (money +ℤ pos cents)
paid-up n cents money amount up =
    let high = (bounds 100 500_000 cents amount).1 in
    money-more (500_000 * n) 500_000 (500_000 * (n + 1)) money (pos cents) (omega arith) (omega (arith, ints))
    (omega (arith, ints, high)) up

-- at the home warehouse
pub grown-paid_in : (payment : Payment) (customer : ℕ) (tables : Tables) (n : ℕ) → IsBetween 100 500_000 payment.amount
    → IsBetween 1 1_000_000_000_000_000 payment.at → customer ≤ 3_000 → HasGrownBy n tables
    → HasGrownBy (n + 1) (paid_in payment customer tables)
grown-paid_in payment customer tables n amount moment small grown =
    let high = (bounds 100 500_000 payment.amount amount).1 in
    let late = (bounds 1 1_000_000_000_000_000 payment.at moment).1 in
    let later = grown-later n tables grown in
    let warehouse_name : length (first_or (warehouse_of []) (is_warehouse payment.warehouse) tables.warehouses).name ≤
    10 =
    first_or-all (λ (row : Warehouse). length row.name ≤ 10) (warehouse_of []) (is_warehouse payment.warehouse) (omega
    arith)
    tables.warehouses (All-weaker (IsWarehouseUpTo n) (λ row. length row.name ≤ 10) (λ row up. up.name)
    tables.warehouses grown.warehouses) in
    let district_name : length (first_or (district_of []) (is_district payment.warehouse payment.district)
    tables.districts).name ≤ 10 =
    first_or-all (λ (row : District). length row.name ≤ 10) (district_of []) (is_district payment.warehouse
    payment.district) (omega arith)
    tables.districts (All-weaker (IsDistrictUpTo n) (λ row. length row.name ≤ 10) (λ row up. up.name) tables.districts
    grown.districts) in
    record {
      warehouses =
          All-with_changed_to (IsWarehouseUpTo n) (IsWarehouseUpTo (n + 1)) (is_warehouse payment.warehouse)
          (warehouse_paid payment.amount)
          (λ row up. record { name = up.name; ytd = paid-up n payment.amount row.ytd amount up.ytd })
          (warehouse-later n) tables.warehouses grown.warehouses;
      districts =
          All-with_changed_to (IsDistrictUpTo n) (IsDistrictUpTo (n + 1)) (is_district payment.warehouse
          payment.district)
          (district_paid payment.amount)
          (λ row up. record {
            name = up.name;
            ytd = paid-up n payment.amount row.ytd amount up.ytd;
            next_order = omega (arith, up.next_order);
          })
          (district-later n) tables.districts grown.districts;
      customers = later.customers;
      history =
          All-push IsPaymentUpTo tables.history (history_row payment customer tables) grown.history record {
            customer = small;
            date = late;
            amount = (omega (arith, ints), omega (arith, ints, high));
            information = name_length _ _ warehouse_name district_name;
          };
      orders = later.orders;
      new_orders = later.new_orders;
      order_lines = later.order_lines;
      stock = later.stock;
    }
  where
    name_length : (one other : List ℕ) → length one ≤ 10 → length other ≤ 10 → length (one ++ codes "    " ++ other) ≤
        24
    name_length one other short also =
        omega (arith, short, also, length-append (one ++ codes "    ") other, length-append one (codes "    "))

-- at the customer's warehouse
pub grown-paid_by : (edition : Edition) (payment : Payment) (customer : ℕ) (tables : Tables) (n : ℕ) → IsBetween 100 500_000 payment.amount
    → HasGrownBy n tables → HasGrownBy (n + 1) (paid_by edition payment customer tables)
grown-paid_by edition payment customer tables n amount grown =
    let high = (bounds 100 500_000 payment.amount amount).1 in
    let later = grown-later n tables grown in
    record {
      warehouses = later.warehouses;
      districts = later.districts;
      customers =
          All-with_changed_to (IsCustomerUpTo n (10 * n)) (IsCustomerUpTo (n + 1) (10 * (n + 1)))
          (is_customer payment.customer_warehouse payment.customer_district customer) (customer_paid edition payment)
          (λ row up. record {
            id = up.id;
            balance =
                money-less (500_000 * n + 150_000_000 * (10 * n)) 500_000 (500_000 * (n + 1) + 150_000_000 * (10 * (n
                + 1)))
                row.balance (pos payment.amount) (omega arith) (omega (arith, ints)) (omega (arith, ints, high))
                up.balance;
            ytd_payment = paid-up n payment.amount row.ytd_payment amount up.ytd_payment;
            payment_count = omega (arith, up.payment_count);
            delivery_count = omega (arith, up.delivery_count);
          }) (customer-later n (10 * n) (10 * (n + 1)) (omega arith)) tables.customers grown.customers;
      history = later.history;
      orders = later.orders;
      new_orders = later.new_orders;
      order_lines = later.order_lines;
      stock = later.stock;
    }

-- both at one warehouse
pub grown-paid : (edition : Edition) (payment : Payment) (customer : ℕ) (tables : Tables) (n : ℕ) → IsBetween 100 500_000 payment.amount
    → IsBetween 1 1_000_000_000_000_000 payment.at → customer ≤ 3_000 → HasGrownBy n tables
    → HasGrownBy (n + 1) (paid_by edition payment customer (paid_in payment customer tables))
grown-paid edition payment customer tables n amount moment small grown =
    let home = grown-paid_in payment customer tables n amount moment small grown in
    record {
      warehouses = home.warehouses;
      districts = home.districts;
      customers = (grown-paid_by edition payment customer tables n amount grown).customers;
      history = home.history;
      orders = home.orders;
      new_orders = home.new_orders;
      order_lines = home.order_lines;
      stock = home.stock;
    }

-- at a warehouse that is the home, the customer's, both or neither
pub grown-paid_where : (edition : Edition) (payment : Payment) (customer : ℕ) (tables : Tables) (n : ℕ)
    → IsBetween 100 500_000 payment.amount → IsBetween 1 1_000_000_000_000_000 payment.at → customer ≤ 3_000
    → HasGrownBy n tables → (home own : Bool)
    → HasGrownBy (n + 1) (cond own (paid_by edition payment customer (cond home (paid_in payment customer tables) tables))
    (cond home (paid_in payment customer tables) tables))
grown-paid_where edition payment customer tables n amount moment small grown true true =
    grown-paid edition payment customer tables n amount moment small grown
grown-paid_where edition payment customer tables n amount moment small grown true false =
    grown-paid_in payment customer tables n amount moment small grown
grown-paid_where edition payment customer tables n amount moment small grown false true =
    grown-paid_by edition payment customer tables n amount grown
grown-paid_where edition payment customer tables n amount moment small grown false false = grown-later n tables grown

-- ---- New-Order

abbrev pub ItemsFit : List Item → Type 0
ItemsFit items = All (λ row. (row.id ≤ 100_000) × (row.price ≤ 1_000_000)) items

-- what a line costs
line-small : (items : List Item) → ItemsFit items → (line : PurchaseLine) → line.quantity ≤ 10
    → line_cents items line ≤ 10_000_000
line-small items fits line few =
    let price : ℕ = (first_or no_item (is_item line.item) items).price in
    let small : price ≤ 1_000_000 =
    first_or-all (λ (row : Item). row.price ≤ 1_000_000) no_item (is_item line.item) (omega arith) items
    (All-weaker (λ row. (row.id ≤ 100_000) × (row.price ≤ 1_000_000)) (λ row. row.price ≤ 1_000_000) (λ row both.
    both.1) items fits) in
    let product : line.quantity * price ≤ line.quantity * 1_000_000 = mul-le-mul_left line.quantity small in
    omega (arith, product, few)

module _ (items : List Item) (fits : ItemsFit items) (order : Purchase) (number : ℕ) (n : ℕ) (below : number ≤ 1_000_000_000 + n) where
  lines-small : (place : ℕ) (lines : List PurchaseLine) → place + length lines ≤ 16 → list_all is_line_in_range lines
      ≡ true
      → list_all (has_item items) lines ≡ true → All (λ line. line.supply_warehouse ≤ 16) lines
      → All (IsLineUpTo (n + 1)) (line_rows items order number place lines)
  lines-small place [] few in_range known near = All-nil (IsLineUpTo (n + 1))
  lines-small place (line ∷ lines) few in_range known near =
      let ranges = and_parts (is_line_in_range line) (list_all is_line_in_range lines) in_range in
      let knowns = and_parts (has_item items line) (list_all (has_item items) lines) known in
      let quantity = (bounds 1 10 line.quantity ranges.0).1 in
      let found = find-any (is_item line.item) items knowns.0 in
      let same = eqb-true (found.0).id line.item (find-passes (is_item line.item) items found.0 found.1) in
      let small = (All-find (λ row. (row.id ≤ 100_000) × (row.price ≤ 1_000_000)) (is_item line.item) items found.0
      fits found.1).0 in
      let cents = line-small items fits line quantity in
      All-cons (IsLineUpTo (n + 1)) (line_row items order number place line) (line_rows items order number (place + 1)
      lines)
      record {
        order = omega (arith, below);
        number = omega (arith, few);
        item = omega (arith, same, small);
        supply_warehouse = All-head (λ line. line.supply_warehouse ≤ 16) line lines near;
        delivery_date = omega arith;
        quantity = quantity;
        amount = (omega (arith, ints), omega (arith, ints, cents));
      }
      (lines-small (place + 1) lines (omega (arith, few)) ranges.1 knowns.1
      (All-tail (λ line. line.supply_warehouse ≤ 16) line lines near))

-- what is left of a stock, and what the supplied lines add to it
pub left-small : (stock quantity : ℕ) → stock ≤ 9_999 → quantity_left stock quantity ≤ 9_999
left-small stock quantity small =
    elim (nat_le (quantity + 10) stock) as (λ b. nat_le (quantity + 10) stock ≡ b
    → cond b (stock - quantity) (stock + 91 - quantity) ≤ 9_999) [
      | true ↦ λ enough. omega (arith, small)
      | false ↦ λ scarce. omega (arith, leb-false (quantity + 10) stock scarce)
    ] refl

-- the stock after a line
pub line-sold : (supplier : ℕ) (order : Purchase) (line : PurchaseLine) (k : ℕ) (rows : List Stock) → line.quantity ≤ 10
    → All (IsStockUpTo k) rows → All (IsStockUpTo (k + 1)) (sold_line supplier order rows line)
line-sold supplier order line k rows few all =
    let remote : Bool = not (order.warehouse == supplier) in
    All-with_changed_to (IsStockUpTo k) (IsStockUpTo (k + 1)) (is_stock supplier line.item) (sold remote line.quantity)
    (λ row up. record {
      quantity = left-small row.quantity line.quantity up.quantity;
      ytd = omega (arith, up.ytd, few);
      order_count = omega (arith, up.order_count);
      remote_count = remote-more remote row.remote_count k up.remote_count;
    }) (stock-later k (k + 1) (omega arith)) rows all
  where
    remote-more : (remote : Bool) (count k : ℕ) → count ≤ 1_000_000_000_000_000 + k
        → count + cond remote 1 0 ≤ 1_000_000_000_000_000 + (k + 1)
    remote-more true count k below = omega (arith, below)
    remote-more false count k below = omega (arith, below)

-- lines that are sold one after the other
stock-sold : (supplier : ℕ) (order : Purchase) (lines : List PurchaseLine) (k : ℕ) (rows : List Stock)
    → All (λ line. line.quantity ≤ 10) lines → All (IsStockUpTo k) rows
    → All (IsStockUpTo (k + length lines)) (fold (sold_line supplier order) rows lines)
stock-sold supplier order [] k rows few all = All-weaker (IsStockUpTo k) (IsStockUpTo (k + 0)) (stock-later k (k + 0)
    (omega arith)) rows all
stock-sold supplier order (line ∷ lines) k rows few all =
    let quantity = All-head (λ line. line.quantity ≤ 10) line lines few in
    let after : List Stock = sold_line supplier order rows line in
    All-weaker (IsStockUpTo (k + 1 + length lines)) (IsStockUpTo (k + suc (length lines)))
    (stock-later (k + 1 + length lines) (k + suc (length lines)) (omega arith))
    (fold (sold_line supplier order) after lines)
    (stock-sold supplier order lines (k + 1) after (All-tail (λ line. line.quantity ≤ 10) line lines few)
    (line-sold supplier order line k rows quantity all))

-- what a warehouse supplies, whoever orders it
pub grown-supplied : (number : ℕ) (order : Purchase) (tables : Tables) (n : ℕ) → IsBetween 5 15 (length order.lines)
    → list_all is_line_in_range order.lines ≡ true → HasGrownBy n tables
    → HasGrownBy (n + 1) (supplied number order tables)
grown-supplied number order tables n count in_range grown =
    let later = grown-later n tables grown in
    let few = (bounds 5 15 (length order.lines) count).1 in
    let supplied_lines : List PurchaseLine = filter (λ line. line.supply_warehouse == number) order.lines in
    let quantities : All (λ line. line.quantity ≤ 10) order.lines =
    All-weaker (λ line. is_line_in_range line ≡ true) (λ line. line.quantity ≤ 10)
    (λ line in_range. (bounds 1 10 line.quantity in_range).1) order.lines
    (AllPass-from_list_all is_line_in_range order.lines in_range) in
    let fewer : length supplied_lines ≤ length order.lines =
    omega (
      arith,
      length-filter (λ line. line.supply_warehouse == number) order.lines,
      count_by-le-length (λ (line : PurchaseLine). line.supply_warehouse == number) order.lines,
    ) in
    record {
      warehouses = later.warehouses;
      districts = later.districts;
      customers = later.customers;
      history = later.history;
      orders = later.orders;
      new_orders = later.new_orders;
      order_lines = later.order_lines;
      stock =
          All-weaker (IsStockUpTo (15 * n + length supplied_lines)) (IsStockUpTo (15 * (n + 1)))
          (stock-later (15 * n + length supplied_lines) (15 * (n + 1)) (omega (arith, fewer, few)))
          (fold (sold_line number order) tables.stock supplied_lines)
          (stock-sold number order supplied_lines (15 * n) tables.stock
          (All-filter (λ line. line.supply_warehouse == number) (λ line. line.quantity ≤ 10) order.lines quantities)
          grown.stock);
    }

module _ (items : List Item) (fits : ItemsFit items) (number : ℕ) (order : Purchase) (tables : Tables) (n : ℕ) (count : IsBetween 5 15 (length order.lines)) (in_range : list_all is_line_in_range order.lines ≡ true) (moment : IsBetween 1 1_000_000_000_000_000 order.at) (known : list_all (has_item items) order.lines ≡ true) (near : All (λ line. line.supply_warehouse ≤ 16) order.lines) (buyer : list_any (is_customer order.warehouse order.district order.customer) tables.customers ≡ true) (grown : HasGrownBy n tables) where
  number-small : order_number order tables ≤ 1_000_000_000 + n
  number-small =
      first_or-all (λ (row : District). row.next_order ≤ 1_000_000_000 + n) (district_of []) (is_district
      order.warehouse order.district)
      (omega arith) tables.districts
      (All-weaker (IsDistrictUpTo n) (λ row. row.next_order ≤ 1_000_000_000 + n) (λ row up. up.next_order)
      tables.districts grown.districts)

  customer-small : order.customer ≤ 3_000
  customer-small =
      let found = find-any (is_customer order.warehouse order.district order.customer) tables.customers buyer in
      let passes = find-passes (is_customer order.warehouse order.district order.customer) tables.customers found.0
      found.1 in
      let same : (found.0).id ≡ order.customer =
      (tells-three (found.0).warehouse (found.0).district (found.0).id order.warehouse order.district order.customer
      passes).2 in
      let small = (All-find (IsCustomerUpTo n (10 * n)) (is_customer order.warehouse order.district order.customer)
      tables.customers
      found.0 grown.customers found.1).id in
      omega (arith, same, small)

  pub grown-ordered : HasGrownBy (n + 1) (supplied number order (ordered items order tables))
  grown-ordered =
      let later = grown-later n tables grown in
      let few = (bounds 5 15 (length order.lines) count).1 in
      let late = (bounds 1 1_000_000_000_000_000 order.at moment).1 in
      record {
        warehouses = later.warehouses;
        districts =
            All-with_changed_to (IsDistrictUpTo n) (IsDistrictUpTo (n + 1)) (is_district order.warehouse
            order.district) with_next_order
            (λ row up. record {
              name = up.name;
              ytd = (district-later n row up).ytd;
              next_order = omega (arith, up.next_order);
            }) (district-later n) tables.districts grown.districts;
        customers = later.customers;
        history = later.history;
        orders =
            All-push (IsOrderUpTo (n + 1)) tables.orders (order_row order (order_number order tables)) later.orders
            record {
              id = omega (arith, number-small);
              customer = customer-small;
              entry_date = late;
              carrier = omega arith;
              line_count = few;
              all_local = all_local_small (list_all (λ (line : PurchaseLine). line.supply_warehouse ==
                  order.warehouse) order.lines);
            };
        new_orders =
            All-push (IsNewOrderUpTo (n + 1)) tables.new_orders (new_order_row order (order_number order tables))
            later.new_orders
            (omega (arith, number-small));
        order_lines =
            All-append (IsLineUpTo (n + 1)) tables.order_lines (line_rows items order (order_number order tables) 1
            order.lines)
            later.order_lines
            (lines-small items fits order (order_number order tables) n number-small 1 order.lines (omega (
              arith,
              few,
            )) in_range known near);
        stock = (grown-supplied number order tables n count in_range grown).stock;
      }
    where
      all_local_small : (b : Bool) → cond b 1 0 ≤ 1
      all_local_small true = omega arith
      all_local_small false = omega arith

-- ---- Delivery

-- the rows while so many orders were delivered
record Growing (n k : ℕ) (tables : Tables) : Type 0 where
  warehouses : All (IsWarehouseUpTo n) tables.warehouses
  districts : All (IsDistrictUpTo n) tables.districts
  customers : All (IsCustomerUpTo n k) tables.customers
  history : All IsPaymentUpTo tables.history
  orders : All (IsOrderUpTo n) tables.orders
  new_orders : All (IsNewOrderUpTo n) tables.new_orders
  order_lines : All (IsLineUpTo n) tables.order_lines
  stock : All (IsStockUpTo (15 * n)) tables.stock

delivered-later : (n k : ℕ) (row : Customer) → IsCustomerUpTo n k row → IsCustomerUpTo n (k + 1) row
delivered-later n k row up = record {
  id = up.id;
  balance = money-later (500_000 * n + 150_000_000 * k) (500_000 * n + 150_000_000 * (k + 1)) row.balance (omega
      arith) up.balance;
  ytd_payment = up.ytd_payment;
  payment_count = up.payment_count;
  delivery_count = omega (arith, up.delivery_count);
}

module _ (items : List Item) (number : ℕ) (delivery : Delivery) (few : IsBetween 1 10 delivery.carrier) (moment : IsBetween 1 1_000_000_000_000_000 delivery.at) (carrier : (delivery.carrier == 0) ≡ false) (dated : (delivery.at == 0) ≡ false) (n : ℕ) where
  -- what an order comes to
  cents-small : (tables : Tables) (order : Order) → IsSoundWarehouse items number tables
      → find (is_order order.warehouse order.district order.id) tables.orders ≡ Some order
      → All (IsOrderUpTo n) tables.orders → All (IsLineUpTo n) tables.order_lines
      → (pos 0 ≤ℤ order_cents order tables.order_lines) × (order_cents order tables.order_lines ≤ℤ pos 150_000_000)
  cents-small tables order sound finds orders lines =
      let test = is_order order.warehouse order.district order.id in
      let counts = All-find (CountsLines tables.order_lines) (is_order order.warehouse order.district order.id)
      tables.orders order
      (meets-facts tables sound.conditions).lines finds in
      let short = (All-find (IsOrderUpTo n) (is_order order.warehouse order.district order.id) tables.orders order
      orders finds).line_count in
      let sum = sum-between (λ (line : OrderLine). line.amount) (lines_of order tables.order_lines)
      (All-filter (is_line_of order) (λ line. (pos 0 ≤ℤ line.amount) × (line.amount ≤ℤ pos 10_000_000))
      tables.order_lines
      (All-weaker (IsLineUpTo n) (λ line. (pos 0 ≤ℤ line.amount) × (line.amount ≤ℤ pos 10_000_000)) (λ line up.
      up.amount)
      tables.order_lines lines)) in
      (sum.0, omega (arith, ints, sum.1, counts, short))

  grown-with_delivered : (k : ℕ) (tables : Tables) (order : Order) → IsSoundWarehouse items number tables
      → find (is_order order.warehouse order.district order.id) tables.orders ≡ Some order
      → Growing n k tables → Growing n (k + 1) (with_delivered delivery order tables)
  grown-with_delivered k tables order sound finds growing =
      let cents = cents-small tables order sound finds growing.orders growing.order_lines in
      record {
        warehouses = growing.warehouses;
        districts = growing.districts;
        customers =
            All-with_changed_to (IsCustomerUpTo n k) (IsCustomerUpTo n (k + 1)) (is_customer order.warehouse
            order.district order.customer)
            (customer_delivered (order_cents order tables.order_lines))
            (λ row up. record {
              id = up.id;
              balance =
                  money-more (500_000 * n + 150_000_000 * k) 150_000_000 (500_000 * n + 150_000_000 * (k + 1))
                  row.balance
                  (order_cents order tables.order_lines) (omega arith) cents.0 cents.1 up.balance;
              ytd_payment = up.ytd_payment;
              payment_count = up.payment_count;
              delivery_count = omega (arith, up.delivery_count);
            }) (delivered-later n k) tables.customers growing.customers;
        history = growing.history;
        orders =
            All-with_changed_to (IsOrderUpTo n) (IsOrderUpTo n) (is_order order.warehouse order.district order.id)
            (carried delivery.carrier)
            (λ row up. record {
              id = up.id;
              customer = up.customer;
              entry_date = up.entry_date;
              carrier = (bounds 1 10 delivery.carrier few).1;
              line_count = up.line_count;
              all_local = up.all_local;
            }) (λ row up. up) tables.orders growing.orders;
        new_orders =
            All-filter (λ row. not (is_new_order order.warehouse order.district order.id row)) (IsNewOrderUpTo n)
            tables.new_orders
            growing.new_orders;
        order_lines =
            All-map (IsLineUpTo n) (λ row. cond (is_line_of order row) (delivered_line delivery.at row) row)
            tables.order_lines
            (All-weaker (IsLineUpTo n) (λ row. IsLineUpTo n (cond (is_line_of order row) (delivered_line delivery.at
            row) row))
            (λ row up. elim (is_line_of order row) as (λ b. IsLineUpTo n (cond b (delivered_line delivery.at row)
            row)) [
              | true ↦ record {
                order = up.order;
                number = up.number;
                item = up.item;
                supply_warehouse = up.supply_warehouse;
                delivery_date = (bounds 1 1_000_000_000_000_000 delivery.at moment).1;
                quantity = up.quantity;
                amount = up.amount;
              }
              | false ↦ up
            ]) tables.order_lines growing.order_lines);
        stock = growing.stock;
      }

  grown-in : (k : ℕ) (tables : Tables) (district : ℕ) → IsSoundWarehouse items number tables → Growing n k tables
      → Growing n (k + 1) (delivered_in delivery tables district)
  grown-in k tables district sound growing =
      elim (oldest delivery.warehouse district tables == 0) as (λ b. (oldest delivery.warehouse district tables == 0)
      ≡ b
      → Growing n (k + 1) (cond b tables (with_delivered delivery
      (first_or (order_of []) (is_order delivery.warehouse district (oldest delivery.warehouse district tables))
      tables.orders) tables))) [
        | true ↦ λ none. record {
          warehouses = growing.warehouses;
          districts = growing.districts;
          customers = All-weaker (IsCustomerUpTo n k) (IsCustomerUpTo n (k + 1)) (delivered-later n k)
              tables.customers growing.customers;
          history = growing.history;
          orders = growing.orders;
          new_orders = growing.new_orders;
          order_lines = growing.order_lines;
          stock = growing.stock;
        }
        | false ↦ λ some.
            let there = oldest-there items number delivery tables district sound some in
            subst (λ order. Growing n (k + 1) (with_delivered delivery order tables)) (sym (there.1).chosen)
            (grown-with_delivered k tables there.0 sound (there.1).finds growing)
      ] refl

  grown-districts : (districts : List ℕ) (k : ℕ) (tables : Tables) → IsSoundWarehouse items number tables → Growing n
      k tables
      → Growing n (k + length districts) (fold (delivered_in delivery) tables districts)
  grown-districts [] k tables sound growing = subst (λ j. Growing n j tables) (omega arith) growing
  grown-districts (district ∷ districts) k tables sound growing =
      let after : Tables = delivered_in delivery tables district in
      let one : Growing n (k + 1) after = grown-in k tables district sound growing in
      let same : k + 1 + length districts ≡ k + suc (length districts) = omega arith in
      subst (λ j. Growing n j (fold (delivered_in delivery) after districts)) same
      (grown-districts districts (k + 1) after (sound-delivered_in items number delivery carrier dated tables district
      sound) one)

pub grown-delivered : (items : List Item) (number : ℕ) (delivery : Delivery) → IsBetween 1 10 delivery.carrier
    → IsBetween 1 1_000_000_000_000_000 delivery.at → (delivery.carrier == 0) ≡ false → (delivery.at == 0) ≡ false
    → (n : ℕ) (tables : Tables) → IsSoundWarehouse items number tables → HasGrownBy n tables
    → HasGrownBy (n + 1) (delivered delivery tables)
grown-delivered items number delivery few moment carrier dated n tables sound grown =
    let later = grown-later n tables grown in
    let start : Growing (n + 1) (10 * n) tables = record {
      warehouses = later.warehouses;
      districts = later.districts;
      customers =
          All-weaker (IsCustomerUpTo n (10 * n)) (IsCustomerUpTo (n + 1) (10 * n)) (customer-later n (10 * n) (10 * n)
          (omega arith))
          tables.customers grown.customers;
      history = later.history;
      orders = later.orders;
      new_orders = later.new_orders;
      order_lines = later.order_lines;
      stock = later.stock;
    } in
    let end = grown-districts items number delivery few moment carrier dated (n + 1) district_numbers (10 * n) tables
    sound start in
    let ten : 10 * n + 10 ≡ 10 * (n + 1) = omega arith in
    record {
      warehouses = end.warehouses;
      districts = end.districts;
      customers = subst (λ k. All (IsCustomerUpTo (n + 1) k) (delivered delivery tables).customers) ten end.customers;
      history = end.history;
      orders = end.orders;
      new_orders = end.new_orders;
      order_lines = end.order_lines;
      stock = end.stock;
    }
