-- What one slice adds to the numbers of a warehouse.
use Rattle.std.proofs.Common.{◌≡◌, ℕ, ◌+◌, ◌*◌, ◌≤◌, pos, ◌≤ℤ◌, ◌==◌, Bool, true, false, cond, not, List, [], length, Some, refl, sym, ap, subst, arith}
use Rattle.std.specs.Prelude.{All, unwrap_or}
use Rattle.std.specs.List.{find, list_all, list_any}
use Rattle.std.proofs.Math.Nat.{mul-le-mul_left}
use Rattle.std.proofs.lemmas.Int.{ints}
use Rattle.std.proofs.lemmas.Bool.{eqb-true}
use Rattle.std.proofs.lemmas.List.Elements.{All-filter, All-map, All-push, All-weaker}
use Rattle.hy_rows.specs.Finding.{first_or, is_customer, is_district}
use Rattle.hy_rows.specs.Ranges.{IsBetween}
use Rattle.hy_rows.specs.Rows.{order_of}
use Rattle.hy_rows.specs.Tables.{Tables}
use Rattle.hy_rows.specs.declared.customer.Customer.{Customer}
use Rattle.hy_rows.specs.declared.item.Item.{Item}
use Rattle.hy_rows.specs.declared.order.Order.{Order}
use Rattle.hy_rows.specs.declared.order_line.OrderLine.{OrderLine}
use Rattle.hy_rows.proofs.BetweenLaws.{bounds}
use Rattle.hy_schema.specs.Related.{is_item, is_line_of, is_new_order, is_order, lines_of}
use Rattle.hy_commands.specs.declared.command.Delivery.{Delivery}
use Rattle.hy_commands.specs.declared.command.Purchase.{Purchase}
use Rattle.hy_commands.specs.declared.command.PurchaseLine.{PurchaseLine}
use Rattle.hy_commands.specs.Deliveries.{carried, customer_delivered, delivered_in, delivered_line, oldest, order_cents, with_delivered}
use Rattle.hy_commands.specs.Growth.{HasGrownBy, IsCustomerUpTo, IsDistrictUpTo, IsLineUpTo, IsNewOrderUpTo, IsOrderUpTo, IsPaymentUpTo, IsStockUpTo, IsWarehouseUpTo}
use Rattle.hy_commands.specs.Invariant.{IsSoundWarehouse}
use Rattle.hy_commands.specs.NewOrders.{has_item, line_row, new_order_row, no_item, order_number, order_row, sold_line, with_next_order}
use Rattle.hy_commands.proofs.GrowthLaws.{All-with_changed_to, ItemsFit, grown-later, line-sold, money-later, stock-later, sum-between}
use Rattle.hy_commands.proofs.KeptByDelivery.{oldest-there}
use Rattle.hy_commands.proofs.ListLaws.{All-find, All-of_both, find-any, find-passes}
use Rattle.hy_commands.proofs.MeetsLaws.{CountsLines, meets-facts}
use Rattle.hy_commands.proofs.OnceLaws.{tells-three}
use Rattle.hy_slices.specs.Slices.{headed, lined}

-- ---- lists

-- ---- the rows between two slices

-- the rows after so many commits, while so many orders were delivered and so many lines sold
pub record IsGrowing (commits deliveries sales : ℕ) (tables : Tables) : Type 0 where
  pub warehouses : All (IsWarehouseUpTo commits) tables.warehouses
  pub districts : All (IsDistrictUpTo commits) tables.districts
  pub customers : All (IsCustomerUpTo commits deliveries) tables.customers
  pub history : All IsPaymentUpTo tables.history
  pub orders : All (IsOrderUpTo commits) tables.orders
  pub new_orders : All (IsNewOrderUpTo commits) tables.new_orders
  pub order_lines : All (IsLineUpTo commits) tables.order_lines
  pub stock : All (IsStockUpTo sales) tables.stock

customer-later : (n m k j : ℕ) → n ≤ m → k ≤ j → (row : Customer) → IsCustomerUpTo n k row → IsCustomerUpTo m j row
customer-later n m k j more below row up = record {
  id = up.id;
  balance = money-later (500_000 * n + 150_000_000 * k) (500_000 * m + 150_000_000 * j) row.balance (omega
      (arith, more, below)) up.balance;
  ytd_payment = money-later (500_000 * n) (500_000 * m) row.ytd_payment (omega (arith, more)) up.ytd_payment;
  payment_count = omega (arith, up.payment_count, more);
  delivery_count = omega (arith, up.delivery_count, below);
}

pub growing-later : (n k m i j : ℕ) (tables : Tables) → k ≤ m → i ≤ j → IsGrowing n k i tables → IsGrowing n m j tables
growing-later n k m i j tables more below growing = record {
  warehouses = growing.warehouses;
  districts = growing.districts;
  customers =
      All-weaker (IsCustomerUpTo n k) (IsCustomerUpTo n m) (customer-later n n k m (omega arith) more)
      tables.customers growing.customers;
  history = growing.history;
  orders = growing.orders;
  new_orders = growing.new_orders;
  order_lines = growing.order_lines;
  stock = All-weaker (IsStockUpTo i) (IsStockUpTo j) (stock-later i j below) tables.stock growing.stock;
}

-- the rows before a command, and behind its last slice
pub growing-start : (n : ℕ) (tables : Tables) → HasGrownBy n tables → IsGrowing (n + 1) (10 * n) (15 * n) tables
growing-start n tables grown =
    let later = grown-later n tables grown in
    record {
      warehouses = later.warehouses;
      districts = later.districts;
      customers =
          All-weaker (IsCustomerUpTo n (10 * n)) (IsCustomerUpTo (n + 1) (10 * n))
          (customer-later n (n + 1) (10 * n) (10 * n) (omega arith) (omega arith)) tables.customers grown.customers;
      history = later.history;
      orders = later.orders;
      new_orders = later.new_orders;
      order_lines = later.order_lines;
      stock = grown.stock;
    }

pub growing-end : (n k i : ℕ) (tables : Tables) → k ≤ 10 * n → i ≤ 15 * n → IsGrowing n k i tables
    → HasGrownBy n tables
growing-end n k i tables more below growing =
    let end = growing-later n k (10 * n) i (15 * n) tables more below growing in
    record {
      warehouses = end.warehouses;
      districts = end.districts;
      customers = end.customers;
      history = end.history;
      orders = end.orders;
      new_orders = end.new_orders;
      order_lines = end.order_lines;
      stock = end.stock;
    }

-- ---- the head of a purchase

module _ (number : ℕ) (order : Purchase) (tables : Tables) (n : ℕ) (small : order_number order tables ≤ 1_000_000_000 + n) (count : IsBetween 5 15 (length order.lines)) (moment : IsBetween 1 1_000_000_000_000_000 order.at) (buyer : list_any (is_customer order.warehouse order.district order.customer) tables.customers ≡ true) (grown : HasGrownBy n tables) where
  customer-small : order.customer ≤ 3_000
  customer-small =
      let found = find-any (is_customer order.warehouse order.district order.customer) tables.customers buyer in
      let passes = find-passes (is_customer order.warehouse order.district order.customer) tables.customers found.0
      found.1 in
      let same : (found.0).id ≡ order.customer =
      (tells-three (found.0).warehouse (found.0).district (found.0).id order.warehouse order.district order.customer
      passes).2 in
      let small = (All-find (IsCustomerUpTo n (10 * n)) (is_customer order.warehouse order.district order.customer)
      tables.customers
      found.0 grown.customers found.1).id in
      omega (arith, same, small)

  pub growing-headed : IsGrowing (n + 1) (10 * n) (15 * n) (headed order tables)
  growing-headed =
      let start = growing-start n tables grown in
      let taken : ℕ = order_number order tables in
      record {
        warehouses = start.warehouses;
        districts =
            All-with_changed_to (λ row. IsDistrictUpTo (n + 1) row × (row.next_order ≤ 1_000_000_000 + n))
            (IsDistrictUpTo (n + 1)) (is_district order.warehouse order.district) with_next_order
            (λ row up. record {
              name = (up.0).name;
              ytd = (up.0).ytd;
              next_order = omega (arith, up.1);
            }) (λ row up. up.0) tables.districts
            (All-of_both (IsDistrictUpTo (n + 1)) (IsDistrictUpTo n)
            (λ row. IsDistrictUpTo (n + 1) row × (row.next_order ≤ 1_000_000_000 + n)) tables.districts
            (λ row later now. (later, now.next_order)) start.districts grown.districts);
        customers = start.customers;
        history = start.history;
        orders =
            All-push (IsOrderUpTo (n + 1)) tables.orders (order_row order taken) start.orders record {
              id = omega (arith, small);
              customer = customer-small;
              entry_date = (bounds 1 1_000_000_000_000_000 order.at moment).1;
              carrier = omega arith;
              line_count = (bounds 5 15 (length order.lines) count).1;
              all_local = all_local_small (list_all (λ (line : PurchaseLine). line.supply_warehouse ==
                  order.warehouse) order.lines);
            };
        new_orders =
            All-push (IsNewOrderUpTo (n + 1)) tables.new_orders (new_order_row order taken) start.new_orders
            (omega (arith, small));
        order_lines = start.order_lines;
        stock = start.stock;
      }
    where
      all_local_small : (b : Bool) → cond b 1 0 ≤ 1
      all_local_small true = omega arith
      all_local_small false = omega arith

-- ---- a line of it

module _ (items : List Item) (fits : ItemsFit items) (number : ℕ) (order : Purchase) (taken place : ℕ) (line : PurchaseLine) (n : ℕ) (small : taken ≤ 1_000_000_000 + n) (within : place ≤ 15) (few : line.quantity ≤ 10) (near : line.supply_warehouse ≤ 16) (known : has_item items line ≡ true) where
  added-small : IsLineUpTo n (line_row items order taken place line)
  added-small =
      let found = find-any (is_item line.item) items known in
      let same = eqb-true (found.0).id line.item (find-passes (is_item line.item) items found.0 found.1) in
      let fit = All-find (λ row. (row.id ≤ 100_000) × (row.price ≤ 1_000_000)) (is_item line.item) items found.0 fits
      found.1 in
      let price : ℕ = (first_or no_item (is_item line.item) items).price in
      let is : price ≡ (found.0).price = ap (λ item. (unwrap_or item no_item).price) found.1 in
      let low : price ≤ 1_000_000 = omega (arith, is, fit.1) in
      let product : line.quantity * price ≤ line.quantity * 1_000_000 = mul-le-mul_left line.quantity low in
      record {
        order = omega (arith, small);
        number = within;
        item = omega (arith, same, fit.0);
        supply_warehouse = near;
        delivery_date = omega arith;
        quantity = few;
        amount = (omega (arith, ints), omega (arith, ints, product, few));
      }

  pub growing-lined : (k i : ℕ) (tables : Tables) → IsGrowing n k i tables
      → IsGrowing n k (i + 1) (lined items number order taken place tables line)
  growing-lined k i tables growing =
      let own : Bool = line.supply_warehouse == number in
      record {
        warehouses = growing.warehouses;
        districts = growing.districts;
        customers = growing.customers;
        history = growing.history;
        orders = growing.orders;
        new_orders = growing.new_orders;
        order_lines =
            All-push (IsLineUpTo n) tables.order_lines (line_row items order taken place line) growing.order_lines
            added-small;
        stock = elim own as (λ b. All (IsStockUpTo (i + 1)) (cond b (sold_line number order tables.stock line)
            tables.stock)) [
              | true ↦ line-sold number order line i tables.stock few growing.stock
              | false ↦ All-weaker (IsStockUpTo i) (IsStockUpTo (i + 1)) (stock-later i (i + 1) (omega arith))
                  tables.stock growing.stock
            ];
      }

-- ---- a delivery in one district

module _ (items : List Item) (number : ℕ) (delivery : Delivery) (few : IsBetween 1 10 delivery.carrier) (moment : IsBetween 1 1_000_000_000_000_000 delivery.at) (n : ℕ) where
  -- what an order comes to
  cents-small : (tables : Tables) (order : Order) → IsSoundWarehouse items number tables
      → find (is_order order.warehouse order.district order.id) tables.orders ≡ Some order
      → All (IsOrderUpTo n) tables.orders → All (IsLineUpTo n) tables.order_lines
      → (pos 0 ≤ℤ order_cents order tables.order_lines) × (order_cents order tables.order_lines ≤ℤ pos 150_000_000)
  cents-small tables order sound finds orders lines =
      let counts = All-find (CountsLines tables.order_lines) (is_order order.warehouse order.district order.id)
      tables.orders order
      (meets-facts tables sound.conditions).lines finds in
      let short = (All-find (IsOrderUpTo n) (is_order order.warehouse order.district order.id) tables.orders order
      orders finds).line_count in
      let sum = sum-between (λ (line : OrderLine). line.amount) (lines_of order tables.order_lines)
      (All-filter (is_line_of order) (λ line. (pos 0 ≤ℤ line.amount) × (line.amount ≤ℤ pos 10_000_000))
      tables.order_lines
      (All-weaker (IsLineUpTo n) (λ line. (pos 0 ≤ℤ line.amount) × (line.amount ≤ℤ pos 10_000_000)) (λ line up.
      up.amount)
      tables.order_lines lines)) in
      (sum.0, omega (arith, ints, sum.1, counts, short))

  growing-with_delivered : (k i : ℕ) (tables : Tables) (order : Order) → IsSoundWarehouse items number tables
      → find (is_order order.warehouse order.district order.id) tables.orders ≡ Some order
      → IsGrowing n k i tables → IsGrowing n (k + 1) i (with_delivered delivery order tables)
  growing-with_delivered k i tables order sound finds growing =
      let cents = cents-small tables order sound finds growing.orders growing.order_lines in
      record {
        warehouses = growing.warehouses;
        districts = growing.districts;
        customers =
            All-with_changed_to (IsCustomerUpTo n k) (IsCustomerUpTo n (k + 1))
            (is_customer order.warehouse order.district order.customer)
            (customer_delivered (order_cents order tables.order_lines))
            (λ row up. record {
              id = up.id;
              balance = (omega (arith, ints, (up.balance).0, cents.0), omega (arith, ints, (up.balance).1, cents.1));
              ytd_payment = up.ytd_payment;
              payment_count = up.payment_count;
              delivery_count = omega (arith, up.delivery_count);
            }) (customer-later n n k (k + 1) (omega arith) (omega arith)) tables.customers growing.customers;
        history = growing.history;
        orders =
            All-with_changed_to (IsOrderUpTo n) (IsOrderUpTo n) (is_order order.warehouse order.district order.id)
            (carried delivery.carrier)
            (λ row up. record {
              id = up.id;
              customer = up.customer;
              entry_date = up.entry_date;
              carrier = (bounds 1 10 delivery.carrier few).1;
              line_count = up.line_count;
              all_local = up.all_local;
            }) (λ row up. up) tables.orders growing.orders;
        new_orders =
            All-filter (λ row. not (is_new_order order.warehouse order.district order.id row)) (IsNewOrderUpTo n)
            tables.new_orders
            growing.new_orders;
        order_lines =
            All-map (IsLineUpTo n) (λ row. cond (is_line_of order row) (delivered_line delivery.at row) row)
            tables.order_lines
            (All-weaker (IsLineUpTo n) (λ row. IsLineUpTo n (cond (is_line_of order row) (delivered_line delivery.at
            row) row))
            (λ row up. elim (is_line_of order row) as (λ b. IsLineUpTo n (cond b (delivered_line delivery.at row)
            row)) [
              | true ↦ record {
                order = up.order;
                number = up.number;
                item = up.item;
                supply_warehouse = up.supply_warehouse;
                delivery_date = (bounds 1 1_000_000_000_000_000 delivery.at moment).1;
                quantity = up.quantity;
                amount = up.amount;
              }
              | false ↦ up
            ]) tables.order_lines growing.order_lines);
        stock = growing.stock;
      }

  pub growing-delivered_in : (k i : ℕ) (tables : Tables) (district : ℕ) → IsSoundWarehouse items number tables
      → IsGrowing n k i tables → IsGrowing n (k + 1) i (delivered_in delivery tables district)
  growing-delivered_in k i tables district sound growing =
      elim (oldest delivery.warehouse district tables == 0) as (λ b. (oldest delivery.warehouse district tables == 0)
      ≡ b
      → IsGrowing n (k + 1) i (cond b tables (with_delivered delivery
      (first_or (order_of []) (is_order delivery.warehouse district (oldest delivery.warehouse district tables))
      tables.orders) tables))) [
        | true ↦ λ none. growing-later n k (k + 1) i i tables (omega arith) (omega arith) growing
        | false ↦ λ some.
            let there = oldest-there items number delivery tables district sound some in
            subst (λ order. IsGrowing n (k + 1) i (with_delivered delivery order tables)) (sym (there.1).chosen)
            (growing-with_delivered k i tables there.0 sound (there.1).finds growing)
      ] refl
