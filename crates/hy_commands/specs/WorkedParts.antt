-- A load of three warehouses, and what commands over two of them do to each, with values from hand calculation; the
-- checker computes them.
use Rattle.std.specs.Prelude.{◌≡◌, ℕ, ℤ, pos, negsuc, ◌+◌, ◌*◌, ◌%◌, ◌==◌, not, true, false, List, [], ◌∷◌, ◌++◌, Option, Some, None, map, filter, codes, refl}
use Rattle.hy_rows.specs.declared.warehouse.Warehouse.{Warehouse}
use Rattle.hy_rows.specs.declared.district.District.{District}
use Rattle.hy_rows.specs.declared.customer.Customer.{Customer}
use Rattle.hy_rows.specs.declared.history.History.{History}
use Rattle.hy_rows.specs.declared.order.Order.{Order}
use Rattle.hy_rows.specs.declared.order_line.OrderLine.{OrderLine}
use Rattle.hy_rows.specs.declared.stock.Stock.{Stock}
use Rattle.hy_rows.specs.Finding.{first_or, is_customer}
use Rattle.hy_rows.specs.Rows.{stock_of}
use Rattle.hy_rows.specs.Tables.{Lists, Tables, no_rows, of_warehouse}
use Rattle.hy_schema.specs.Conditions.{first_broken}
use Rattle.hy_schema.specs.Keys.{district_numbers}
use Rattle.hy_schema.specs.declared.refusal.Refusal.{Refusal}
use Rattle.hy_schema.specs.declared.refusal.Refusal.TheVariants as refusals
use Rattle.hy_commands.specs.declared.command.Command.{Command}
use Rattle.hy_commands.specs.declared.command.Command.TheVariants as commands
use Rattle.hy_commands.specs.declared.command.Commit.TheVariants as commits
use Rattle.hy_commands.specs.declared.command.Who.{Who}
use Rattle.hy_commands.specs.declared.command.Who.TheVariants as who
use Rattle.hy_commands.specs.declared.edition.Edition.TheVariants as editions
use Rattle.hy_commands.specs.NewOrders.{is_stock}
use Rattle.hy_commands.specs.Parts.{by_number, database_of, is_by_number, part, payer_number, refusal_in}
use Rattle.hy_commands.specs.Replay.{committed, rows_after}
use Rattle.hy_commands.specs.Transactions.{act}
use Rattle.hy_commands.specs.WorkedSample.{after, bought, columns_of_stock, customers, delivery, district, each, five_of_each, items, level, opening, payment, sample, status, stock, up_to, warehouse}

-- ---- three warehouses, each as the one of the other examples but for what its number says

abbrev warehouse_numbered : ℕ → Warehouse
warehouse_numbered number = record warehouse {
  id = number;
  name = codes "W" ++ (48 + number) ∷ [];
  tax = 500 * number % 2001;
}

abbrev district_in : ℕ → ℕ → District
district_in warehouse number = record (district number) {
  warehouse = warehouse;
  name = codes "D" ++ (48 + number % 10) ∷ [];
}

abbrev customers_in : ℕ → ℕ → List Customer
customers_in warehouse district =
    map {A = Customer} {B = Customer} (λ row. record row { warehouse = warehouse }) (customers district)

abbrev opening_in : ℕ → ℕ → ℕ → History
opening_in warehouse district customer =
    record (opening district customer) { customer_warehouse = warehouse; warehouse = warehouse }

abbrev openings_in : ℕ → List History
openings_in warehouse = each (λ district. map (opening_in warehouse district) (up_to 3)) district_numbers

abbrev stock_in : ℕ → ℕ → Stock
stock_in warehouse number =
    record (stock number) { warehouse = warehouse; quantity = 10 + (7 * number + warehouse) % 91 }

abbrev pub load : Lists
load = record {
  items = items;
  tables = record no_rows {
    warehouses = map warehouse_numbered (up_to 3);
    districts = each (λ warehouse. map (district_in warehouse) district_numbers) (up_to 3);
    customers = each (λ warehouse. each (customers_in warehouse) district_numbers) (up_to 3);
    history = each openings_in (up_to 3);
    stock = each (λ warehouse. map (stock_in warehouse) (up_to 20)) (up_to 3);
  };
}

abbrev load_is_consistent : first_broken load.tables ≡ None
load_is_consistent = refl

abbrev loaded : ℕ → Tables
loaded number = of_warehouse number load.tables

-- ---- a purchase at warehouse 1: warehouse 2 supplies five of item 1, and the home five each of items 2, 3, 4 and 5

-- the first line's quantity and supplier, the customer, and the last line's item
abbrev purchase_of : ℕ → ℕ → ℕ → ℕ → ℕ → Command
purchase_of quantity supplier district customer item = commands.NewOrder record {
  warehouse = 1;
  district = district;
  customer = customer;
  at = 6;
  lines =
      record { item = 1; supply_warehouse = supplier; quantity = quantity }
      ∷ bought 2 5 ∷ bought 3 5 ∷ bought 4 5 ∷ bought item 5 ∷ [];
}

abbrev crossing_purchase : Command
crossing_purchase = purchase_of 5 2 3 2 5

abbrev stock_columns_in : ℕ → Tables → ℕ → List ℕ
stock_columns_in warehouse tables item =
    columns_of_stock (first_or (stock_of []) (is_stock warehouse item) tables.stock)

-- at the supplier: 19 falls by 5, and the line is a remote one; nothing else changes
abbrev supplier : Tables
supplier = part items 2 editions.Second crossing_purchase (loaded 2)

abbrev supplier_before : stock_columns_in 2 (loaded 2) 1 ≡ 19 ∷ 0 ∷ 0 ∷ 0 ∷ []
supplier_before = refl

abbrev supplier_sold : stock_columns_in 2 supplier 1 ≡ 14 ∷ 5 ∷ 1 ∷ 1 ∷ []
supplier_sold = refl

abbrev supplier_keeps_other_stock : filter (λ (row : Stock). not (row.item == 1)) supplier.stock
    ≡ filter (λ (row : Stock). not (row.item == 1)) (loaded 2).stock
supplier_keeps_other_stock = refl

abbrev supplier_keeps_other_tables : record supplier { stock = [] } ≡ record (loaded 2) { stock = [] }
supplier_keeps_other_tables = refl

-- at home: item 1 stays, and the others' lines aren't remote ones
abbrev buying : Tables
buying = part items 1 editions.Second crossing_purchase (loaded 1)

abbrev buying_sold : map (stock_columns_in 1 buying) (up_to 6)
    ≡ (18 ∷ 0 ∷ 0 ∷ 0 ∷ []) ∷ (20 ∷ 5 ∷ 1 ∷ 0 ∷ []) ∷ (27 ∷ 5 ∷ 1 ∷ 0 ∷ [])
    ∷ (34 ∷ 5 ∷ 1 ∷ 0 ∷ []) ∷ (41 ∷ 5 ∷ 1 ∷ 0 ∷ []) ∷ (53 ∷ 0 ∷ 0 ∷ 0 ∷ []) ∷ []
buying_sold = refl

abbrev buying_order : buying.orders ≡ record {
  id = 1;
  district = 3;
  warehouse = 1;
  customer = 2;
  entry_date = 6;
  carrier = 0;
  line_count = 5;
  all_local = 0;
} ∷ []
buying_order = refl

abbrev buying_new_order : buying.new_orders ≡ record { order = 1; district = 3; warehouse = 1 } ∷ []
buying_new_order = refl

abbrev line_from : ℕ → ℕ → ℕ → OrderLine
line_from supplier number cents = record {
  order = 1;
  district = 3;
  warehouse = 1;
  number = number;
  item = number;
  supply_warehouse = supplier;
  delivery_date = 0;
  quantity = 5;
  amount = pos cents;
}

abbrev buying_lines : buying.order_lines
    ≡ line_from 2 1 685 ∷ line_from 1 2 870 ∷ line_from 1 3 1_055 ∷ line_from 1 4 1_240 ∷ line_from 1 5 1_425 ∷ []
buying_lines = refl

abbrev buying_next_orders : map (λ (row : District). row.next_order) buying.districts
    ≡ 1 ∷ 1 ∷ 2 ∷ 1 ∷ 1 ∷ 1 ∷ 1 ∷ 1 ∷ 1 ∷ 1 ∷ []
buying_next_orders = refl

abbrev without_order : Tables → Tables
without_order tables =
    record tables { districts = []; orders = []; new_orders = []; order_lines = []; stock = [] }

abbrev buying_keeps_other_tables : without_order buying ≡ without_order (loaded 1)
buying_keeps_other_tables = refl

abbrev buying_is_consistent : first_broken buying ≡ None
buying_is_consistent = refl

-- ---- a payment of 100 cents in district 5 of warehouse 1, for customer 3 of district 4 of warehouse 2

-- the amount, and the customer
abbrev payment_of : ℕ → ℕ → ℕ → Who → Command
payment_of amount customer_warehouse customer_district who = commands.Payment record {
  warehouse = 1;
  district = 5;
  customer_warehouse = customer_warehouse;
  customer_district = customer_district;
  who = who;
  amount = amount;
  at = 7;
}

abbrev crossing_payment : Command
crossing_payment = payment_of 100 2 4 (who.Number 3)

-- at home: the cents are in W_YTD and D_YTD, and a row is behind those of HISTORY; no customer changes
abbrev paying : Tables
paying = part items 1 editions.Second crossing_payment (loaded 1)

abbrev paying_warehouse : map (λ (row : Warehouse). row.ytd) paying.warehouses ≡ pos 30_100 ∷ []
paying_warehouse = refl

abbrev paying_districts : map (λ (row : District). row.ytd) paying.districts
    ≡ pos 3_000 ∷ pos 3_000 ∷ pos 3_000 ∷ pos 3_000 ∷ pos 3_100
    ∷ pos 3_000 ∷ pos 3_000 ∷ pos 3_000 ∷ pos 3_000 ∷ pos 3_000 ∷ []
paying_districts = refl

abbrev paying_history : paying.history
    ≡ (loaded 1).history ++ record {
      customer = 3;
      customer_district = 4;
      customer_warehouse = 2;
      district = 5;
      warehouse = 1;
      date = 7;
      amount = pos 100;
      information = codes "W1    D5";
    } ∷ []
paying_history = refl

abbrev without_payment : Tables → Tables
without_payment tables = record tables { warehouses = []; districts = []; history = [] }

abbrev paying_keeps_other_tables : without_payment paying ≡ without_payment (loaded 1)
paying_keeps_other_tables = refl

abbrev paying_is_consistent : first_broken paying ≡ None
paying_is_consistent = refl

-- at the customer's warehouse: that customer has paid, and nothing else changes
abbrev paid : Tables
paid = part items 2 editions.Second crossing_payment (loaded 2)

abbrev payer_columns : Customer → ℤ × ℤ × ℕ × ℕ
payer_columns row = (row.balance, row.ytd_payment, row.payment_count, row.delivery_count)

abbrev paid_customer : map payer_columns (filter (is_customer 2 4 3) paid.customers)
    ≡ (negsuc 1_099, pos 1_100, 2, 0) ∷ []
paid_customer = refl

abbrev paid_keeps_other_customers : filter (λ row. not (is_customer 2 4 3 row)) paid.customers
    ≡ filter (λ row. not (is_customer 2 4 3 row)) (loaded 2).customers
paid_keeps_other_customers = refl

abbrev paid_keeps_other_tables : record paid { customers = [] } ≡ record (loaded 2) { customers = [] }
paid_keeps_other_tables = refl

-- condition 10 is one of all warehouses together: the payment is in the history of the home alone
abbrev paid_alone_breaks_condition_10 : first_broken paid ≡ Some 10
paid_alone_breaks_condition_10 = refl

-- ---- the other warehouses, and the other commands

-- a warehouse that isn't named changes nothing
abbrev third_keeps_purchase : part items 3 editions.Second crossing_purchase (loaded 3) ≡ loaded 3
third_keeps_purchase = refl

abbrev third_keeps_payment : part items 3 editions.Second crossing_payment (loaded 3) ≡ loaded 3
third_keeps_payment = refl

-- where a command names one warehouse, and its customer by number, its part there is what it does
abbrev whole_purchase : part items 1 editions.Second (five_of_each 3) sample ≡ (act items 1 editions.Second (five_of_each 3) sample).tables
whole_purchase = refl

abbrev whole_payment : part items 1 editions.Second (payment (who.Number 3) 100) sample
    ≡ (act items 1 editions.Second (payment (who.Number 3) 100) sample).tables
whole_payment = refl

abbrev whole_delivery : part items 1 editions.Second delivery (after (five_of_each 1 ∷ []))
    ≡ (act items 1 editions.Second delivery (after (five_of_each 1 ∷ []))).tables
whole_delivery = refl

abbrev whole_status : part items 1 editions.Second (status 1) buying ≡ buying
whole_status = refl

abbrev whole_level : part items 1 editions.Second level buying ≡ buying
whole_level = refl

-- ---- a payment by last name

-- of customers 2 TWO B and 3 TWO A the one in the middle
abbrev named_payment : Command
named_payment = payment_of 100 2 4 (who.Last (codes "TWO"))

abbrev named_payer : payer_number (loaded 2) named_payment ≡ 3
named_payer = refl

abbrev named_by_number : by_number (loaded 2) named_payment ≡ crossing_payment
named_by_number = refl

abbrev payment_by_number : by_number (loaded 2) crossing_payment ≡ crossing_payment
payment_by_number = refl

abbrev purchase_by_number : by_number (loaded 1) crossing_purchase ≡ crossing_purchase
purchase_by_number = refl

abbrev named_is_not_by_number : is_by_number named_payment ≡ false
named_is_not_by_number = refl

abbrev payment_is_by_number : is_by_number crossing_payment ≡ true
payment_is_by_number = refl

abbrev purchase_is_by_number : is_by_number crossing_purchase ≡ true
purchase_is_by_number = refl

-- a name alone is no customer's number
abbrev named_pays_nobody : part items 2 editions.Second named_payment (loaded 2) ≡ loaded 2
named_pays_nobody = refl

-- ---- refusals, the first that holds

abbrev refused : Command → Option Refusal
refused command = refusal_in (database_of load) command

-- a purchase in which this and all that is behind it in the order of refusals is wrong
abbrev purchase_refused_for_the_quantity : refused (purchase_of 11 4 11 4 21) ≡ Some refusals.OutOfRange
purchase_refused_for_the_quantity = refl

abbrev purchase_refused_for_the_warehouse : refused (purchase_of 5 4 11 4 21) ≡ Some refusals.NoSuchWarehouse
purchase_refused_for_the_warehouse = refl

abbrev purchase_refused_for_the_district : refused (purchase_of 5 2 11 4 21) ≡ Some refusals.NoSuchDistrict
purchase_refused_for_the_district = refl

abbrev purchase_refused_for_the_customer : refused (purchase_of 5 2 3 4 21) ≡ Some refusals.NoSuchCustomer
purchase_refused_for_the_customer = refl

abbrev purchase_refused_for_the_item : refused (purchase_of 5 2 3 2 21) ≡ Some refusals.NoSuchItem
purchase_refused_for_the_item = refl

abbrev purchase_not_refused : refused crossing_purchase ≡ None
purchase_not_refused = refl

-- the warehouses have the numbers from 1 to 3
abbrev purchase_from_0 : refused (purchase_of 5 0 3 2 5) ≡ Some refusals.NoSuchWarehouse
purchase_from_0 = refl

abbrev purchase_from_3 : refused (purchase_of 5 3 3 2 5) ≡ None
purchase_from_3 = refl

abbrev payment_refused_for_the_amount : refused (payment_of 99 4 11 (who.Number 4)) ≡ Some refusals.OutOfRange
payment_refused_for_the_amount = refl

abbrev payment_refused_for_the_warehouse : refused (payment_of 100 4 11 (who.Number 4))
    ≡ Some refusals.NoSuchWarehouse
payment_refused_for_the_warehouse = refl

abbrev payment_refused_for_the_district : refused (payment_of 100 2 11 (who.Number 4)) ≡ Some refusals.NoSuchDistrict
payment_refused_for_the_district = refl

abbrev payment_refused_for_the_number : refused (payment_of 100 2 4 (who.Number 4)) ≡ Some refusals.NoSuchCustomer
payment_refused_for_the_number = refl

abbrev payment_refused_for_the_name : refused (payment_of 100 2 4 (who.Last (codes "FOUR")))
    ≡ Some refusals.NoSuchCustomer
payment_refused_for_the_name = refl

abbrev payment_not_refused : refused crossing_payment ≡ None
payment_not_refused = refl

abbrev named_not_refused : refused named_payment ≡ None
named_not_refused = refl

-- ---- commits

abbrev commits_purchase : committed load 1 (loaded 1) (commits.Cross editions.Second 1 crossing_purchase) ≡ buying
commits_purchase = refl

abbrev commits_purchase_there : committed load 2 (loaded 2) (commits.Cross editions.Second 1 crossing_purchase) ≡ supplier
commits_purchase_there = refl

-- one that the database refuses changes nothing at either side
abbrev refused_purchase : Command
refused_purchase = purchase_of 5 2 3 2 21

abbrev refused_purchase_at_home : committed load 1 (loaded 1) (commits.Cross editions.Second 1 refused_purchase) ≡ loaded 1
refused_purchase_at_home = refl

abbrev refused_purchase_there : committed load 2 (loaded 2) (commits.Cross editions.Second 1 refused_purchase) ≡ loaded 2
refused_purchase_there = refl

abbrev refused_payment : Command
refused_payment = payment_of 100 2 4 (who.Number 4)

abbrev refused_payment_at_home : committed load 1 (loaded 1) (commits.Cross editions.Second 1 refused_payment) ≡ loaded 1
refused_payment_at_home = refl

abbrev refused_payment_there : committed load 2 (loaded 2) (commits.Cross editions.Second 1 refused_payment) ≡ loaded 2
refused_payment_there = refl

-- commits of one warehouse and of several, one after the other
abbrev numbers_in_turn : map {A = Order} {B = ℕ × ℕ} (λ row. (row.id, row.all_local))
    (rows_after load 1 (commits.Cross editions.Second 1 crossing_purchase ∷ commits.Local editions.Second (five_of_each 3)
    ∷ commits.Cross editions.Second 2 crossing_purchase ∷ [])).orders
    ≡ (1, 0) ∷ (2, 1) ∷ (3, 0) ∷ []
numbers_in_turn = refl

abbrev stock_in_turn : stock_columns_in 2
    (rows_after load 2 (commits.Cross editions.Second 1 crossing_purchase ∷ commits.Cross editions.Second 2 crossing_purchase ∷ [])) 1
    ≡ 100 ∷ 10 ∷ 2 ∷ 2 ∷ []
stock_in_turn = refl
