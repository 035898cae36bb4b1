-- A load of two warehouses, and what commands over both make of its database, with values from hand calculation; the
-- checker computes them.
use Rattle.std.specs.Prelude.{◌≡◌, ℕ, ℤ, pos, negsuc, ◌+◌, ◌*◌, ◌%◌, List, [], ◌∷◌, ◌++◌, None, map, codes, refl}
use Rattle.std.specs.Fmt.{digits}
use Rattle.hy_rows.specs.declared.warehouse.Warehouse.{Warehouse}
use Rattle.hy_rows.specs.declared.district.District.{District}
use Rattle.hy_rows.specs.declared.customer.Customer.{Customer}
use Rattle.hy_rows.specs.declared.history.History.{History}
use Rattle.hy_rows.specs.declared.order_line.OrderLine.{OrderLine}
use Rattle.hy_rows.specs.declared.stock.Stock.{Stock}
use Rattle.hy_rows.specs.Finding.{first_or, is_customer}
use Rattle.hy_rows.specs.Rows.{customer_of, stock_of}
use Rattle.hy_rows.specs.Tables.{Lists, no_rows}
use Rattle.hy_schema.specs.Conditions.{first_broken}
use Rattle.hy_schema.specs.Keys.{district_numbers}
use Rattle.hy_schema.specs.declared.refusal.Refusal.TheVariants as refusals
use Rattle.hy_commands.specs.declared.command.Command.{Command}
use Rattle.hy_commands.specs.declared.command.Command.TheVariants as commands
use Rattle.hy_commands.specs.declared.command.Commit.{Commit}
use Rattle.hy_commands.specs.declared.command.Commit.TheVariants as commits
use Rattle.hy_commands.specs.declared.command.PurchaseLine.{PurchaseLine}
use Rattle.hy_commands.specs.declared.command.Who.{Who}
use Rattle.hy_commands.specs.declared.command.Who.TheVariants as who
use Rattle.hy_commands.specs.declared.edition.Edition.{Edition}
use Rattle.hy_commands.specs.declared.edition.Edition.TheVariants as editions
use Rattle.hy_commands.specs.declared.reply.Reply.TheVariants as replies
use Rattle.hy_commands.specs.NewOrders.{is_stock}
use Rattle.hy_commands.specs.Parts.{Database, database_of, rows_of}
use Rattle.hy_commands.specs.Replay.{rows_after}
use Rattle.hy_commands.specs.Transactions.{act}
use Rattle.hy_commands.specs.WorkedSample.{customers, district, each, items, opening, stock, up_to, warehouse}
use Rattle.hy_database.specs.Database.{act_on_all, all_rows, database_after, kept_in}

-- ---- two warehouses, each as the one of the examples of transactions but for what its number says

abbrev warehouse_numbered : ℕ → Warehouse
warehouse_numbered number = record warehouse {
  id = number;
  name = codes "W" ++ (48 + number) ∷ [];
  tax = 500 * number % 2001;
}

abbrev district_in : ℕ → ℕ → District
district_in warehouse number = record (district number) { warehouse = warehouse }

abbrev customers_in : ℕ → ℕ → List Customer
customers_in warehouse district =
    map {A = Customer} {B = Customer} (λ row. record row { warehouse = warehouse }) (customers district)

abbrev opening_in : ℕ → ℕ → ℕ → History
opening_in warehouse district customer =
    record (opening district customer) { customer_warehouse = warehouse; warehouse = warehouse }

abbrev openings_in : ℕ → List History
openings_in warehouse = each (λ district. map (opening_in warehouse district) (up_to 3)) district_numbers

abbrev stock_in : ℕ → ℕ → Stock
stock_in warehouse number =
    record (stock number) { warehouse = warehouse; quantity = 10 + (7 * number + warehouse) % 91 }

abbrev load : Lists
load = record {
  items = items;
  tables = record no_rows {
    warehouses = map warehouse_numbered (up_to 2);
    districts = each (λ warehouse. map (district_in warehouse) district_numbers) (up_to 2);
    customers = each (λ warehouse. each (customers_in warehouse) district_numbers) (up_to 2);
    history = each openings_in (up_to 2);
    stock = each (λ warehouse. map (stock_in warehouse) (up_to 20)) (up_to 2);
  };
}

abbrev loaded : Database
loaded = database_of load

-- the rows of its warehouses, one behind another, are those of the load
abbrev load_is_joined : all_rows loaded ≡ load.tables
load_is_joined = refl

abbrev load_is_consistent : first_broken load.tables ≡ None
load_is_consistent = refl

-- ---- what is seen of a database

-- S_QUANTITY, S_YTD, S_ORDER_CNT and S_REMOTE_CNT of an item in a warehouse
abbrev stock_of_item : ℕ → ℕ → Database → List ℕ
stock_of_item warehouse item database =
    let row : Stock = first_or (stock_of []) (is_stock warehouse item) (rows_of warehouse database).stock in
    row.quantity ∷ row.ytd ∷ row.order_count ∷ row.remote_count ∷ []

abbrev balance_of : ℕ → ℕ → ℕ → Database → ℤ
balance_of warehouse district customer database =
    (first_or (customer_of []) (is_customer warehouse district customer) (rows_of warehouse database).customers).balance

abbrev warehouse_ytd : Database → List ℤ
warehouse_ytd database = map (λ (row : Warehouse). row.ytd) (all_rows database).warehouses

abbrev is_consistent_after : List Commit → Type 0
is_consistent_after done = first_broken (all_rows (database_after load done)) ≡ None

-- ---- a purchase at warehouse 1: warehouse 2 supplies five of item 1, and the home five each of items 2, 3, 4 and 5

abbrev line : ℕ → ℕ → ℕ → PurchaseLine
line item supplier quantity = record { item = item; supply_warehouse = supplier; quantity = quantity }

-- five each of items 1 to 5 for customer 1 of district 1, the first of them by one warehouse and the others by another
abbrev five_of_each : ℕ → ℕ → ℕ → Command
five_of_each warehouse first others = commands.NewOrder record {
  warehouse = warehouse;
  district = 1;
  customer = 1;
  at = 1;
  lines = line 1 first 5 ∷ line 2 others 5 ∷ line 3 others 5 ∷ line 4 others 5 ∷ line 5 others 5 ∷ [];
}

abbrev bought : Database
bought = database_after load (commits.Cross editions.Second 1 (five_of_each 1 2 1) ∷ [])

-- 5 (137 + 174 + 211 + 248 + 285) = 5275, with 1 % off and 6 % of taxes 5535.585
abbrev bought_reply : (act_on_all editions.Second (five_of_each 1 2 1) loaded).reply ≡ replies.NewOrder 1 5_536
bought_reply = refl

abbrev bought_here : map (λ item. stock_of_item 1 item bought) (1 ∷ 2 ∷ [])
    ≡ (18 ∷ 0 ∷ 0 ∷ 0 ∷ []) ∷ (20 ∷ 5 ∷ 1 ∷ 0 ∷ []) ∷ []
bought_here = refl

abbrev bought_there : map (λ item. stock_of_item 2 item bought) (1 ∷ 2 ∷ [])
    ≡ (14 ∷ 5 ∷ 1 ∷ 1 ∷ []) ∷ (26 ∷ 0 ∷ 0 ∷ 0 ∷ []) ∷ []
bought_there = refl

-- O_W_ID and O_ALL_LOCAL of the one order, and OL_W_ID and OL_SUPPLY_W_ID of its lines
abbrev bought_order : map {B = ℕ × ℕ} (λ row. (row.warehouse, row.all_local)) (all_rows bought).orders ≡ (1, 0) ∷ []
bought_order = refl

abbrev bought_lines : map {B = ℕ × ℕ} (λ (row : OrderLine). (row.warehouse, row.supply_warehouse))
    (all_rows bought).order_lines ≡ (1, 2) ∷ (1, 1) ∷ (1, 1) ∷ (1, 1) ∷ (1, 1) ∷ []
bought_lines = refl

abbrev bought_is_consistent : is_consistent_after (commits.Cross editions.Second 1 (five_of_each 1 2 1) ∷ [])
bought_is_consistent = refl

-- ---- a purchase at warehouse 2 in which each value is another

abbrev mixed : Command
mixed = commands.NewOrder record {
  warehouse = 2;
  district = 4;
  customer = 3;
  at = 9;
  lines = line 6 1 7 ∷ line 7 2 2 ∷ line 8 2 3 ∷ line 9 2 4 ∷ line 10 1 6 ∷ [];
}

-- 7 * 322 + 2 * 359 + 3 * 396 + 4 * 433 + 6 * 470 = 8712, with 3 % off and 14 % of taxes 9633.7296
abbrev mixed_outcome : Database
mixed_outcome = (act_on_all editions.Second mixed loaded).database

abbrev mixed_reply : (act_on_all editions.Second mixed loaded).reply ≡ replies.NewOrder 1 9_634
mixed_reply = refl

abbrev mixed_there : map (λ item. stock_of_item 1 item mixed_outcome) (6 ∷ 7 ∷ 8 ∷ 9 ∷ 10 ∷ [])
    ≡ (46 ∷ 7 ∷ 1 ∷ 1 ∷ []) ∷ (60 ∷ 0 ∷ 0 ∷ 0 ∷ []) ∷ (67 ∷ 0 ∷ 0 ∷ 0 ∷ []) ∷ (74 ∷ 0 ∷ 0 ∷ 0 ∷ [])
    ∷ (75 ∷ 6 ∷ 1 ∷ 1 ∷ []) ∷ []
mixed_there = refl

abbrev mixed_here : map (λ item. stock_of_item 2 item mixed_outcome) (6 ∷ 7 ∷ 8 ∷ 9 ∷ 10 ∷ [])
    ≡ (54 ∷ 0 ∷ 0 ∷ 0 ∷ []) ∷ (59 ∷ 2 ∷ 1 ∷ 0 ∷ []) ∷ (65 ∷ 3 ∷ 1 ∷ 0 ∷ []) ∷ (71 ∷ 4 ∷ 1 ∷ 0 ∷ [])
    ∷ (82 ∷ 0 ∷ 0 ∷ 0 ∷ []) ∷ []
mixed_here = refl

-- ---- a delivery, and a payment at warehouse 1 for a customer of warehouse 2

-- at a home and a district of it, for a customer of district 1 of a warehouse
abbrev payment_at : ℕ → ℕ → ℕ → Who → ℕ → Command
payment_at home district warehouse meant amount = commands.Payment record {
  warehouse = home;
  district = district;
  customer_warehouse = warehouse;
  customer_district = 1;
  who = meant;
  amount = amount;
  at = 3;
}

abbrev delivered_first : List Commit
delivered_first =
    commits.Local editions.Second (five_of_each 2 2 2)
    ∷ commits.Local editions.Second (commands.Delivery record { warehouse = 2; carrier = 3; at = 2 }) ∷ []

abbrev paid_behind : List Commit
paid_behind = delivered_first ++ commits.Cross editions.Second 1 (payment_at 1 1 2 (who.Number 1) 100) ∷ []

-- 5275 with 1 % off and 11 % of taxes 5796.6975
abbrev local_reply : (act items 2 editions.Second (five_of_each 2 2 2) (rows_of 2 loaded)).reply
    ≡ replies.NewOrder 1 5_797
local_reply = refl

-- -1000, and 5275 delivered, and 100 paid
abbrev delivered_balance : balance_of 2 1 1 (database_after load delivered_first) ≡ pos 4_275
delivered_balance = refl

abbrev paid_balance : balance_of 2 1 1 (database_after load paid_behind) ≡ pos 4_175
paid_balance = refl

abbrev paid_reply :
    (act_on_all editions.Second (payment_at 1 1 2 (who.Number 1) 100) (database_after load delivered_first)).reply
    ≡ replies.Payment 1 (pos 4_175)
paid_reply = refl

-- the amount is warehouse 1's, as is the payment's row
abbrev paid_here : warehouse_ytd (database_after load paid_behind) ≡ pos 30_100 ∷ pos 30_000 ∷ []
paid_here = refl

abbrev paid_is_consistent : is_consistent_after paid_behind
paid_is_consistent = refl

-- ---- a payment by last name

-- customers 2 and 3 are called TWO, and of two the first by first name is in the middle, which is 3
abbrev by_name : Command
by_name = payment_at 1 4 2 (who.Last (codes "TWO")) 250

abbrev by_its_number : Command
by_its_number = payment_at 1 4 2 (who.Number 3) 250

abbrev name_is_kept : kept_in loaded by_name ≡ by_its_number
name_is_kept = refl

abbrev named_reply : (act_on_all editions.Second by_name loaded).reply ≡ replies.Payment 3 (negsuc 1_249)
named_reply = refl

abbrev named_is_numbered : (act_on_all editions.Second by_name loaded).database
    ≡ (act_on_all editions.Second by_its_number loaded).database
named_is_numbered = refl

abbrev named_balances :
    map (λ customer. balance_of 2 1 customer (act_on_all editions.Second by_name loaded).database) (up_to 3)
    ≡ negsuc 999 ∷ negsuc 999 ∷ negsuc 1_249 ∷ []
named_balances = refl

-- the commit that is kept does what the command did
abbrev numbered_commit : List Commit
numbered_commit = commits.Cross editions.Second 1 by_its_number ∷ []

abbrev kept_does_the_same : (act_on_all editions.Second by_name loaded).database ≡ database_after load numbered_commit
kept_does_the_same = refl

abbrev numbered_is_consistent : is_consistent_after numbered_commit
numbered_is_consistent = refl

abbrev replay_by_number : rows_after load 2 numbered_commit ≡ rows_of 2 (database_after load numbered_commit)
replay_by_number = refl

-- a commit by last name pays nobody: at the customer's warehouse nothing changes, and none of its replay does. The home
-- has the amount
abbrev named_commit : List Commit
named_commit = commits.Cross editions.Second 1 by_name ∷ []

abbrev commit_by_name : rows_of 2 (database_after load named_commit) ≡ rows_of 2 loaded
commit_by_name = refl

abbrev replay_by_name : rows_after load 2 named_commit ≡ rows_of 2 loaded
replay_by_name = refl

abbrev home_by_name : warehouse_ytd (database_after load named_commit) ≡ pos 30_250 ∷ pos 30_000 ∷ []
home_by_name = refl

abbrev replay_at_home : rows_after load 1 named_commit ≡ rows_of 1 (database_after load named_commit)
replay_at_home = refl

abbrev named_is_consistent : is_consistent_after named_commit
named_is_consistent = refl

-- ---- a payment of a customer with bad credit: the second edition notes it in C_DATA, and the first doesn't

abbrev with_bad_credit : Lists
with_bad_credit = record load {
  tables = record load.tables {
    customers =
        map {A = Customer} {B = Customer} (λ row. record row { credit = codes "BC"; information = codes "old" })
        load.tables.customers;
  };
}

abbrev information_of : ℕ → ℕ → ℕ → Database → List ℕ
information_of warehouse district customer database =
    let rows : List Customer = (rows_of warehouse database).customers in
    (first_or (customer_of []) (is_customer warehouse district customer) rows).information

-- of customers 1, 2 and 3 of district 1 of warehouse 2
abbrev notes_in : Database → List (List ℕ)
notes_in database = map (λ customer. information_of 2 1 customer database) (up_to 3)

abbrev in_both : (Edition → Database) → List (List (List ℕ))
in_both done = map (λ edition. notes_in (done edition)) (editions.First ∷ editions.Second ∷ [])

-- the customer's number, district and warehouse, the district and the warehouse that take the payment, and the cents
noted_by_commit : in_both (λ edition. database_after with_bad_credit (commits.Cross edition 1 by_its_number ∷ []))
    ≡ (codes "old" ∷ codes "old" ∷ codes "old" ∷ [])
    ∷ (codes "old" ∷ codes "old" ∷ codes "3 1 2 4 1 250;old" ∷ []) ∷ []
unfolding digits
noted_by_commit = refl

-- one of a single warehouse
noted_by_local_commit :
    in_both (λ edition. database_after with_bad_credit
    (commits.Local edition (payment_at 2 5 2 (who.Number 1) 100) ∷ []))
    ≡ (codes "old" ∷ codes "old" ∷ codes "old" ∷ [])
    ∷ (codes "1 1 2 5 2 100;old" ∷ codes "old" ∷ codes "old" ∷ []) ∷ []
unfolding digits
noted_by_local_commit = refl

-- a command by last name, before its commit is kept
noted_by_command : in_both (λ edition. (act_on_all edition by_name (database_of with_bad_credit)).database)
    ≡ (codes "old" ∷ codes "old" ∷ codes "old" ∷ [])
    ∷ (codes "old" ∷ codes "old" ∷ codes "3 1 2 4 1 250;old" ∷ []) ∷ []
unfolding digits
noted_by_command = refl

-- one of good credit is noted by neither
good_credit_by_commit : in_both (λ edition. database_after load (commits.Cross edition 1 by_its_number ∷ []))
    ≡ ([] ∷ [] ∷ [] ∷ []) ∷ ([] ∷ [] ∷ [] ∷ []) ∷ []
unfolding digits
good_credit_by_commit = refl

-- in a list of commits each is done by its own edition
noted_in_turn :
    notes_in (database_after with_bad_credit (commits.Cross editions.Second 1 by_its_number
    ∷ commits.Cross editions.First 2 by_its_number
    ∷ commits.Local editions.Second (payment_at 2 5 2 (who.Number 3) 100)
    ∷ commits.Local editions.First (payment_at 2 5 2 (who.Number 1) 100) ∷ []))
    ≡ codes "old" ∷ codes "old" ∷ codes "3 1 2 5 2 100;3 1 2 4 1 250;old" ∷ []
unfolding digits
noted_in_turn = refl

-- ---- a refused command changes nothing

abbrev unknown_item : Command
unknown_item = commands.NewOrder record {
  warehouse = 1;
  district = 1;
  customer = 1;
  at = 1;
  lines = line 1 2 5 ∷ line 2 1 5 ∷ line 3 1 5 ∷ line 4 1 5 ∷ line 21 2 5 ∷ [];
}

abbrev unknown_outcome : act_on_all editions.Second unknown_item loaded
    ≡ record { database = loaded; reply = replies.Refused refusals.NoSuchItem }
unknown_outcome = refl

abbrev unknown_customer : act_on_all editions.Second (payment_at 1 1 2 (who.Number 4) 100) loaded
    ≡ record { database = loaded; reply = replies.Refused refusals.NoSuchCustomer }
unknown_customer = refl

abbrev unknown_warehouse : act_on_all editions.Second (payment_at 1 1 3 (who.Number 1) 100) loaded
    ≡ record { database = loaded; reply = replies.Refused refusals.NoSuchWarehouse }
unknown_warehouse = refl

-- and so does a commit of one warehouse that names two
abbrev local_crossing : database_after load (commits.Local editions.Second (five_of_each 1 2 1) ∷ []) ≡ loaded
local_crossing = refl

abbrev refused_commit : database_after load (commits.Cross editions.Second 1 unknown_item ∷ []) ≡ loaded
refused_commit = refl
