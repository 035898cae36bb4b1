-- A small warehouse for the examples of transactions, and what is seen of it after some commands.
use Rattle.std.specs.Prelude.{◌≡◌, ℕ, zero, suc, pos, negsuc, ◌+◌, ◌*◌, ◌%◌, List, [], ◌∷◌, ◌++◌, None, map, codes, fold, refl}
use Rattle.hy_rows.specs.declared.warehouse.Warehouse.{Warehouse}
use Rattle.hy_rows.specs.declared.district.District.{District}
use Rattle.hy_rows.specs.declared.customer.Customer.{Customer}
use Rattle.hy_rows.specs.declared.history.History.{History}
use Rattle.hy_rows.specs.declared.item.Item.{Item}
use Rattle.hy_rows.specs.declared.stock.Stock.{Stock}
use Rattle.hy_rows.specs.Finding.{first_or, is_customer, is_district}
use Rattle.hy_rows.specs.Rows.{customer_of, customer_with, district_of, stock_of}
use Rattle.hy_rows.specs.Tables.{Tables, no_rows}
use Rattle.hy_schema.specs.Conditions.{first_broken}
use Rattle.hy_schema.specs.Keys.{district_numbers}
use Rattle.hy_commands.specs.declared.command.Command.{Command}
use Rattle.hy_commands.specs.declared.command.Command.TheVariants as commands
use Rattle.hy_commands.specs.declared.command.Commit.TheVariants as commits
use Rattle.hy_commands.specs.declared.command.PurchaseLine.{PurchaseLine}
use Rattle.hy_commands.specs.declared.command.Who.{Who}
use Rattle.hy_commands.specs.declared.command.Who.TheVariants as who
use Rattle.hy_commands.specs.declared.reply.Reply.{Reply}
use Rattle.hy_commands.specs.declared.edition.Edition.TheVariants as editions
use Rattle.hy_commands.specs.NewOrders.{is_stock}
use Rattle.hy_commands.specs.Replay.{replay}
use Rattle.hy_commands.specs.Transactions.{act}

-- ---- warehouse 1 with ten districts of three customers and 20 items; each customer paid 10.00 when the district opened

abbrev pub item : ℕ → Item
item number = record { id = number; image = 1; name = codes "ITEM"; price = 100 + 37 * number % 9901 }

abbrev pub stock : ℕ → Stock
stock number = record {
  item = number;
  warehouse = 1;
  quantity = 10 + (7 * number + 1) % 91;
  ytd = 0;
  order_count = 0;
  remote_count = 0;
}

abbrev pub warehouse : Warehouse
warehouse = record { id = 1; name = codes "W1"; tax = 500; ytd = pos 30_000 }

abbrev pub district : ℕ → District
district number = record {
  id = number;
  warehouse = 1;
  name = codes "D1";
  tax = 100 * number;
  ytd = pos 3_000;
  next_order = 1;
}

abbrev pub customer : ℕ → ℕ → List ℕ → List ℕ → Customer
customer district number last first = record (customer_with []) {
  id = number;
  district = district;
  warehouse = 1;
  first = first;
  middle = codes "OE";
  last = last;
  credit = codes "GC";
  discount = 100 * number;
  balance = negsuc 999;
  ytd_payment = pos 1_000;
  payment_count = 1;
}

abbrev pub customers : ℕ → List Customer
customers district =
    customer district 1 (codes "ONE") (codes "A") ∷ customer district 2 (codes "TWO") (codes "B")
    ∷ customer district 3 (codes "TWO") (codes "A") ∷ []

abbrev pub opening : ℕ → ℕ → History
opening district customer = record {
  customer = customer;
  customer_district = district;
  customer_warehouse = 1;
  district = district;
  warehouse = 1;
  date = 1;
  amount = pos 1_000;
  information = [];
}

-- the rows of some numbers, one behind another
abbrev pub each : {Row : Type 0} → (ℕ → List Row) → List ℕ → List Row
each rows numbers = fold (λ before number. before ++ rows number) [] numbers

-- the numbers from 1 to the last
abbrev pub up_to : ℕ → List ℕ
up_to zero = []
up_to (suc last) = up_to last ++ suc last ∷ []

abbrev pub items : List Item
items = map item (up_to 20)

abbrev pub sample : Tables
sample = record no_rows {
  warehouses = warehouse ∷ [];
  districts = map district district_numbers;
  customers = each customers district_numbers;
  history = each (λ district. map (opening district) (up_to 3)) district_numbers;
  stock = map stock (up_to 20);
}

-- its rows meet all conditions
abbrev pub sample_is_consistent : first_broken sample ≡ None
sample_is_consistent = refl

-- ---- commands, and what is seen after them

abbrev pub bought : ℕ → ℕ → PurchaseLine
bought item quantity = record { item = item; supply_warehouse = 1; quantity = quantity }

-- a purchase of customer 1 of a district
abbrev pub purchase : ℕ → List PurchaseLine → Command
purchase district lines =
    commands.NewOrder record { warehouse = 1; district = district; customer = 1; at = 6; lines = lines }

abbrev pub payment : Who → ℕ → Command
payment who amount = commands.Payment record {
  warehouse = 1;
  district = 2;
  customer_warehouse = 1;
  customer_district = 1;
  who = who;
  amount = amount;
  at = 7;
}

abbrev pub delivery : Command
delivery = commands.Delivery record { warehouse = 1; carrier = 7; at = 2 }

abbrev pub status : ℕ → Command
status customer = commands.OrderStatus record { warehouse = 1; district = 1; who = who.Number customer }

abbrev pub level : Command
level = commands.StockLevel record { warehouse = 1; district = 1; threshold = 11 }

-- the rows and the reply after one command behind some others
abbrev pub after : List Command → Tables
after done = replay (record { items = items; tables = sample }) 1 sample (map (commits.Local editions.Second) done)

abbrev pub reply_after : List Command → Command → Reply
reply_after done command = (act items 1 editions.Second command (after done)).reply

abbrev pub stock_of_item : ℕ → Tables → Stock
stock_of_item number tables = first_or (stock_of []) (is_stock 1 number) tables.stock

-- S_QUANTITY, S_YTD, S_ORDER_CNT, S_REMOTE_CNT of a row of STOCK, and of an item
abbrev pub columns_of_stock : Stock → List ℕ
columns_of_stock row = row.quantity ∷ row.ytd ∷ row.order_count ∷ row.remote_count ∷ []

abbrev pub stock_columns : ℕ → Tables → List ℕ
stock_columns number tables = columns_of_stock (stock_of_item number tables)

abbrev pub customer_after : List Command → Customer
customer_after done = first_or (customer_of []) (is_customer 1 1 1) (after done).customers

abbrev pub next_order_after : List Command → ℕ
next_order_after done = (first_or (district_of []) (is_district 1 1) (after done).districts).next_order

-- five each of items 1 to 5, by customer 1 of a district
abbrev pub five_of_each : ℕ → Command
five_of_each district = purchase district (bought 1 5 ∷ bought 2 5 ∷ bought 3 5 ∷ bought 4 5 ∷ bought 5 5 ∷ [])

-- some of item 1 and one each of items 2 to 5
abbrev pub first_of : ℕ → Command
first_of quantity = purchase 1 (bought 1 quantity ∷ bought 2 1 ∷ bought 3 1 ∷ bought 4 1 ∷ bought 5 1 ∷ [])
