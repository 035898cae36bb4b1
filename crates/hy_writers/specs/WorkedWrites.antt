-- What the checker computes on a small store, with values from hand calculation: lines delivered by their places, the head
-- and lines of a purchase, lines that are sold to another home, a delivery, and both parts of a payment.
use Rattle.std.specs.Prelude.{◌≡◌, ℕ, negsuc, pos, true, false, None, Some, List, [], ◌∷◌, codes, refl}
use Rattle.std.specs.Fmt.{digits}
use Rattle.hy_page.specs.Bytes.{overwritten}
use Rattle.hy_rows.specs.declared.customer.Customer.{Customer}
use Rattle.hy_rows.specs.declared.district.District.{District}
use Rattle.hy_rows.specs.declared.history.History.{History}
use Rattle.hy_rows.specs.declared.item.Item.{Item}
use Rattle.hy_rows.specs.declared.new_order.NewOrder.{NewOrder}
use Rattle.hy_rows.specs.declared.order.Order.{Order}
use Rattle.hy_rows.specs.declared.order_line.OrderLine.{OrderLine}
use Rattle.hy_rows.specs.declared.stock.Stock.{Stock}
use Rattle.hy_rows.specs.declared.warehouse.Warehouse.{Warehouse}
use Rattle.hy_rows.specs.Rows.{customer_with as customer_of_values}
use Rattle.hy_rows.specs.Tables.{no_rows}
use Rattle.hy_rows.specs.Texts.{text_of}
use Rattle.hy_indexes.specs.of_index.declared.key.Entry.{Entry}
use Rattle.hy_commands.specs.declared.command.Delivery.{Delivery}
use Rattle.hy_commands.specs.declared.command.Payment.{Payment}
use Rattle.hy_commands.specs.declared.command.Purchase.{Purchase}
use Rattle.hy_commands.specs.declared.command.PurchaseLine.{PurchaseLine}
use Rattle.hy_commands.specs.declared.command.Who.TheVariants as who
use Rattle.hy_commands.specs.declared.edition.Edition.TheVariants as editions
use Rattle.hy_commands.specs.Deliveries.{oldest}
use Rattle.hy_indexes.specs.of_store.declared.keys.CustomerKey.{CustomerKey}
use Rattle.hy_indexes.specs.of_store.declared.keys.LineKey.{LineKey}
use Rattle.hy_indexes.specs.of_store.declared.keys.OrderKey.{OrderKey}
use Rattle.hy_indexes.specs.of_store.declared.keys.WaitingKey.{WaitingKey}
use Rattle.hy_indexes.specs.of_store.Stored.{Stored}
use Rattle.hy_writers.specs.Deliveries.{is_listed, lines_at, walked, with_delivery}
use Rattle.hy_writers.specs.Information.{ended}
use Rattle.hy_writers.specs.Payments.{history_for, with_customer_paid, with_home_paid, with_noted}
use Rattle.hy_writers.specs.Purchases.{with_line_sold, with_order, with_order_line}
use Rattle.hy_writers.specs.Waiting.{order_of_entry}

-- ---- rows and entries of warehouse 1

abbrev line : ℕ → ℕ → ℕ → ℕ → ℕ → OrderLine
line district order number date cents = record {
  order = order;
  district = district;
  warehouse = 1;
  number = number;
  item = 2;
  supply_warehouse = 1;
  delivery_date = date;
  quantity = 5;
  amount = pos cents;
}

abbrev order_by : ℕ → ℕ → ℕ → ℕ → ℕ → Order
order_by customer district number carrier lines = record {
  id = number;
  district = district;
  warehouse = 1;
  customer = customer;
  entry_date = 10;
  carrier = carrier;
  line_count = lines;
  all_local = 1;
}

abbrev new_order : ℕ → ℕ → NewOrder
new_order district number = record { order = number; district = district; warehouse = 1 }

abbrev district_with : ℕ → District
district_with next_order = record {
  id = 3;
  warehouse = 1;
  name = codes "D3";
  tax = 300;
  ytd = pos 0;
  next_order = next_order;
}

abbrev customer_with : ℕ → ℕ → Customer
customer_with cents deliveries = record (customer_of_values []) {
  id = 4;
  district = 3;
  warehouse = 1;
  first = codes "A";
  middle = codes "OE";
  last = codes "ONE";
  credit = codes "GC";
  discount = 100;
  balance = pos cents;
  ytd_payment = pos 1_000;
  payment_count = 1;
  delivery_count = deliveries;
}

abbrev stock_with : ℕ → ℕ → ℕ → Stock
stock_with quantity sold orders = record {
  item = 2;
  warehouse = 1;
  quantity = quantity;
  ytd = sold;
  order_count = orders;
  remote_count = 0;
}

abbrev at_order : ℕ → ℕ → ℕ → Entry OrderKey
at_order number district slot = record { key = record { order = number; district = district }; slot = slot }

abbrev at_customer : ℕ → ℕ → ℕ → Entry CustomerKey
at_customer district customer slot = record { key = record { district = district; customer = customer }; slot = slot }

abbrev at_waiting : ℕ → ℕ → ℕ → Entry WaitingKey
at_waiting district number slot = record { key = record { district = district; order = number }; slot = slot }

abbrev at_line : ℕ → ℕ → ℕ → ℕ → Entry LineKey
at_line order district number slot =
    record { key = record { order = order; district = district; number = number }; slot = slot }

-- ---- three orders, of which the two with number 6 wait

abbrev four_lines : List OrderLine
four_lines = line 3 5 1 11 700 ∷ line 4 6 1 0 90 ∷ line 3 6 1 0 250 ∷ line 3 6 2 0 130 ∷ []

abbrev small : Stored
small = record {
  tables = record no_rows {
    districts = district_with 7 ∷ [];
    customers = customer_with 40 2 ∷ [];
    new_orders = new_order 4 6 ∷ new_order 3 6 ∷ [];
    orders = order_by 9 3 5 8 1 ∷ order_by 2 4 6 0 1 ∷ order_by 4 3 6 0 2 ∷ [];
    order_lines = four_lines;
    stock = stock_with 40 0 0 ∷ [];
  };
  new_order_slots = None ∷ Some (new_order 4 6) ∷ Some (new_order 3 6) ∷ [];
  orders = at_order 5 3 0 ∷ at_order 6 3 2 ∷ at_order 6 4 1 ∷ [];
  last_orders = at_customer 3 4 2 ∷ at_customer 3 9 0 ∷ at_customer 4 2 1 ∷ [];
  waiting = at_waiting 3 6 2 ∷ at_waiting 4 6 1 ∷ [];
  lines = at_line 5 3 1 0 ∷ at_line 6 3 1 2 ∷ at_line 6 3 2 3 ∷ at_line 6 4 1 1 ∷ [];
}

-- ---- lines by their places

-- the lines at two places are delivered and summed up, and a place past the end is none
abbrev walks : walked 20 (2 ∷ 3 ∷ 9 ∷ []) (record { rows = four_lines; cents = pos 1 }) ≡ record {
  rows = line 3 5 1 11 700 ∷ line 4 6 1 0 90 ∷ line 3 6 1 20 250 ∷ line 3 6 2 20 130 ∷ [];
  cents = pos 381;
}
walks = refl

abbrev finds_lines : lines_at four_lines (3 ∷ 9 ∷ 0 ∷ []) ≡ line 3 6 2 0 130 ∷ line 3 5 1 11 700 ∷ []
finds_lines = refl

abbrev lists_place : is_listed 3 (2 ∷ 3 ∷ []) ≡ true
lists_place = refl

abbrev lists_no_other : is_listed 1 (2 ∷ 3 ∷ []) ≡ false
lists_no_other = refl

-- ---- a purchase of customer 4 in district 3

abbrev items : List Item
items = record { id = 2; image = 1; name = codes "ITEM"; price = 60 } ∷ []

abbrev bought : PurchaseLine
bought = record { item = 2; supply_warehouse = 1; quantity = 5 }

abbrev purchase : Purchase
purchase = record { warehouse = 1; district = 3; customer = 4; at = 10; lines = bought ∷ [] }

-- the head: order 7 stands at place 3, is the customer's last one, and waits in slot 3
abbrev headed_small : Stored
headed_small = record small {
  tables = record small.tables {
    districts = district_with 8 ∷ [];
    new_orders = new_order 4 6 ∷ new_order 3 6 ∷ new_order 3 7 ∷ [];
    orders = order_by 9 3 5 8 1 ∷ order_by 2 4 6 0 1 ∷ order_by 4 3 6 0 2 ∷ order_by 4 3 7 0 1 ∷ [];
  };
  new_order_slots = None ∷ Some (new_order 4 6) ∷ Some (new_order 3 6) ∷ Some (new_order 3 7) ∷ [];
  orders = at_order 5 3 0 ∷ at_order 6 3 2 ∷ at_order 6 4 1 ∷ at_order 7 3 3 ∷ [];
  last_orders = at_customer 3 4 3 ∷ at_customer 3 9 0 ∷ at_customer 4 2 1 ∷ [];
  waiting = at_waiting 3 6 2 ∷ at_waiting 3 7 3 ∷ at_waiting 4 6 1 ∷ [];
}

abbrev heads : with_order purchase small ≡ headed_small
heads = refl

-- its line costs 5 times 60 cents, and the stock falls from 40 to 35
abbrev lines_up : with_order_line items 1 purchase 0 bought headed_small ≡ record headed_small {
  tables = record headed_small.tables {
    order_lines =
        line 3 5 1 11 700 ∷ line 4 6 1 0 90 ∷ line 3 6 1 0 250 ∷ line 3 6 2 0 130 ∷ line 3 7 1 0 300 ∷ [];
    stock = stock_with 35 5 1 ∷ [];
  };
  lines = at_line 5 3 1 0 ∷ at_line 6 3 1 2 ∷ at_line 6 3 2 3 ∷ at_line 6 4 1 1 ∷ at_line 7 3 1 4 ∷ [];
}
lines_up = refl

-- the same line from warehouse 2: its row says so, and the stock stays
abbrev bought_afar : PurchaseLine
bought_afar = record { item = 2; supply_warehouse = 2; quantity = 5 }

abbrev lines_up_afar : with_order_line items 1 purchase 0 bought_afar headed_small ≡ record headed_small {
  tables = record headed_small.tables {
    order_lines = line 3 5 1 11 700 ∷ line 4 6 1 0 90 ∷ line 3 6 1 0 250 ∷ line 3 6 2 0 130
        ∷ (record (line 3 7 1 0 300) { supply_warehouse = 2 }) ∷ [];
  };
  lines = at_line 5 3 1 0 ∷ at_line 6 3 1 2 ∷ at_line 6 3 2 3 ∷ at_line 6 4 1 1 ∷ at_line 7 3 1 4 ∷ [];
}
lines_up_afar = refl

-- ---- a line that warehouse 1 sells

-- to its own order, and to one of another home, which S_REMOTE_CNT counts
abbrev sells : with_line_sold 1 false bought small ≡ record small {
  tables = record small.tables { stock = stock_with 35 5 1 ∷ [] };
}
sells = refl

abbrev sells_afar : with_line_sold 1 true bought small ≡ record small {
  tables = record small.tables { stock = (record (stock_with 35 5 1) { remote_count = 1 }) ∷ [] };
}
sells_afar = refl

-- it sells no line that another warehouse supplies, and no other item
abbrev sells_no_other : with_line_sold 1 true bought_afar small ≡ small
sells_no_other = refl

abbrev sells_no_item : with_line_sold 1 true (record { item = 3; supply_warehouse = 1; quantity = 5 }) small ≡ small
sells_no_item = refl

-- ---- a delivery in district 3

abbrev delivery : Delivery
delivery = record { warehouse = 1; carrier = 7; at = 20 }

abbrev oldest_in_district : oldest 1 3 small.tables ≡ 6
oldest_in_district = refl

abbrev order_of_oldest : order_of_entry 1 small (at_waiting 3 6 2) ≡ order_by 4 3 6 0 2
order_of_oldest = refl

-- order 6 of the district, its two lines and its customer are delivered, and order 6 of district 4 waits on
abbrev delivers : with_delivery delivery (order_by 4 3 6 0 2) 2 small ≡ record small {
  tables = record small.tables {
    customers = customer_with 420 3 ∷ [];
    new_orders = new_order 4 6 ∷ [];
    orders = order_by 9 3 5 8 1 ∷ order_by 2 4 6 0 1 ∷ order_by 4 3 6 7 2 ∷ [];
    order_lines = line 3 5 1 11 700 ∷ line 4 6 1 0 90 ∷ line 3 6 1 20 250 ∷ line 3 6 2 20 130 ∷ [];
  };
  new_order_slots = None ∷ Some (new_order 4 6) ∷ None ∷ [];
  waiting = at_waiting 4 6 1 ∷ [];
}
delivers = refl

-- ---- a payment in district 3 of warehouse 1, by customer 6 of district 5 of warehouse 2

abbrev warehouse : Warehouse
warehouse = record { id = 1; name = codes "W1"; tax = 500; ytd = pos 70 }

abbrev payment : Payment
payment = record {
  warehouse = 1;
  district = 3;
  customer_warehouse = 2;
  customer_district = 5;
  who = who.Number 6;
  amount = 100;
  at = 20;
}

abbrev paid : History
paid = record {
  customer = 6;
  customer_district = 5;
  customer_warehouse = 2;
  district = 3;
  warehouse = 1;
  date = 20;
  amount = pos 100;
  information = codes "W1    D3";
}

abbrev enters_history : history_for payment 6 warehouse (district_with 7) ≡ paid
enters_history = refl

-- the home has the amount and the history, and no customer pays there
abbrev home : Stored
home = record small { tables = record small.tables { warehouses = warehouse ∷ [] } }

abbrev pays_at_home : with_home_paid payment 6 home ≡ record home {
  tables = record home.tables {
    warehouses = record warehouse { ytd = pos 170 } ∷ [];
    districts = record (district_with 7) { ytd = pos 100 } ∷ [];
    history = paid ∷ [];
  };
}
pays_at_home = refl

-- a customer of warehouse 1 who pays at warehouse 2: the balance falls, and nothing else changes here
abbrev payment_elsewhere : Payment
payment_elsewhere = record payment {
  warehouse = 2;
  district = 5;
  customer_warehouse = 1;
  customer_district = 3;
  who = who.Number 4;
}

abbrev customer_pays : with_customer_paid editions.Second payment_elsewhere home ≡ record home {
  tables = record home.tables {
    customers =
        record (customer_with 40 2) { balance = negsuc 59; ytd_payment = pos 1_100; payment_count = 2 } ∷ [];
  };
}
customer_pays = refl

-- the same one with bad credit, and something in C_DATA
abbrev customer_in_debt : Customer
customer_in_debt = record (customer_with 40 2) { credit = codes "BC"; information = codes "old" }

abbrev home_in_debt : Stored
home_in_debt = record home { tables = record home.tables { customers = customer_in_debt ∷ [] } }

-- the customer's number, district and warehouse, the district and the warehouse that take the payment, and the cents are
-- noted before it
customer_is_noted : with_customer_paid editions.Second payment_elsewhere home_in_debt ≡ record home_in_debt {
  tables = record home_in_debt.tables {
    customers = record customer_in_debt {
      balance = negsuc 59;
      ytd_payment = pos 1_100;
      payment_count = 2;
      information = codes "4 3 1 5 2 100;old";
    } ∷ [];
  };
}
unfolding digits
customer_is_noted = refl

-- but in the first edition
customer_is_not_noted : with_customer_paid editions.First payment_elsewhere home_in_debt ≡ record home_in_debt {
  tables = record home_in_debt.tables {
    customers = record customer_in_debt { balance = negsuc 59; ytd_payment = pos 1_100; payment_count = 2 } ∷ [];
  };
}
unfolding digits
customer_is_not_noted = refl

-- the note by itself
notes_alone : with_noted payment_elsewhere 4 0 customer_in_debt home_in_debt ≡ record home_in_debt {
  tables = record home_in_debt.tables {
    customers = record customer_in_debt { information = codes "4 3 1 5 2 100;old" } ∷ [];
  };
}
unfolding digits
notes_alone = refl

-- ---- a text in a field of nine bytes

-- the zero behind it ends it, whatever stood there
abbrev ends_text : ended 9 (codes "short") ≡ 115 ∷ 104 ∷ 111 ∷ 114 ∷ 116 ∷ 0 ∷ []
ends_text = refl

abbrev reads_ended : text_of (overwritten (codes "long text") 0 (ended 9 (codes "short"))) ≡ codes "short"
reads_ended = refl

abbrev reads_unended : text_of (overwritten (codes "long text") 0 (codes "short")) ≡ codes "shorttext"
reads_unended = refl

-- one that fills the field has none
abbrev fills_field : ended 9 (codes "long text") ≡ codes "long text"
fills_field = refl
