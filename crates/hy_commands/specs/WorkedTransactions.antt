-- Examples of New-Order and Payment, each with values from hand calculation; the checker computes them.
use Rattle.std.specs.Prelude.{◌≡◌, ℕ, ℤ, pos, negsuc, List, [], ◌∷◌, ◌++◌, None, map, codes, refl}
use Rattle.hy_rows.specs.declared.warehouse.Warehouse.{Warehouse}
use Rattle.hy_rows.specs.declared.customer.Customer.{Customer}
use Rattle.hy_rows.specs.declared.history.History.{History}
use Rattle.hy_rows.specs.declared.order_line.OrderLine.{OrderLine}
use Rattle.hy_rows.specs.Tables.{Tables, no_rows}
use Rattle.hy_schema.specs.Conditions.{first_broken}
use Rattle.hy_schema.specs.declared.refusal.Refusal.TheVariants as refusals
use Rattle.hy_commands.specs.declared.command.Command.{Command}
use Rattle.hy_commands.specs.declared.command.Command.TheVariants as commands
use Rattle.hy_commands.specs.declared.command.Payment.{Payment}
use Rattle.hy_commands.specs.declared.command.Purchase.{Purchase}
use Rattle.hy_commands.specs.declared.command.PurchaseLine.{PurchaseLine}
use Rattle.hy_commands.specs.declared.command.Who.{Who}
use Rattle.hy_commands.specs.declared.command.Who.TheVariants as who
use Rattle.hy_commands.specs.declared.reply.Reply.{Reply}
use Rattle.hy_commands.specs.declared.reply.Reply.TheVariants as replies
use Rattle.hy_commands.specs.declared.edition.Edition.TheVariants as editions
use Rattle.hy_commands.specs.NewOrders.{line_rows, order_row, supplied, total_of}
use Rattle.hy_commands.specs.Payments.{history_row}
use Rattle.hy_commands.specs.Transactions.{act}
use Rattle.hy_commands.specs.WorkedSample.{after, bought, customer, customer_after, customers, first_of, five_of_each, items, next_order_after, payment, purchase, reply_after, sample, stock_columns}

-- ---- New-Order

-- 5 (137 + 174 + 211 + 248 + 285) = 5275, with 1 % off and 6 % of taxes 5535.585
abbrev order_of_five : reply_after [] (five_of_each 1) ≡ replies.NewOrder 1 5_536
order_of_five = refl

abbrev order_of_five_is_consistent : first_broken (after (five_of_each 1 ∷ [])) ≡ None
order_of_five_is_consistent = refl

abbrev next_order_of_five : next_order_after (five_of_each 1 ∷ []) ≡ 2
next_order_of_five = refl

abbrev second_order : reply_after (five_of_each 1 ∷ []) (five_of_each 1) ≡ replies.NewOrder 2 5_536
second_order = refl

-- the rows of the order
abbrev order_rows : (after (five_of_each 3 ∷ [])).orders
    ≡ record {
      id = 1;
      district = 3;
      warehouse = 1;
      customer = 1;
      entry_date = 6;
      carrier = 0;
      line_count = 5;
      all_local = 1;
    } ∷ []
order_rows = refl

abbrev new_order_rows : (after (five_of_each 3 ∷ [])).new_orders ≡ record { order = 1; district = 3; warehouse = 1 } ∷
    []
new_order_rows = refl

-- number, item and amount of its lines
abbrev line_columns : OrderLine → ℕ × ℕ × ℤ
line_columns row = (row.number, row.item, row.amount)

abbrev line_rows_of_five : map line_columns (after (five_of_each 3 ∷ [])).order_lines
    ≡ (1, 1, pos 685) ∷ (2, 2, pos 870) ∷ (3, 3, pos 1_055) ∷ (4, 4, pos 1_240) ∷ (5, 5, pos 1_425) ∷ []
line_rows_of_five = refl

-- item 1 goes from 18 to 10 with a quantity of 8; with 9 it would go below 10, and is filled up
abbrev stock_before : stock_columns 1 sample ≡ 18 ∷ 0 ∷ 0 ∷ 0 ∷ []
stock_before = refl

abbrev order_with_eight : reply_after [] (first_of 8) ≡ replies.NewOrder 1 2_113
order_with_eight = refl

abbrev stock_with_eight : stock_columns 1 (after (first_of 8 ∷ [])) ≡ 10 ∷ 8 ∷ 1 ∷ 0 ∷ []
stock_with_eight = refl

abbrev order_with_nine : reply_after [] (first_of 9) ≡ replies.NewOrder 1 2_257
order_with_nine = refl

abbrev stock_with_nine : stock_columns 1 (after (first_of 9 ∷ [])) ≡ 100 ∷ 9 ∷ 1 ∷ 0 ∷ []
stock_with_nine = refl

-- item 13 goes from 11 to 97
abbrev order_of_thirteen : Command
order_of_thirteen = purchase 1 (bought 13 5 ∷ bought 1 1 ∷ bought 2 1 ∷ bought 3 1 ∷ bought 4 1 ∷ [])

abbrev reply_of_thirteen : reply_after [] order_of_thirteen ≡ replies.NewOrder 1 3_857
reply_of_thirteen = refl

abbrev stock_of_thirteen : stock_columns 13 (after (order_of_thirteen ∷ [])) ≡ 97 ∷ 5 ∷ 1 ∷ 0 ∷ []
stock_of_thirteen = refl

abbrev lines_of_thirteen : map line_columns (after (order_of_thirteen ∷ [])).order_lines
    ≡ (1, 13, pos 2_905) ∷ (2, 1, pos 137) ∷ (3, 2, pos 174) ∷ (4, 3, pos 211) ∷ (5, 4, pos 248) ∷ []
lines_of_thirteen = refl

-- another district has another tax: 5275 with 1 % off and 8 % of taxes 5640.03
abbrev order_of_district_3 : reply_after [] (five_of_each 3) ≡ replies.NewOrder 1 5_640
order_of_district_3 = refl

-- customer 3 has 3 % off: 5423.755
abbrev order_of_customer_3 : reply_after [] (commands.NewOrder record {
  warehouse = 1;
  district = 1;
  customer = 3;
  at = 6;
  lines = bought 1 5 ∷ bought 2 5 ∷ bought 3 5 ∷ bought 4 5 ∷ bought 5 5 ∷ [];
}) ≡ replies.NewOrder 1 5_424
order_of_customer_3 = refl

-- the customer is that of the order's district: with half off and 7 % of taxes 5275 come to 2822.125
abbrev half_off_in_district_2 : Tables
half_off_in_district_2 = record sample {
  customers = customers 1 ++ record (customer 2 1 (codes "ONE") (codes "A")) { discount = 5_000 } ∷ [];
}

abbrev order_with_half_off : (act items 1 editions.Second (five_of_each 2) half_off_in_district_2).reply ≡ replies.NewOrder 1 2_822
order_with_half_off = refl

-- half a cent is a cent, and less is none
abbrev half_cents : map (λ discount. total_of 1 discount 0 0) (5_000 ∷ 5_001 ∷ []) ≡ 1 ∷ 0 ∷ []
half_cents = refl

-- an item twice in one order: the second line finds what the first one left
abbrev order_with_one_twice : Command
order_with_one_twice = purchase 1 (bought 1 5 ∷ bought 1 5 ∷ bought 2 1 ∷ bought 3 1 ∷ bought 4 1 ∷ [])

abbrev stock_of_one_twice : stock_columns 1 (after (order_with_one_twice ∷ [])) ≡ 99 ∷ 10 ∷ 2 ∷ 0 ∷ []
stock_of_one_twice = refl

-- an item that isn't there: nothing changed
abbrev order_of_unknown : Command
order_of_unknown = purchase 1 (bought 1 5 ∷ bought 2 5 ∷ bought 3 5 ∷ bought 4 5 ∷ bought 21 5 ∷ [])

abbrev unknown_item : act items 1 editions.Second order_of_unknown sample
    ≡ record { tables = sample; reply = replies.Refused refusals.NoSuchItem }
unknown_item = refl

-- ---- Payment

abbrev payment_of_100 : reply_after [] (payment (who.Number 1) 100) ≡ replies.Payment 1 (negsuc 1_099)
payment_of_100 = refl

abbrev payments : List Command
payments = payment (who.Number 1) 100 ∷ payment (who.Number 1) 500_000 ∷ []

-- what the customer owes, has paid in all, and how often
abbrev customer_columns : List Command → ℤ × ℤ × ℕ
customer_columns done =
    let row : Customer = customer_after done in
    (row.balance, row.ytd_payment, row.payment_count)

abbrev payment_of_500000 : reply_after (payment (who.Number 1) 100 ∷ []) (payment (who.Number 1) 500_000)
    ≡ replies.Payment 1 (negsuc 501_099)
payment_of_500000 = refl

abbrev warehouse_after_payments : map (λ (row : Warehouse). row.ytd) (after payments).warehouses ≡ pos 530_100 ∷ []
warehouse_after_payments = refl

abbrev customer_after_payments : customer_columns payments ≡ (negsuc 501_099, pos 501_100, 3)
customer_after_payments = refl

abbrev payments_are_consistent : first_broken (after payments) ≡ None
payments_are_consistent = refl

abbrev payment_of_99 : act items 1 editions.Second (payment (who.Number 1) 99) sample
    ≡ record { tables = sample; reply = replies.Refused refusals.OutOfRange }
payment_of_99 = refl

abbrev payment_of_500001 : act items 1 editions.Second (payment (who.Number 1) 500_001) sample
    ≡ record { tables = sample; reply = replies.Refused refusals.OutOfRange }
payment_of_500001 = refl

-- the district of the payment, and that of the customer
abbrev payment_row : (after (payment (who.Number 1) 100 ∷ [])).history
    ≡ sample.history ++ record {
      customer = 1;
      customer_district = 1;
      customer_warehouse = 1;
      district = 2;
      warehouse = 1;
      date = 7;
      amount = pos 100;
      information = codes "W1    D1";
    } ∷ []
payment_row = refl

-- customers 1 ONE A, 2 TWO B, 3 TWO A, 4 THREE C, 5 THREE B, 6 THREE B
abbrev named : Tables
named = record no_rows {
  warehouses = sample.warehouses;
  districts = sample.districts;
  customers =
      customers 1 ++ customer 1 4 (codes "THREE") (codes "C") ∷ customer 1 5 (codes "THREE") (codes "B")
      ∷ customer 1 6 (codes "THREE") (codes "B") ∷ [];
}

abbrev payment_of : List ℕ → Reply
payment_of name = (act items 1 editions.Second (payment (who.Last name) 100) named).reply

-- a name is looked for in the customer's district alone
abbrev named_elsewhere : Tables
named_elsewhere = record named { customers = customer 2 9 (codes "ONE") (codes "0") ∷ named.customers }

abbrev payment_of_one_in_district_1 : (act items 1 editions.Second (payment (who.Last (codes "ONE")) 100) named_elsewhere).reply
    ≡ replies.Payment 1 (negsuc 1_099)
payment_of_one_in_district_1 = refl

abbrev payment_of_one : payment_of (codes "ONE") ≡ replies.Payment 1 (negsuc 1_099)
payment_of_one = refl

abbrev payment_of_two : payment_of (codes "TWO") ≡ replies.Payment 3 (negsuc 1_099)
payment_of_two = refl

abbrev payment_of_three : payment_of (codes "THREE") ≡ replies.Payment 6 (negsuc 1_099)
payment_of_three = refl

abbrev payment_of_four : payment_of (codes "FOUR") ≡ replies.Refused refusals.NoSuchCustomer
payment_of_four = refl

-- ---- refusals, the first that holds

-- a purchase of six lines in which the last two have something wrong
abbrev refused : ℕ → ℕ → ℕ → PurchaseLine → Reply
refused supplier district customer last =
    let remote : PurchaseLine = record { item = 1; supply_warehouse = supplier; quantity = 1 } in (
    act items 1 editions.Second
    (commands.NewOrder record {
      warehouse = 1;
      district = district;
      customer = customer;
      at = 1;
      lines = bought 1 1 ∷ bought 2 1 ∷ bought 3 1 ∷ bought 4 1 ∷ remote ∷ last ∷ [];
    }) sample
    ).reply

abbrev refused_for_the_quantity : refused 2 257 65_537 (bought 0 11) ≡ replies.Refused refusals.OutOfRange
refused_for_the_quantity = refl

abbrev refused_for_the_warehouse : refused 300 257 65_537 (bought 0 1) ≡ replies.Refused refusals.NoSuchWarehouse
refused_for_the_warehouse = refl

abbrev refused_for_the_district : refused 1 257 65_537 (bought 0 1) ≡ replies.Refused refusals.NoSuchDistrict
refused_for_the_district = refl

abbrev refused_for_the_customer : refused 1 1 65_537 (bought 0 1) ≡ replies.Refused refusals.NoSuchCustomer
refused_for_the_customer = refl

abbrev refused_for_the_item : refused 1 1 1 (bought 0 1) ≡ replies.Refused refusals.NoSuchItem
refused_for_the_item = refl

-- 137 + 174 + 211 + 248 + 137 + 322 = 1229, with 1 % off and 6 % of taxes 1289.7126
abbrev not_refused : refused 1 1 1 (bought 6 1) ≡ replies.NewOrder 1 1_290
not_refused = refl

-- a payment in district 1 for a customer
abbrev refused_payment : ℕ → ℕ → Who → Reply
refused_payment customer_warehouse customer_district who = (
    act items 1 editions.Second
    (commands.Payment record {
      warehouse = 1;
      district = 1;
      customer_warehouse = customer_warehouse;
      customer_district = customer_district;
      who = who;
      amount = 100;
      at = 1;
    }) sample
    ).reply

abbrev refused_for_the_other_warehouse : refused_payment 2 11 (who.Number 4) ≡ replies.Refused refusals.NoSuchWarehouse
refused_for_the_other_warehouse = refl

abbrev refused_for_the_other_district : refused_payment 1 11 (who.Number 4) ≡ replies.Refused refusals.NoSuchDistrict
refused_for_the_other_district = refl

abbrev refused_for_the_number : refused_payment 1 10 (who.Number 4) ≡ replies.Refused refusals.NoSuchCustomer
refused_for_the_number = refl

abbrev not_refused_payment : refused_payment 1 10 (who.Number 3) ≡ replies.Payment 3 (negsuc 1_099)
not_refused_payment = refl

-- ---- lines of other warehouses

-- a purchase in warehouse 3, the second line of which warehouse 1 supplies
abbrev remote_order : Purchase
remote_order = record {
  warehouse = 3;
  district = 1;
  customer = 1;
  at = 1;
  lines = record { item = 2; supply_warehouse = 3; quantity = 1 } ∷ bought 1 5 ∷ [];
}

abbrev not_all_local : (order_row remote_order 1).all_local ≡ 0
not_all_local = refl

-- OL_W_ID and OL_SUPPLY_W_ID
abbrev from_columns : OrderLine → ℕ × ℕ
from_columns row = (row.warehouse, row.supply_warehouse)

abbrev supplied_from : map from_columns (line_rows items remote_order 1 1 remote_order.lines) ≡ (3, 3) ∷ (3, 1) ∷ []
supplied_from = refl

-- what a line of another warehouse's purchase does to the warehouse that supplies it
abbrev supplied_line : stock_columns 1 (supplied 1 remote_order sample) ≡ 13 ∷ 5 ∷ 1 ∷ 1 ∷ []
supplied_line = refl

-- a payment in warehouse 1 for customer 3 of district 4 of warehouse 2
abbrev remote_payment : Payment
remote_payment = record {
  warehouse = 1;
  district = 5;
  customer_warehouse = 2;
  customer_district = 4;
  who = who.Number 3;
  amount = 100;
  at = 1;
}

abbrev place_columns : History → List ℕ
place_columns row = row.customer ∷ row.customer_district ∷ row.customer_warehouse ∷ row.district ∷ row.warehouse ∷ []

abbrev paid_from : place_columns (history_row remote_payment 3 sample) ≡ 3 ∷ 4 ∷ 2 ∷ 5 ∷ 1 ∷ []
paid_from = refl
