-- Examples of Delivery, Order-Status and Stock-Level, each with values from hand calculation; the checker computes them.
use Rattle.std.specs.Prelude.{◌≡◌, ℕ, pos, negsuc, List, [], ◌∷◌, ◌++◌, Some, None, option_map, map, codes, replicate, refl}
use Rattle.hy_rows.specs.declared.order.Order.{Order}
use Rattle.hy_rows.specs.declared.order_line.OrderLine.{OrderLine}
use Rattle.hy_rows.specs.Finding.{first_or}
use Rattle.hy_rows.specs.Rows.{order_of}
use Rattle.hy_schema.specs.Related.{is_order}
use Rattle.hy_rows.specs.Tables.{Tables, no_rows}
use Rattle.hy_schema.specs.Conditions.{first_broken}
use Rattle.hy_schema.specs.declared.refusal.Refusal.TheVariants as refusals
use Rattle.hy_commands.specs.declared.command.Command.{Command}
use Rattle.hy_commands.specs.declared.command.Command.TheVariants as commands
use Rattle.hy_commands.specs.declared.command.Who.TheVariants as who
use Rattle.hy_commands.specs.declared.reply.Reply.{Reply}
use Rattle.hy_commands.specs.declared.reply.Reply.TheVariants as replies
use Rattle.hy_commands.specs.OrderStatus.{last_placed, placed}
use Rattle.hy_commands.specs.StockLevels.{low_items}
use Rattle.hy_commands.specs.WorkedSample.{after, bought, customer_after, delivery, district, first_of, five_of_each, level, purchase, reply_after, sample, status}

-- ---- Delivery

-- orders in districts 1 and 3
abbrev two_orders : List Command
two_orders = five_of_each 1 ∷ five_of_each 3 ∷ []

abbrev delivered : List Command
delivered = two_orders ++ delivery ∷ []

abbrev first_delivery : reply_after two_orders delivery ≡ replies.Delivery (1 ∷ 0 ∷ 1 ∷ 0 ∷ 0 ∷ 0 ∷ 0 ∷ 0 ∷ 0 ∷ 0 ∷ [])
first_delivery = refl

abbrev second_delivery : reply_after delivered delivery ≡ replies.Delivery (0 ∷ 0 ∷ 0 ∷ 0 ∷ 0 ∷ 0 ∷ 0 ∷ 0 ∷ 0 ∷ 0 ∷ [])
second_delivery = refl

-- 5275 - 1000: the lines' amounts, before discount and taxes, less what was paid
abbrev balance_of_delivered : (customer_after delivered).balance ≡ pos 4_275
balance_of_delivered = refl

abbrev count_of_delivered : (customer_after delivered).delivery_count ≡ 1
count_of_delivered = refl

abbrev delivered_is_consistent : first_broken (after delivered) ≡ None
delivered_is_consistent = refl

abbrev carriers_of_delivered : map (λ (row : Order). row.carrier) (after delivered).orders ≡ 7 ∷ 7 ∷ []
carriers_of_delivered = refl

abbrev dates_of_delivered : map (λ (row : OrderLine). row.delivery_date) (after delivered).order_lines ≡ replicate 10 2
dates_of_delivered = refl

abbrev no_new_orders : (after delivered).new_orders ≡ []
no_new_orders = refl

-- the oldest one first: of two orders of a district the second waits for the next delivery
abbrev order_waits : reply_after (five_of_each 1 ∷ five_of_each 1 ∷ delivery ∷ []) delivery
    ≡ replies.Delivery (2 ∷ 0 ∷ 0 ∷ 0 ∷ 0 ∷ 0 ∷ 0 ∷ 0 ∷ 0 ∷ 0 ∷ [])
order_waits = refl

-- three districts, the tenth among them
abbrev three_districts : reply_after (five_of_each 2 ∷ five_of_each 5 ∷ five_of_each 10 ∷ []) delivery
    ≡ replies.Delivery (0 ∷ 1 ∷ 0 ∷ 0 ∷ 1 ∷ 0 ∷ 0 ∷ 0 ∷ 0 ∷ 1 ∷ [])
three_districts = refl

-- ---- Order-Status

abbrev line : ℕ → ℕ → ℕ → OrderLine
line number cents date = record {
  order = 2;
  district = 1;
  warehouse = 1;
  number = number;
  item = number;
  supply_warehouse = 1;
  delivery_date = date;
  quantity = 5;
  amount = pos cents;
}

-- the second order of customer 1, by its carrier and the date of its delivery
abbrev second_order : List Command → ℕ → ℕ → Reply
second_order done carrier date =
    replies.OrderStatus 1 (codes "A") (codes "OE") (codes "ONE") (customer_after done).balance (Some record {
      number = 2;
      entry_date = 6;
      carrier = carrier;
      lines = line 1 685 date ∷ line 2 870 date ∷ line 3 1_055 date ∷ line 4 1_240 date ∷ line 5 1_425 date ∷ [];
    })

abbrev two_of_one : List Command
two_of_one = first_of 8 ∷ five_of_each 1 ∷ []

abbrev status_before : reply_after two_of_one (status 1) ≡ second_order two_of_one 0 0
status_before = refl

-- two deliveries
abbrev both_delivered : List Command
both_delivered = two_of_one ++ delivery ∷ delivery ∷ []

abbrev status_after : reply_after both_delivered (status 1) ≡ second_order both_delivered 7 2
status_after = refl

-- lines in another order than that of their numbers
abbrev mixed : Order
mixed = first_or (order_of []) (is_order 1 1 2) (after two_of_one).orders

abbrev lines_by_number : (placed (line 3 1 0 ∷ line 1 2 0 ∷ line 4 3 0 ∷ line 2 4 0 ∷ []) mixed).lines
    ≡ line 1 2 0 ∷ line 2 4 0 ∷ line 3 1 0 ∷ line 4 3 0 ∷ []
lines_by_number = refl

-- the last order is that with the greatest number, wherever its row stands
abbrev orders_in_any_order : Tables
orders_in_any_order = record no_rows { orders = mixed ∷ record mixed { id = 5 } ∷ record mixed { id = 4 } ∷ [] }

abbrev greatest_number : option_map (λ order. order.number) (last_placed (customer_after []) orders_in_any_order)
    ≡ Some 5
greatest_number = refl

-- there is no district 0, and none behind the tenth
abbrev status_in_district : ℕ → Reply
status_in_district number =
    reply_after [] (commands.OrderStatus record { warehouse = 1; district = number; who = who.Number 1 })

abbrev status_of_no_district : map status_in_district (0 ∷ 11 ∷ []) ≡ replicate 2 (replies.Refused refusals.NoSuchDistrict)
status_of_no_district = refl

-- a customer without an order
abbrev status_of_none : reply_after two_of_one (status 2)
    ≡ replies.OrderStatus 2 (codes "B") (codes "OE") (codes "TWO") (negsuc 999) None
status_of_none = refl

-- a customer by last name
abbrev status_by_name : reply_after two_of_one (commands.OrderStatus record {
  warehouse = 1;
  district = 1;
  who =
      who.Last (codes "TWO");
})
    ≡ replies.OrderStatus 3 (codes "A") (codes "OE") (codes "TWO") (negsuc 999) None
status_by_name = refl

-- ---- Stock-Level, with a threshold of 11

-- one each of items 2 to 6
abbrev one_of_each : Command
one_of_each = purchase 1 (bought 2 1 ∷ bought 3 1 ∷ bought 4 1 ∷ bought 5 1 ∷ bought 6 1 ∷ [])

-- item 1 has 10 left, and its order is the first of 20
abbrev low_item : reply_after (first_of 8 ∷ replicate 19 one_of_each) level ≡ replies.StockLevel 1
low_item = refl

-- then it is one of 21
abbrev low_item_before : reply_after (first_of 8 ∷ replicate 20 one_of_each) level ≡ replies.StockLevel 0
low_item_before = refl

-- an item with 11, and one that is ordered twice and has 10
abbrev item_at_threshold : reply_after (first_of 7 ∷ []) level ≡ replies.StockLevel 0
item_at_threshold = refl

abbrev item_twice : reply_after (purchase 1 (bought 1 4 ∷ bought 1 4 ∷ bought 2 1 ∷ bought 3 1 ∷ bought 4 1 ∷ []) ∷
    []) level
    ≡ replies.StockLevel 1
item_twice = refl

-- an order of another district
abbrev item_of_another : reply_after (purchase 2 (bought 1 8 ∷ bought 2 1 ∷ bought 3 1 ∷ bought 4 1 ∷ bought 5 1 ∷ [])
    ∷ []) level
    ≡ replies.StockLevel 0
item_of_another = refl

-- an item of which a district's line came from another warehouse: that is low here
abbrev line_from_elsewhere : Tables
line_from_elsewhere = record sample {
  districts = record (district 1) { next_order = 3 } ∷ [];
  order_lines = record (line 13 100 0) { supply_warehouse = 2 } ∷ [];
}

abbrev low_from_elsewhere : low_items (record { warehouse = 1; district = 1; threshold = 12 }) line_from_elsewhere ≡ 1
low_from_elsewhere = refl

-- there is no district 0, and none behind the tenth
abbrev level_in_district : ℕ → Reply
level_in_district number =
    reply_after [] (commands.StockLevel record { warehouse = 1; district = number; threshold = 11 })

abbrev level_of_no_district : map level_in_district (0 ∷ 11 ∷ []) ≡ replicate 2 (replies.Refused refusals.NoSuchDistrict)
level_of_no_district = refl
