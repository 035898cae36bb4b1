-- Examples of slices on the small warehouse of `hy_commands`, each with values from hand calculation; the checker
-- computes them.
use Rattle.std.specs.Prelude.{◌≡◌, ◌≤◌, ℕ, ℤ, pos, negsuc, nat_le, true, false, Some, None, List, [], ◌∷◌, map, codes, length, refl}
use Rattle.std.specs.Fmt.{digits}
use Rattle.std.proofs.Common.{inl, inr, arith}
use Rattle.std.proofs.lemmas.Bool.{leb-true}
use Rattle.std.proofs.lemmas.List.Elements.{All-weaker}
use Rattle.std.proofs.lemmas.List.Sums.{AllPass-from_list_all}
use Rattle.hy_rows.specs.declared.customer.Customer.{Customer}
use Rattle.hy_rows.specs.declared.district.District.{District}
use Rattle.hy_rows.specs.declared.new_order.NewOrder.{NewOrder}
use Rattle.hy_rows.specs.declared.order.Order.{Order}
use Rattle.hy_rows.specs.declared.order_line.OrderLine.{OrderLine}
use Rattle.hy_rows.specs.declared.warehouse.Warehouse.{Warehouse}
use Rattle.hy_rows.specs.Finding.{first_or, is_customer}
use Rattle.hy_rows.specs.Rows.{customer_of}
use Rattle.hy_rows.specs.Tables.{Tables}
use Rattle.hy_schema.specs.Conditions.{first_broken}
use Rattle.hy_commands.specs.declared.command.Command.{Command}
use Rattle.hy_commands.specs.declared.command.Command.TheVariants as commands
use Rattle.hy_commands.specs.declared.command.Purchase.{Purchase}
use Rattle.hy_commands.specs.declared.command.PurchaseLine.{PurchaseLine}
use Rattle.hy_commands.specs.declared.command.Who.TheVariants as who
use Rattle.hy_commands.specs.declared.edition.Edition.{Edition}
use Rattle.hy_commands.specs.declared.edition.Edition.TheVariants as editions
use Rattle.hy_schema.specs.declared.refusal.Refusal.TheVariants as refusals
use Rattle.hy_commands.specs.Parts.{part}
use Rattle.hy_commands.specs.Transactions.{act, begin_refusal_of}
use Rattle.hy_commands.specs.WorkedSample.{after, bought, customers, delivery, five_of_each, items, level, payment, purchase, sample, status, stock_columns}
use Rattle.hy_slices.specs.Begun.{Begins}
use Rattle.hy_commands.specs.Commands.{slice_count}
use Rattle.hy_slices.specs.Slices.{after_slices, has_item_at, has_items_before}

-- ---- how many

abbrev bill : Command
bill = payment (who.Number 1) 100

-- five lines in district 3, with items and quantities that differ
abbrev five_lines : Command
five_lines = purchase 3 (bought 4 5 ∷ bought 2 3 ∷ bought 1 9 ∷ bought 5 1 ∷ bought 3 2 ∷ [])

abbrev counts : map slice_count (five_lines ∷ bill ∷ status 1 ∷ delivery ∷ level ∷ []) ≡ 6 ∷ 2 ∷ 1 ∷ 10 ∷ 1 ∷ []
counts = refl

-- ---- a purchase

abbrev sliced_purchase : ℕ → Tables
sliced_purchase done = after_slices items 1 editions.Second five_lines done sample

-- the head alone: the next number of district 3 is taken, and its order waits without a line
abbrev next_orders_of_head : map (λ (row : District). row.next_order) (sliced_purchase 1).districts
    ≡ 1 ∷ 1 ∷ 2 ∷ 1 ∷ 1 ∷ 1 ∷ 1 ∷ 1 ∷ 1 ∷ 1 ∷ []
next_orders_of_head = refl

abbrev orders_of_head : (sliced_purchase 1).orders
    ≡ record {
      id = 1;
      district = 3;
      warehouse = 1;
      customer = 1;
      entry_date = 6;
      carrier = 0;
      line_count = 5;
      all_local = 1;
    } ∷ []
orders_of_head = refl

abbrev new_orders_of_head : (sliced_purchase 1).new_orders ≡ record { order = 1; district = 3; warehouse = 1 } ∷ []
new_orders_of_head = refl

abbrev lines_of_head : (sliced_purchase 1).order_lines ≡ []
lines_of_head = refl

abbrev stock_of_head : (sliced_purchase 1).stock ≡ sample.stock
stock_of_head = refl

-- its line count is that of a whole order, so that the rows don't meet condition 4
abbrev head_breaks : first_broken (sliced_purchase 1) ≡ Some 4
head_breaks = refl

-- order, number, item, quantity and amount of the lines after two of them, and the stock of three items: item 1 comes
-- with the third
abbrev line_columns : OrderLine → ℕ × ℕ × ℕ × ℕ × ℤ
line_columns row = (row.order, row.number, row.item, row.quantity, row.amount)

abbrev two_lines : map line_columns (sliced_purchase 3).order_lines ≡ (1, 1, 4, 5, pos 1_240) ∷ (1, 2, 2, 3, pos 522) ∷ []
two_lines = refl

abbrev stock_of_two_lines : map (λ item. stock_columns item (sliced_purchase 3)) (4 ∷ 2 ∷ 1 ∷ [])
    ≡ (34 ∷ 5 ∷ 1 ∷ 0 ∷ []) ∷ (22 ∷ 3 ∷ 1 ∷ 0 ∷ []) ∷ (18 ∷ 0 ∷ 0 ∷ 0 ∷ []) ∷ []
stock_of_two_lines = refl

abbrev stock_of_three_lines : stock_columns 1 (sliced_purchase 4) ≡ 100 ∷ 9 ∷ 1 ∷ 0 ∷ []
stock_of_three_lines = refl

-- all slices do what the command does
abbrev whole_purchase : sliced_purchase 6 ≡ (act items 1 editions.Second five_lines sample).tables
whole_purchase = refl

abbrev whole_purchase_is_consistent : first_broken (sliced_purchase 6) ≡ None
whole_purchase_is_consistent = refl

-- a second one in the district has the number 2 in each of its slices
abbrev second_purchase : ℕ → Tables
second_purchase done = after_slices items 1 editions.Second five_lines done (after (five_of_each 3 ∷ []))

abbrev orders_of_second : map (λ (row : Order). row.id) (second_purchase 2).orders ≡ 1 ∷ 2 ∷ []
orders_of_second = refl

abbrev lines_of_second : map (λ (row : OrderLine). row.order) (second_purchase 4).order_lines
    ≡ 1 ∷ 1 ∷ 1 ∷ 1 ∷ 1 ∷ 2 ∷ 2 ∷ 2 ∷ []
lines_of_second = refl

-- a line that another warehouse supplies has its row, and leaves the stock
abbrev from_afar : PurchaseLine
from_afar = record { item = 4; supply_warehouse = 2; quantity = 5 }

abbrev remote_order : Purchase
remote_order = record { warehouse = 1; district = 3; customer = 1; at = 6; lines = from_afar ∷ [] }

abbrev remote_line : Tables
remote_line = after_slices items 1 editions.Second (commands.NewOrder remote_order) 2 sample

abbrev row_of_remote_line : map (λ (row : OrderLine). row.supply_warehouse) remote_line.order_lines ≡ 2 ∷ []
row_of_remote_line = refl

abbrev stock_of_remote_line : remote_line.stock ≡ sample.stock
stock_of_remote_line = refl

-- ---- a purchase at its home, of which warehouse 2 supplies the third of five lines

abbrev crossing_order : Purchase
crossing_order = record {
  warehouse = 1;
  district = 3;
  customer = 2;
  at = 6;
  lines =
      bought 4 5 ∷ bought 2 3 ∷ record { item = 1; supply_warehouse = 2; quantity = 9 } ∷ bought 5 1 ∷ bought 3 2 ∷ [];
}

abbrev crossing : Command
crossing = commands.NewOrder crossing_order

-- warehouse 1 doesn't begin it by itself, and begins its part of it; warehouse 2 isn't its home
abbrev not_alone : begin_refusal_of 1 crossing sample ≡ Some refusals.NoSuchWarehouse
not_alone = refl

begins_its_part : Begins 1 crossing sample
begins_its_part = inr record {
  home = refl;
  in_range = refl;
  districts = refl;
  customer = refl;
  suppliers =
      All-weaker (λ (line : PurchaseLine). nat_le line.supply_warehouse 16 ≡ true) (λ line. line.supply_warehouse ≤ 16)
      (λ line within. leb-true line.supply_warehouse 16 within) crossing_order.lines
      (AllPass-from_list_all (λ (line : PurchaseLine). nat_le line.supply_warehouse 16) crossing_order.lines refl);
}

not_its_home : Begins 2 crossing sample → ⊥
not_its_home (inl begins) = absurd (cc)
not_its_home (inr home) = absurd (omega (arith, home.home))

abbrev sliced_crossing : ℕ → Tables
sliced_crossing done = after_slices items 1 editions.Second crossing done sample

-- the order isn't all local
abbrev order_of_crossing : (sliced_crossing 1).orders
    ≡ record {
      id = 1;
      district = 3;
      warehouse = 1;
      customer = 2;
      entry_date = 6;
      carrier = 0;
      line_count = 5;
      all_local = 0;
    } ∷ []
order_of_crossing = refl

-- all its lines are there, each with its supplier; the third one leaves the stock, and no line raises S_REMOTE_CNT
abbrev supplier_columns : OrderLine → ℕ × ℕ × ℕ × ℕ × ℤ
supplier_columns row = (row.number, row.item, row.supply_warehouse, row.quantity, row.amount)

abbrev lines_of_crossing : map supplier_columns (sliced_crossing 6).order_lines
    ≡ (1, 4, 1, 5, pos 1_240) ∷ (2, 2, 1, 3, pos 522) ∷ (3, 1, 2, 9, pos 1_233) ∷ (4, 5, 1, 1, pos 285)
    ∷ (5, 3, 1, 2, pos 422) ∷ []
lines_of_crossing = refl

abbrev stock_of_crossing : map (λ item. stock_columns item (sliced_crossing 6)) (1 ∷ 2 ∷ 3 ∷ 4 ∷ 5 ∷ 6 ∷ [])
    ≡ (18 ∷ 0 ∷ 0 ∷ 0 ∷ []) ∷ (22 ∷ 3 ∷ 1 ∷ 0 ∷ []) ∷ (30 ∷ 2 ∷ 1 ∷ 0 ∷ []) ∷ (34 ∷ 5 ∷ 1 ∷ 0 ∷ [])
    ∷ (45 ∷ 1 ∷ 1 ∷ 0 ∷ []) ∷ (53 ∷ 0 ∷ 0 ∷ 0 ∷ []) ∷ []
stock_of_crossing = refl

-- all slices do what the part of the home warehouse is
abbrev whole_crossing : sliced_crossing 6 ≡ part items 1 editions.Second crossing sample
whole_crossing = refl

abbrev whole_crossing_is_consistent : first_broken (sliced_crossing 6) ≡ None
whole_crossing_is_consistent = refl

-- ---- an item that isn't there

-- the third line names item 21 of 20, so that the slice behind the head and two lines asks for it
abbrev unknown_third : Command
unknown_third = purchase 3 (bought 4 5 ∷ bought 2 3 ∷ bought 21 9 ∷ bought 5 1 ∷ bought 3 2 ∷ [])

abbrev asks_third : map (has_item_at items unknown_third) (0 ∷ 1 ∷ 2 ∷ 3 ∷ 4 ∷ 5 ∷ [])
    ≡ true ∷ true ∷ true ∷ false ∷ true ∷ true ∷ []
asks_third = refl

abbrev asked_before : map (has_items_before items unknown_third) (0 ∷ 1 ∷ 2 ∷ 3 ∷ 4 ∷ 5 ∷ 6 ∷ [])
    ≡ true ∷ true ∷ true ∷ true ∷ false ∷ false ∷ false ∷ []
asked_before = refl

-- ---- a payment in district 2, by customer 1 of district 1

abbrev sliced_payment : ℕ → Tables
sliced_payment done = after_slices items 1 editions.Second bill done sample

abbrev warehouse_ytd : ℕ → List ℤ
warehouse_ytd done = map (λ (row : Warehouse). row.ytd) (sliced_payment done).warehouses

-- what the customer owes, has paid in all, and how often
abbrev payer_columns : ℕ → ℤ × ℤ × ℕ
payer_columns done =
    let row : Customer = first_or (customer_of []) (is_customer 1 1 1) (sliced_payment done).customers in
    (row.balance, row.ytd_payment, row.payment_count)

-- the first slice is the warehouse's, the second the customer's
abbrev ytd_of_first : warehouse_ytd 1 ≡ pos 30_100 ∷ []
ytd_of_first = refl

abbrev payments_of_first : length (sliced_payment 1).history ≡ 31
payments_of_first = refl

abbrev payer_of_first : payer_columns 1 ≡ (negsuc 999, pos 1_000, 1)
payer_of_first = refl

abbrev ytd_of_second : warehouse_ytd 2 ≡ pos 30_100 ∷ []
ytd_of_second = refl

abbrev payer_of_second : payer_columns 2 ≡ (negsuc 1_099, pos 1_100, 2)
payer_of_second = refl

abbrev whole_payment : sliced_payment 2 ≡ (act items 1 editions.Second bill sample).tables
whole_payment = refl

-- ---- a payment of a customer with bad credit: the customer's slice notes it in C_DATA, but in the first edition

abbrev with_bad_credit : Tables
with_bad_credit = record sample {
  customers =
      map {A = Customer} {B = Customer} (λ row. record row { credit = codes "BC"; information = codes "old" })
      (customers 1);
}

abbrev notes_after : Edition → ℕ → List (List ℕ)
notes_after edition done =
    map (λ (row : Customer). row.information) (after_slices items 1 edition bill done with_bad_credit).customers

-- the customer's number, district and warehouse, the district and the warehouse that take the payment, and the cents
notes_by_slice : map (notes_after editions.Second) (0 ∷ 1 ∷ 2 ∷ [])
    ≡ (codes "old" ∷ codes "old" ∷ codes "old" ∷ []) ∷ (codes "old" ∷ codes "old" ∷ codes "old" ∷ [])
    ∷ (codes "1 1 1 2 1 100;old" ∷ codes "old" ∷ codes "old" ∷ []) ∷ []
unfolding digits
notes_by_slice = refl

notes_of_first_edition : map (notes_after editions.First) (0 ∷ 1 ∷ 2 ∷ [])
    ≡ (codes "old" ∷ codes "old" ∷ codes "old" ∷ []) ∷ (codes "old" ∷ codes "old" ∷ codes "old" ∷ [])
    ∷ (codes "old" ∷ codes "old" ∷ codes "old" ∷ []) ∷ []
unfolding digits
notes_of_first_edition = refl

-- all slices do what the command does in either edition
whole_noted_payment : after_slices items 1 editions.Second bill 2 with_bad_credit
    ≡ (act items 1 editions.Second bill with_bad_credit).tables
unfolding digits
whole_noted_payment = refl

whole_payment_of_first_edition : after_slices items 1 editions.First bill 2 with_bad_credit
    ≡ (act items 1 editions.First bill with_bad_credit).tables
unfolding digits
whole_payment_of_first_edition = refl

-- ---- a delivery of one order each in districts 1, 3 and 10

abbrev three_orders : Tables
three_orders = after (five_of_each 1 ∷ five_of_each 3 ∷ five_of_each 10 ∷ [])

abbrev sliced_delivery : ℕ → Tables
sliced_delivery done = after_slices items 1 editions.Second delivery done three_orders

-- the districts with an undelivered order, and the carriers of the orders
abbrev waiting_after : ℕ → List ℕ
waiting_after done = map (λ (row : NewOrder). row.district) (sliced_delivery done).new_orders

abbrev carriers_after : ℕ → List ℕ
carriers_after done = map (λ (row : Order). row.carrier) (sliced_delivery done).orders

abbrev waiting_by_slice : map waiting_after (0 ∷ 1 ∷ 2 ∷ 3 ∷ 9 ∷ 10 ∷ [])
    ≡ (1 ∷ 3 ∷ 10 ∷ []) ∷ (3 ∷ 10 ∷ []) ∷ (3 ∷ 10 ∷ []) ∷ (10 ∷ []) ∷ (10 ∷ []) ∷ [] ∷ []
waiting_by_slice = refl

abbrev carriers_by_slice : map carriers_after (0 ∷ 1 ∷ 2 ∷ 3 ∷ 10 ∷ [])
    ≡ (0 ∷ 0 ∷ 0 ∷ []) ∷ (7 ∷ 0 ∷ 0 ∷ []) ∷ (7 ∷ 0 ∷ 0 ∷ []) ∷ (7 ∷ 7 ∷ 0 ∷ []) ∷ (7 ∷ 7 ∷ 7 ∷ []) ∷ []
carriers_by_slice = refl

abbrev whole_delivery : sliced_delivery 10 ≡ (act items 1 editions.Second delivery three_orders).tables
whole_delivery = refl
