-- A small warehouse that meets all consistency conditions, and for each condition a warehouse that breaks just that one.
-- The fresh rows of one warehouse meet the conditions 1 and 12.
use Rattle.std.specs.Prelude.{◌≡◌, ℕ, pos, negsuc, true, not, List, [], ◌∷◌, Some, None, map, filter, codes, refl}
use Rattle.hy_rows.specs.declared.warehouse.Warehouse.{Warehouse}
use Rattle.hy_rows.specs.declared.district.District.{District}
use Rattle.hy_rows.specs.declared.customer.Customer.{Customer}
use Rattle.hy_rows.specs.declared.history.History.{History}
use Rattle.hy_rows.specs.declared.new_order.NewOrder.{NewOrder}
use Rattle.hy_rows.specs.declared.order.Order.{Order}
use Rattle.hy_rows.specs.declared.order_line.OrderLine.{OrderLine}
use Rattle.hy_rows.specs.Rows.{customer_with}
use Rattle.hy_rows.specs.Tables.{Tables, no_rows}
use Rattle.hy_rows.specs.WorkedRows.{fresh}
use Rattle.hy_schema.specs.Conditions.{condition_1, condition_12, conditions, first_broken, is_consistent}

-- warehouse 1 with one district and one customer, who paid 10.00 and bought for 5.00
abbrev one_warehouse : Warehouse
one_warehouse = record { id = 1; name = codes "W1"; tax = 500; ytd = pos 1_000 }

abbrev one_district : District
one_district = record { id = 1; warehouse = 1; name = codes "D1"; tax = 100; ytd = pos 1_000; next_order = 3 }

abbrev one_customer : Customer
one_customer = record (customer_with []) {
  id = 1;
  district = 1;
  warehouse = 1;
  first = codes "F0001";
  middle = codes "OE";
  last = codes "BARBARBAR";
  credit = codes "GC";
  discount = 100;
  balance = negsuc 499;
  ytd_payment = pos 1_000;
  payment_count = 1;
  delivery_count = 1;
}

-- some cents, paid in a district of the warehouse by a customer of it
abbrev payment : ℕ → ℕ → ℕ → History
payment district customer cents = record {
  customer = customer;
  customer_district = 1;
  customer_warehouse = 1;
  district = district;
  warehouse = 1;
  date = 1;
  amount = pos cents;
  information = [];
}

-- an order of the customer, by its number, its carrier and how many lines it has
abbrev order : ℕ → ℕ → ℕ → Order
order number carrier lines = record {
  id = number;
  district = 1;
  warehouse = 1;
  customer = 1;
  entry_date = 1;
  carrier = carrier;
  line_count = lines;
  all_local = 1;
}

-- a line of an order, by the order's number, the moment of the delivery and the amount
abbrev line : ℕ → ℕ → ℕ → OrderLine
line number delivered cents = record {
  order = number;
  district = 1;
  warehouse = 1;
  number = 1;
  item = 1;
  supply_warehouse = 1;
  delivery_date = delivered;
  quantity = 1;
  amount = pos cents;
}

abbrev undelivered : ℕ → NewOrder
undelivered number = record { order = number; district = 1; warehouse = 1 }

-- order 1 was delivered, order 2 wasn't
abbrev pub small : Tables
small = record no_rows {
  warehouses = one_warehouse ∷ [];
  districts = one_district ∷ [];
  customers = one_customer ∷ [];
  history = payment 1 1 1_000 ∷ [];
  new_orders = undelivered 2 ∷ [];
  orders = order 1 7 1 ∷ order 2 0 1 ∷ [];
  order_lines = line 1 2 500 ∷ line 2 0 300 ∷ [];
}

-- the numbers of all conditions that rows break
abbrev broken : Tables → List ℕ
broken tables = map (λ condition. condition.0) (filter (λ condition. not (condition.1 tables)) conditions)

pub small-is_consistent : is_consistent small ≡ true
small-is_consistent = refl

pub small-first_broken : first_broken small ≡ None
small-first_broken = refl

-- a warehouse without a row meets them, too
pub nothing-is_consistent : is_consistent no_rows ≡ true
nothing-is_consistent = refl

-- ten districts of 30.00 are a warehouse of 300.00, and the customers have paid what they owed
pub fresh-condition_1 : condition_1 fresh ≡ true
fresh-condition_1 = refl

pub fresh-condition_12 : condition_12 fresh ≡ true
fresh-condition_12 = refl

-- 1: a payment of 1.00 in a district that isn't there raised W_YTD alone
pub breaks_1 : broken (record small {
  warehouses = record one_warehouse { ytd = pos 1_100 } ∷ [];
  history = payment 1 1 1_000 ∷ payment 2 2 100 ∷ [];
}) ≡ 1 ∷ []
breaks_1 = refl

-- 2: the next order is number 4, and the last was number 2
pub breaks_2 : broken (record small { districts = record one_district { next_order = 4 } ∷ [] }) ≡ 2 ∷ []
breaks_2 = refl

-- 3: orders 2 and 4 are undelivered, and there is no order 3
pub breaks_3 : broken (record small {
  districts = record one_district { next_order = 5 } ∷ [];
  new_orders = undelivered 2 ∷ undelivered 4 ∷ [];
  orders = order 1 7 1 ∷ order 2 0 1 ∷ order 4 0 1 ∷ [];
  order_lines = line 1 2 500 ∷ line 2 0 300 ∷ line 4 0 300 ∷ [];
}) ≡ 3 ∷ []
breaks_3 = refl

-- 4: a line more, of an order that isn't there
pub breaks_4 : broken (record small { order_lines = line 1 2 500 ∷ line 2 0 300 ∷ line 9 0 300 ∷ [] }) ≡ 4 ∷ []
breaks_4 = refl

-- 5: the delivered order is among the undelivered ones
pub breaks_5 : broken (record small { new_orders = undelivered 1 ∷ undelivered 2 ∷ [] }) ≡ 5 ∷ []
breaks_5 = refl

-- 6: one order counts both lines
pub breaks_6 : broken (record small { orders = order 1 7 0 ∷ order 2 0 2 ∷ [] }) ≡ 6 ∷ []
breaks_6 = refl

-- 7: a line of the undelivered order was delivered
pub breaks_7 : broken (record small { order_lines = line 1 2 500 ∷ line 2 5 0 ∷ [] }) ≡ 7 ∷ []
breaks_7 = refl

-- 8: a payment in a district that isn't there is missing in W_YTD
pub breaks_8 : broken (record small { history = payment 1 1 1_000 ∷ payment 2 2 100 ∷ [] }) ≡ 8 ∷ []
breaks_8 = refl

-- 9: a dollar of the payments stands at another district
pub breaks_9 : broken (record small {
  districts =
      record one_district { ytd = pos 900 } ∷ record one_district { id = 2; ytd = pos 100; next_order = 1 } ∷ [];
}) ≡ 9 ∷ []
breaks_9 = refl

-- 10: the customer owes a cent less than was bought and not paid
pub breaks_10 : broken (record small {
  customers = record one_customer { balance = negsuc 500; ytd_payment = pos 1_001 } ∷ [];
}) ≡ 10 ∷ []
breaks_10 = refl

-- 12: C_YTD_PAYMENT is a cent too much
pub breaks_12 : broken (record small { customers = record one_customer { ytd_payment = pos 1_001 } ∷ [] }) ≡ 12 ∷ []
breaks_12 = refl

-- where several are broken, the first counts
pub first-is_first : first_broken (record small {
  districts = record one_district { next_order = 4 } ∷ [];
  customers = record one_customer { ytd_payment = pos 1_001 } ∷ [];
}) ≡ Some 2
first-is_first = refl
