-- How far the numbers of a warehouse can have grown after so many commits. After 100,000,000 commits each still fits its
-- column: money in 64 signed bits, counts in 64 bits, and the number of an order in 32.
use Rattle.std.specs.Prelude.{◌≡◌, ℕ, ℤ, pos, neg_ℤ, ◌+◌, ◌*◌, ◌^◌, ◌≤◌, ◌≤ℤ◌, nat_lt, true, length, All, refl}
use Rattle.hy_rows.specs.declared.customer.Customer.{Customer}
use Rattle.hy_rows.specs.declared.district.District.{District}
use Rattle.hy_rows.specs.declared.history.History.{History}
use Rattle.hy_rows.specs.declared.new_order.NewOrder.{NewOrder}
use Rattle.hy_rows.specs.declared.order.Order.{Order}
use Rattle.hy_rows.specs.declared.order_line.OrderLine.{OrderLine}
use Rattle.hy_rows.specs.declared.stock.Stock.{Stock}
use Rattle.hy_rows.specs.declared.warehouse.Warehouse.{Warehouse}
use Rattle.hy_rows.specs.Limits.{districts_per_warehouse, max_carriers, max_cents, max_count, max_customers, max_items, max_line_cents, max_lines, max_moment, max_order, max_payment, max_quantity, max_stock, max_warehouses}
use Rattle.hy_rows.specs.Tables.{Tables}

-- an amount in cents, as a load may have it
abbrev pub IsLoadedMoney : ℤ → Type 0
IsLoadedMoney cents = (neg_ℤ (pos max_cents) ≤ℤ cents) × (cents ≤ℤ pos max_cents)

-- the amount of an order line in cents
abbrev pub IsLineAmount : ℤ → Type 0
IsLineAmount cents = (pos 0 ≤ℤ cents) × (cents ≤ℤ pos max_line_cents)

-- cents that were loaded, and have grown or fallen by so many at most
abbrev pub IsMoneyUpTo : ℕ → ℤ → Type 0
IsMoneyUpTo growth cents = (neg_ℤ (pos (max_cents + growth)) ≤ℤ cents) × (cents ≤ℤ pos (max_cents + growth))

-- what the lines of an order come to at most, in cents
abbrev pub max_order_cents : ℕ
max_order_cents = max_lines * max_line_cents

-- the rows of each table after so many commits
pub record IsWarehouseUpTo (commits : ℕ) (row : Warehouse) : Type 0 where
  pub name : length row.name ≤ 10
  pub ytd : IsMoneyUpTo (max_payment * commits) row.ytd

pub record IsDistrictUpTo (commits : ℕ) (row : District) : Type 0 where
  pub name : length row.name ≤ 10
  pub ytd : IsMoneyUpTo (max_payment * commits) row.ytd
  pub next_order : row.next_order ≤ max_order + commits

-- after so many payments and delivered orders
pub record IsCustomerUpTo (payments deliveries : ℕ) (row : Customer) : Type 0 where
  pub id : row.id ≤ max_customers
  pub balance : IsMoneyUpTo (max_payment * payments + max_order_cents * deliveries) row.balance
  pub ytd_payment : IsMoneyUpTo (max_payment * payments) row.ytd_payment
  pub payment_count : row.payment_count ≤ max_count + payments
  pub delivery_count : row.delivery_count ≤ max_count + deliveries

pub record IsPaymentUpTo (row : History) : Type 0 where
  pub customer : row.customer ≤ max_customers
  pub date : row.date ≤ max_moment
  pub amount : IsLoadedMoney row.amount
  pub information : length row.information ≤ 24

pub record IsOrderUpTo (commits : ℕ) (row : Order) : Type 0 where
  pub id : row.id ≤ max_order + commits
  pub customer : row.customer ≤ max_customers
  pub entry_date : row.entry_date ≤ max_moment
  pub carrier : row.carrier ≤ max_carriers
  pub line_count : row.line_count ≤ max_lines
  pub all_local : row.all_local ≤ 1

abbrev pub IsNewOrderUpTo : ℕ → NewOrder → Type 0
IsNewOrderUpTo commits row = row.order ≤ max_order + commits

pub record IsLineUpTo (commits : ℕ) (row : OrderLine) : Type 0 where
  pub order : row.order ≤ max_order + commits
  pub number : row.number ≤ max_lines
  pub item : row.item ≤ max_items
  pub supply_warehouse : row.supply_warehouse ≤ max_warehouses
  pub delivery_date : row.delivery_date ≤ max_moment
  pub quantity : row.quantity ≤ max_quantity
  pub amount : IsLineAmount row.amount

-- after so many order lines that the warehouse supplied
pub record IsStockUpTo (lines : ℕ) (row : Stock) : Type 0 where
  pub quantity : row.quantity ≤ max_stock
  pub ytd : row.ytd ≤ max_count + max_quantity * lines
  pub order_count : row.order_count ≤ max_count + lines
  pub remote_count : row.remote_count ≤ max_count + lines

-- all rows; a commit delivers one order in each district at most, and has `max_lines` lines at most
pub record HasGrownBy (commits : ℕ) (tables : Tables) : Type 0 where
  pub warehouses : All (IsWarehouseUpTo commits) tables.warehouses
  pub districts : All (IsDistrictUpTo commits) tables.districts
  pub customers : All (IsCustomerUpTo commits (districts_per_warehouse * commits)) tables.customers
  pub history : All IsPaymentUpTo tables.history
  pub orders : All (IsOrderUpTo commits) tables.orders
  pub new_orders : All (IsNewOrderUpTo commits) tables.new_orders
  pub order_lines : All (IsLineUpTo commits) tables.order_lines
  pub stock : All (IsStockUpTo (max_lines * commits)) tables.stock

-- what is reached after 100,000,000 commits: a balance, S_YTD and the number of an order fit their columns
abbrev most_commits : ℕ
most_commits = 100_000_000

abbrev balance_fits : nat_lt
    (max_cents + max_payment * most_commits + max_order_cents * (districts_per_warehouse * most_commits)) (2 ^ 63) ≡ true
balance_fits = refl

abbrev stock_fits : nat_lt (max_count + max_quantity * (max_lines * most_commits)) (2 ^ 64) ≡ true
stock_fits = refl

abbrev number_fits : nat_lt (max_order + most_commits) (2 ^ 32) ≡ true
number_fits = refl
