-- Commands over several warehouses: why a database refuses one, and what one does to each warehouse that it names
-- (TPC-C clauses 2.4.2.2 and 2.5.2.2).
use Rattle.std.specs.Prelude.{ℕ, ◌-◌, ◌==◌, Bool, true, false, not, if◌then◌else◌, Option, None, Some, List, length, map, slice_index_or}
use Rattle.std.specs.List.{range_with_len}
use Rattle.std.specs.Option.{option_or}
use Rattle.hy_rows.specs.declared.item.Item.{Item}
use Rattle.hy_rows.specs.Ranges.{is_between}
use Rattle.hy_rows.specs.Tables.{Lists, Tables, no_rows, of_warehouse}
use Rattle.hy_schema.specs.declared.refusal.Refusal.{Refusal}
use Rattle.hy_schema.specs.declared.refusal.Refusal.TheVariants as refusals
use Rattle.hy_commands.specs.declared.command.Command.{Command}
use Rattle.hy_commands.specs.declared.command.Command.TheVariants as commands
use Rattle.hy_commands.specs.declared.command.Payment.{Payment}
use Rattle.hy_commands.specs.declared.command.Purchase.{Purchase}
use Rattle.hy_commands.specs.declared.command.Who.{Who}
use Rattle.hy_commands.specs.declared.command.Who.TheVariants as who
use Rattle.hy_commands.specs.declared.edition.Edition.{Edition}
use Rattle.hy_commands.specs.Commands.{customer_home_of, refusal_of_numbers}
use Rattle.hy_commands.specs.Deliveries.{delivered}
use Rattle.hy_commands.specs.NewOrders.{ordered, supplied}
use Rattle.hy_commands.specs.Payments.{paid_by, paid_in}
use Rattle.hy_commands.specs.Transactions.{has_customer, has_items, payer}

-- ---- databases

-- a database: the items, and the rows of its warehouses, which have the numbers 1, 2, 3 and so on
pub record Database : Type 0 where
  pub items : List Item
  pub warehouses : List Tables

-- the database of a load
abbrev pub database_of : Lists → Database
database_of lists = record {
  items = lists.items;
  warehouses = map (λ number. of_warehouse number lists.tables) (range_with_len 1 (length lists.tables.warehouses));
}

-- whether a warehouse with the number is there, and its rows
abbrev pub is_there : Database → ℕ → Bool
is_there database number = is_between 1 (length database.warehouses) number

abbrev pub rows_of : ℕ → Database → Tables
rows_of number database = slice_index_or database.warehouses (number - 1) no_rows

-- ---- refusals

-- why a database refuses a command, the first that holds of these: a value is out of range; a warehouse, a district,
-- the customer or an item isn't there
abbrev pub refusal_in : Database → Command → Option Refusal
refusal_in database command =
    option_or (refusal_of_numbers (is_there database) command)
    (if not (has_customer command (rows_of (customer_home_of command) database)) then Some refusals.NoSuchCustomer
    else if not (has_items database.items command) then Some refusals.NoSuchItem
    else None)

-- ---- parts

-- the number that a customer is named by; 0, which no customer has, for a last name
abbrev pub number_in : Who → ℕ
number_in (who.Number number) = number
number_in (who.Last name) = 0

abbrev pub is_number : Who → Bool
is_number (who.Number number) = true
is_number (who.Last name) = false

-- whether a command names the customer who pays by number, if one pays; and the command with that customer's number
abbrev pub is_by_number : Command → Bool
is_by_number (commands.Payment payment) = is_number payment.who
is_by_number command = true

abbrev pub with_number : ℕ → Command → Command
with_number number (commands.Payment payment) = commands.Payment record payment { who = who.Number number }
with_number number command = command

-- the number of the customer who pays, among the rows of that customer's warehouse; 0 where nobody pays
abbrev pub payer_number : Tables → Command → ℕ
payer_number tables (commands.Payment payment) = (payer payment tables).id
payer_number tables command = 0

-- a command as it is done and kept: the customer who pays is named by number
abbrev pub by_number : Tables → Command → Command
by_number tables command = with_number (payer_number tables command) command

-- what a purchase does to a warehouse that it names: the home warehouse has the order with all its lines, and each
-- warehouse has the stock of the lines that it supplies
abbrev pub purchase_part : List Item → ℕ → Purchase → Tables → Tables
purchase_part items warehouse order tables =
    supplied warehouse order (if order.warehouse == warehouse then ordered items order tables else tables)

-- what a payment does to one: the home warehouse has the amount and the history, the other the customer
abbrev pub payment_part : ℕ → Edition → Payment → Tables → Tables
payment_part warehouse edition payment tables =
    let customer : ℕ = number_in payment.who in
    let home : Tables = if payment.warehouse == warehouse then paid_in payment customer tables else tables in
    if payment.customer_warehouse == warehouse then paid_by edition payment customer home else home

-- what a command does to a warehouse that it names, where the database doesn't refuse it. A payment names its customer
-- by number
abbrev pub part : List Item → ℕ → Edition → Command → Tables → Tables
part items warehouse edition (commands.NewOrder order) tables = purchase_part items warehouse order tables
part items warehouse edition (commands.Payment payment) tables = payment_part warehouse edition payment tables
part items warehouse edition (commands.Delivery delivery) tables =
    if delivery.warehouse == warehouse then delivered delivery tables else tables
part items warehouse edition command tables = tables

-- the same, or nothing where the database refuses the command
abbrev pub part_unless : Option Refusal → List Item → ℕ → Edition → Command → Tables → Tables
part_unless (Some refusal) items warehouse edition command tables = tables
part_unless None items warehouse edition command tables = part items warehouse edition command tables
