-- Commands: the ranges of their values, what they name, and what an accepted one adds to the kept list.
use Rattle.std.specs.Prelude.{◌≡◌, ℕ, ◌+◌, ◌<◌, suc, Bool, true, false, nat_le, ◌==◌, ◌&&◌, not, if◌then◌else◌, Option, Some, None, List, [], ◌∷◌, ◌++◌, length, fold, slice_index_or}
use Rattle.std.specs.List.{list_all, list_any}
use Rattle.hy_rows.specs.Limits.{districts_per_warehouse, max_carriers, max_lines, max_moment, max_payment, max_quantity, min_lines, min_payment}
use Rattle.hy_rows.specs.Ranges.{is_between}
use Rattle.hy_schema.specs.declared.refusal.Refusal.{Refusal}
use Rattle.hy_schema.specs.declared.refusal.Refusal.TheVariants as refusals
use Rattle.hy_commands.specs.declared.command.Command.{Command}
use Rattle.hy_commands.specs.declared.command.Command.TheVariants as commands
use Rattle.hy_commands.specs.declared.command.Commit.{Commit}
use Rattle.hy_commands.specs.declared.command.Commit.TheVariants as commits
use Rattle.hy_commands.specs.declared.command.PurchaseLine.{PurchaseLine}
use Rattle.hy_commands.specs.declared.command.Who.{Who}
use Rattle.hy_commands.specs.declared.command.Who.TheVariants as who
use Rattle.hy_commands.specs.declared.edition.Edition.{Edition}

-- ---- ranges

abbrev pub is_moment : ℕ → Bool
is_moment moment = is_between 1 max_moment moment

-- a last name: at most 16 characters, each printable
abbrev pub max_name : ℕ
max_name = 16

abbrev pub is_name : List ℕ → Bool
is_name bytes = nat_le (length bytes) max_name && list_all (is_between 32 126) bytes

abbrev pub is_who : Who → Bool
is_who (who.Number number) = true
is_who (who.Last name) = is_name name

-- clause 2.4.1: 5 to 15 lines, each of 1 to 10
abbrev pub is_line_in_range : PurchaseLine → Bool
is_line_in_range line = is_between 1 max_quantity line.quantity

-- clause 2.8.1.2
abbrev pub min_threshold : ℕ
min_threshold = 10

abbrev pub max_threshold : ℕ
max_threshold = 20

abbrev pub is_in_range : Command → Bool
is_in_range (commands.NewOrder order) =
    is_between min_lines max_lines (length order.lines) && list_all is_line_in_range order.lines && is_moment order.at
is_in_range (commands.Payment payment) =
    is_between min_payment max_payment payment.amount && is_moment payment.at && is_who payment.who
is_in_range (commands.OrderStatus status) = is_who status.who
is_in_range (commands.Delivery delivery) = is_between 1 max_carriers delivery.carrier && is_moment delivery.at
is_in_range (commands.StockLevel level) = is_between min_threshold max_threshold level.threshold

-- ---- the districts that a command names

abbrev pub is_district_number : ℕ → Bool
is_district_number number = is_between 1 districts_per_warehouse number

-- whether they are there
abbrev pub has_districts : Command → Bool
has_districts (commands.NewOrder order) = is_district_number order.district
has_districts (commands.Payment payment) =
    is_district_number payment.district && is_district_number payment.customer_district
has_districts (commands.OrderStatus status) = is_district_number status.district
has_districts (commands.Delivery delivery) = true
has_districts (commands.StockLevel level) = is_district_number level.district

-- ---- the items that a command names

-- the lines in which it orders them
abbrev pub lines_ordered : Command → List PurchaseLine
lines_ordered (commands.NewOrder order) = order.lines
lines_ordered command = []

-- whether each is among the numbers from 1 on, of which there are so many
abbrev pub are_items_up_to : ℕ → Command → Bool
are_items_up_to count command =
    list_all (λ (line : PurchaseLine). is_between 1 count line.item) (lines_ordered command)

-- ---- the customer whom a command names

-- a customer of a district, by number or by last name
pub record CustomerName : Type 0 where
  pub warehouse : ℕ
  pub district : ℕ
  pub who : Who

abbrev pub customer_named : Command → Option CustomerName
customer_named (commands.NewOrder order) =
    Some record { warehouse = order.warehouse; district = order.district; who = who.Number order.customer }
customer_named (commands.Payment payment) =
    Some record { warehouse = payment.customer_warehouse; district = payment.customer_district; who = payment.who }
customer_named (commands.OrderStatus status) =
    Some record { warehouse = status.warehouse; district = status.district; who = status.who }
customer_named command = None

-- ---- the warehouses that a command names

-- the home warehouse
abbrev pub home_of : Command → ℕ
home_of (commands.NewOrder order) = order.warehouse
home_of (commands.Payment payment) = payment.warehouse
home_of (commands.OrderStatus status) = status.warehouse
home_of (commands.Delivery delivery) = delivery.warehouse
home_of (commands.StockLevel level) = level.warehouse

-- the list with a number behind it that it doesn't have
abbrev pub with_named : List ℕ → ℕ → List ℕ
with_named named number = if list_any (λ other. other == number) named then named else named ++ number ∷ []

-- the warehouses that a command names, its home first, each once
abbrev pub warehouses_of : Command → List ℕ
warehouses_of (commands.NewOrder order) =
    fold (λ named line. with_named named line.supply_warehouse) (order.warehouse ∷ []) order.lines
warehouses_of (commands.Payment payment) = with_named (payment.warehouse ∷ []) payment.customer_warehouse
warehouses_of command = home_of command ∷ []

-- whether the warehouse of a place is marked, of the sixteen that there may be
abbrev pub is_marked : List Bool → ℕ → Bool
is_marked places place = slice_index_or places place false

-- whether a command names the warehouse of a place, that of number 1 at place 0
abbrev pub is_named_at : Command → ℕ → Bool
is_named_at command place = list_any (λ named. named == suc place) (warehouses_of command)

-- the warehouses that a command names are marked at their places, and no others
abbrev pub AreNamedPlaces : Command → List Bool → Type 0
AreNamedPlaces command places = (place : ℕ) → place < 16 → is_marked places place ≡ is_named_at command place

-- the warehouse of the customer whom a command names; its home, where it names none
abbrev pub home_or : ℕ → Option CustomerName → ℕ
home_or home None = home
home_or home (Some customer) = customer.warehouse

abbrev pub customer_home_of : Command → ℕ
customer_home_of command = home_or (home_of command) (customer_named command)

-- ---- what a command's numbers refuse

-- why a command is refused before a row is looked at, the first that holds of these: a value is out of range; a warehouse
-- isn't there, which a test says of each; a district isn't
abbrev pub refusal_of_places : Bool → Command → Option Refusal
refusal_of_places are_there command =
    if not are_there then Some refusals.NoSuchWarehouse
    else if not (has_districts command) then Some refusals.NoSuchDistrict
    else None

abbrev pub refusal_of_numbers : (ℕ → Bool) → Command → Option Refusal
refusal_of_numbers is_there command =
    if not (is_in_range command) then Some refusals.OutOfRange
    else refusal_of_places (list_all is_there (warehouses_of command)) command

-- ---- what is counted

-- the cents that a command pays
abbrev pub cents_of : Command → ℕ
cents_of (commands.Payment payment) = payment.amount
cents_of command = 0

-- how many slices a command has: a purchase a head and one for each line; a payment one for the warehouse, the district
-- and the history, and one for the customer; a delivery one for each district
abbrev pub slice_count : Command → ℕ
slice_count (commands.NewOrder order) = length order.lines + 1
slice_count (commands.Payment payment) = 2
slice_count (commands.OrderStatus status) = 1
slice_count (commands.Delivery delivery) = districts_per_warehouse
slice_count (commands.StockLevel level) = 1

-- ---- the kept list

-- the command of a commit
abbrev pub command_of : Commit → Command
command_of (commits.Local edition command) = command
command_of (commits.Cross edition number command) = command

-- the edition of the transactions by which it was done
abbrev pub edition_of : Commit → Edition
edition_of (commits.Local edition command) = edition
edition_of (commits.Cross edition number command) = edition

-- the warehouses that a commit names
abbrev pub warehouses_of_commit : Commit → List ℕ
warehouses_of_commit commit = warehouses_of (command_of commit)

-- the number of a commit among those of several warehouses
abbrev pub number_of : Commit → Option ℕ
number_of (commits.Local edition command) = None
number_of (commits.Cross edition number command) = Some number

-- whether a command only reads
abbrev pub is_reader : Command → Bool
is_reader (commands.OrderStatus status) = true
is_reader (commands.StockLevel level) = true
is_reader command = false

-- what an accepted command of one warehouse adds to the kept list: one that only reads adds nothing
abbrev pub kept_of : Edition → Command → List Commit
kept_of edition command = if is_reader command then [] else commits.Local edition command ∷ []
