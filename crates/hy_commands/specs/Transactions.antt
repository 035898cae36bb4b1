-- What a command that names one warehouse does to it, and its reply (TPC-C clause 2). Nothing here knows of slices of a
-- transaction, of memory or of pages.
use Rattle.std.specs.Prelude.{ℕ, Bool, true, ◌==◌, if◌then◌else◌, is_some, Option, Some, None, List, [], unwrap_or}
use Rattle.std.specs.List.{list_all}
use Rattle.std.specs.Option.{option_or}
use Rattle.hy_rows.specs.declared.customer.Customer.{Customer}
use Rattle.hy_rows.specs.declared.item.Item.{Item}
use Rattle.hy_rows.specs.Rows.{customer_of}
use Rattle.hy_rows.specs.Tables.{Tables}
use Rattle.hy_schema.specs.declared.refusal.Refusal.{Refusal}
use Rattle.hy_schema.specs.declared.refusal.Refusal.TheVariants as refusals
use Rattle.hy_commands.specs.declared.command.Command.{Command}
use Rattle.hy_commands.specs.declared.command.Command.TheVariants as commands
use Rattle.hy_commands.specs.declared.command.OrderStatus.{OrderStatus}
use Rattle.hy_commands.specs.declared.command.Payment.{Payment}
use Rattle.hy_commands.specs.declared.edition.Edition.{Edition}
use Rattle.hy_commands.specs.declared.reply.Reply.{Reply}
use Rattle.hy_commands.specs.declared.reply.Reply.TheVariants as replies
use Rattle.hy_commands.specs.Commands.{CustomerName, customer_named, lines_ordered, refusal_of_numbers}
use Rattle.hy_commands.specs.Customers.{customer_meant}
use Rattle.hy_commands.specs.Deliveries.{delivered, deliveries}
use Rattle.hy_commands.specs.NewOrders.{has_item, order_number, ordered, purchase_total, supplied}
use Rattle.hy_commands.specs.OrderStatus.{last_placed}
use Rattle.hy_commands.specs.Payments.{customer_paid, paid_by, paid_in}
use Rattle.hy_commands.specs.StockLevels.{low_items}

-- ---- refusals

-- whether the customer whom a command names is there
abbrev pub is_customer_there : Tables → Option CustomerName → Bool
is_customer_there tables None = true
is_customer_there tables (Some customer) =
    is_some (customer_meant customer.warehouse customer.district customer.who tables.customers)

abbrev pub has_customer : Command → Tables → Bool
has_customer command tables = is_customer_there tables (customer_named command)

-- whether the items that a command names are there
abbrev pub has_items : List Item → Command → Bool
has_items items command = list_all (has_item items) (lines_ordered command)

-- why a warehouse doesn't begin a command: the first of these that holds
abbrev pub begin_refusal_of : ℕ → Command → Tables → Option Refusal
begin_refusal_of warehouse command tables =
    option_or (refusal_of_numbers (λ named. named == warehouse) command)
    (if has_customer command tables then None else Some refusals.NoSuchCustomer)

-- why it refuses a command: it doesn't begin it, or an item isn't there, which the line that names it finds
abbrev pub refusal_of : List Item → ℕ → Command → Tables → Option Refusal
refusal_of items warehouse command tables =
    option_or (begin_refusal_of warehouse command tables)
    (if has_items items command then None else Some refusals.NoSuchItem)

-- ---- what an accepted command does

-- what is left of a command: the rows after it, and the reply
pub record Outcome : Type 0 where
  pub tables : Tables
  pub reply : Reply

-- the customer who is meant; a command is accepted only where there is one
abbrev pub payer : Payment → Tables → Customer
payer payment tables =
    unwrap_or (customer_meant payment.customer_warehouse payment.customer_district payment.who tables.customers)
    (customer_of [])

abbrev pub asker : OrderStatus → Tables → Customer
asker status tables =
    unwrap_or (customer_meant status.warehouse status.district status.who tables.customers) (customer_of [])

-- the reply to Order-Status
abbrev pub status_reply : Customer → Tables → Reply
status_reply row tables =
    replies.OrderStatus row.id row.first row.middle row.last row.balance (last_placed row tables)

abbrev pub accepted : List Item → ℕ → Edition → Command → Tables → Outcome
accepted items warehouse edition (commands.NewOrder order) tables = record {
  tables = supplied warehouse order (ordered items order tables);
  reply = replies.NewOrder (order_number order tables) (purchase_total items order tables);
}
accepted items warehouse edition (commands.Payment payment) tables =
    let row : Customer = payer payment tables in
    record {
      tables = paid_by edition payment row.id (paid_in payment row.id tables);
      reply = replies.Payment row.id (customer_paid edition payment row).balance;
    }
accepted items warehouse edition (commands.OrderStatus status) tables =
    record { tables = tables; reply = status_reply (asker status tables) tables }
accepted items warehouse edition (commands.Delivery delivery) tables =
    record { tables = delivered delivery tables; reply = replies.Delivery (deliveries delivery tables) }
accepted items warehouse edition (commands.StockLevel level) tables =
    record { tables = tables; reply = replies.StockLevel (low_items level tables) }

-- a refused command changes nothing
abbrev pub outcome_of : Option Refusal → List Item → ℕ → Edition → Command → Tables → Outcome
outcome_of (Some refusal) items warehouse edition command tables =
    record { tables = tables; reply = replies.Refused refusal }
outcome_of None items warehouse edition command tables = accepted items warehouse edition command tables

-- what a command does to a warehouse with this number and these rows
abbrev pub act : List Item → ℕ → Edition → Command → Tables → Outcome
act items warehouse edition command tables =
    outcome_of (refusal_of items warehouse command tables) items warehouse edition command tables
