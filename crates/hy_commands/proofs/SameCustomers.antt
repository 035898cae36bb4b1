-- No commit changes who the customers of a warehouse are, nor the order of their rows; and which customer a command
-- names depends on that alone.
use Rattle.std.proofs.Common.{◌≡◌, ℕ, ◌+◌, ◌-◌, ◌/◌, ◌==◌, Bool, true, false, cond, List, [], ◌∷◌, filter, length, map, Option, Some, None, refl, sym, ap, ◌∙◌}
use Rattle.std.specs.Prelude.{fold, is_some, slice_get, unwrap_or}
use Rattle.std.specs.Option.{option_map}
use Rattle.std.proofs.lemmas.Option.{slice_get-map}
use Rattle.hy_rows.specs.Finding.{first_or, is_customer}
use Rattle.hy_rows.specs.Rows.{customer_of, order_of}
use Rattle.hy_rows.specs.Tables.{Lists, Tables, of_warehouse}
use Rattle.hy_rows.specs.declared.customer.Customer.{Customer}
use Rattle.hy_rows.specs.declared.item.Item.{Item}
use Rattle.hy_schema.specs.Keys.{district_numbers}
use Rattle.hy_schema.specs.Related.{is_order}
use Rattle.hy_schema.specs.declared.refusal.Refusal.{Refusal}
use Rattle.hy_schema.proofs.ChangedLists.{map-with_changed}
use Rattle.hy_commands.specs.declared.command.Command.{Command}
use Rattle.hy_commands.specs.declared.command.Command.TheVariants as commands
use Rattle.hy_commands.specs.declared.command.Commit.{Commit}
use Rattle.hy_commands.specs.declared.command.Commit.TheVariants as commits
use Rattle.hy_commands.specs.declared.command.Delivery.{Delivery}
use Rattle.hy_commands.specs.declared.command.Payment.{Payment}
use Rattle.hy_commands.specs.declared.command.Who.{Who}
use Rattle.hy_commands.specs.declared.command.Who.TheVariants as who
use Rattle.hy_commands.specs.declared.edition.Edition.{Edition}
use Rattle.hy_commands.specs.Commands.{CustomerName, customer_named}
use Rattle.hy_commands.specs.Customers.{customer_meant, identity_of, is_earlier, is_named}
use Rattle.hy_commands.specs.Deliveries.{customer_delivered, delivered, delivered_in, oldest, order_cents, with_delivered}
use Rattle.hy_commands.specs.NewOrders.{ordered}
use Rattle.hy_commands.specs.Parts.{database_of, number_in, part, part_unless, payer_number, refusal_in}
use Rattle.hy_commands.specs.Payments.{customer_paid, paid_by, paid_in}
use Rattle.hy_commands.specs.Replay.{committed, replay, rows_after}
use Rattle.hy_commands.specs.Sorting.{sorted}
use Rattle.hy_commands.specs.Transactions.{has_customer, is_customer_there, outcome_of, payer, refusal_of}
use Rattle.hy_commands.specs.inside.Kinds.{by_payment}
use Rattle.hy_commands.proofs.ListLaws.{filter-map, find-map, length-map, sorted-map}

-- ---- who is meant

-- among the customers as they are named, the one who is meant stands as named
meant-identity : (warehouse district : ℕ) (whom : Who) (rows : List Customer)
    → customer_meant warehouse district whom (map identity_of rows)
    ≡ option_map identity_of (customer_meant warehouse district whom rows)
meant-identity warehouse district (who.Number number) rows =
    find-map (is_customer warehouse district number) identity_of (λ row. refl) rows
meant-identity warehouse district (who.Last name) rows =
    let called : List Customer = filter (is_named warehouse district name) rows in
    let in_order : List Customer = sorted is_earlier called in
    let same : sorted is_earlier (filter (is_named warehouse district name) (map identity_of rows)) ≡ map identity_of
    in_order =
    ap (sorted is_earlier) (filter-map (is_named warehouse district name) identity_of (λ row. refl) rows)
    ∙ sorted-map is_earlier identity_of (λ one other. refl) called in
    ap (λ l. slice_get l ((length l + 1) / 2 - 1)) same
    ∙ ap (λ n. slice_get (map identity_of in_order) ((n + 1) / 2 - 1)) (length-map identity_of in_order)
    ∙ slice_get-map identity_of in_order ((length in_order + 1) / 2 - 1)

meant-same : (warehouse district : ℕ) (whom : Who) (one other : List Customer)
    → map identity_of one ≡ map identity_of other
    → option_map identity_of (customer_meant warehouse district whom one)
    ≡ option_map identity_of (customer_meant warehouse district whom other)
meant-same warehouse district whom one other same =
    sym (meant-identity warehouse district whom one) ∙ ap (customer_meant warehouse district whom) same
    ∙ meant-identity warehouse district whom other

-- whether there is one, and that customer's number
is_some-identity : (row : Option Customer) → is_some (option_map identity_of row) ≡ is_some row
is_some-identity None = refl
is_some-identity (Some row) = refl

number-identity : (row : Option Customer)
    → (unwrap_or (option_map identity_of row) (customer_of [])).id ≡ (unwrap_or row (customer_of [])).id
number-identity None = refl
number-identity (Some row) = refl

there-same : (warehouse district : ℕ) (whom : Who) (one other : List Customer)
    → map identity_of one ≡ map identity_of other
    → is_some (customer_meant warehouse district whom one) ≡ is_some (customer_meant warehouse district whom other)
there-same warehouse district whom one other same =
    sym (is_some-identity (customer_meant warehouse district whom one))
    ∙ ap is_some (meant-same warehouse district whom one other same)
    ∙ is_some-identity (customer_meant warehouse district whom other)

pub has_customer-same : (command : Command) (one other : Tables)
    → map identity_of one.customers ≡ map identity_of other.customers
    → has_customer command one ≡ has_customer command other
has_customer-same command one other same = of (customer_named command)
  where
    of : (named : Option CustomerName) → is_customer_there one named ≡ is_customer_there other named
    of None = refl
    of (Some customer) =
        there-same customer.warehouse customer.district customer.who one.customers other.customers same

pub payer_number-same : (command : Command) (one other : Tables)
    → map identity_of one.customers ≡ map identity_of other.customers
    → payer_number one command ≡ payer_number other command
payer_number-same command one other same =
    by_payment (λ command. payer_number one command ≡ payer_number other command) of_payment
    (λ command nobody. nobody.payer one ∙ sym (nobody.payer other)) command
  where
    of_payment : (payment : Payment)
        → payer_number one (commands.Payment payment) ≡ payer_number other (commands.Payment payment)
    of_payment payment =
        let meant : Tables → Option Customer =
        λ tables. customer_meant payment.customer_warehouse payment.customer_district payment.who tables.customers in
        sym (number-identity (meant one))
        ∙ ap (λ row. (unwrap_or row (customer_of [])).id) (meant-same payment.customer_warehouse
        payment.customer_district payment.who one.customers other.customers same)
        ∙ number-identity (meant other)

-- ---- what commits leave

same-paid_by : (edition : Edition) (payment : Payment) (customer : ℕ) (tables : Tables)
    → map identity_of (paid_by edition payment customer tables).customers ≡ map identity_of tables.customers
same-paid_by edition payment customer tables =
    map-with_changed identity_of (is_customer payment.customer_warehouse payment.customer_district customer)
    (customer_paid edition payment) (λ row. refl) tables.customers

-- at home or not, and at the customer's warehouse or not
same-paid : (edition : Edition) (payment : Payment) (customer : ℕ) (tables : Tables) (home own : Bool)
    → map identity_of (cond own (paid_by edition payment customer (cond home (paid_in payment customer tables) tables))
    (cond home (paid_in payment customer tables) tables)).customers
    ≡ map identity_of tables.customers
same-paid edition payment customer tables true true = same-paid_by edition payment customer (paid_in payment customer tables)
same-paid edition payment customer tables true false = refl
same-paid edition payment customer tables false true = same-paid_by edition payment customer tables
same-paid edition payment customer tables false false = refl

pub same-delivered_in : (delivery : Delivery) (tables : Tables) (district : ℕ)
    → map identity_of (delivered_in delivery tables district).customers ≡ map identity_of tables.customers
same-delivered_in delivery tables district =
    let number : ℕ = oldest delivery.warehouse district tables in
    let order = first_or (order_of []) (is_order delivery.warehouse district number) tables.orders in
    elim (number == 0) as (λ b. map identity_of (cond b tables (with_delivered delivery order tables)).customers
    ≡ map identity_of tables.customers) [
      | true ↦ refl
      | false ↦ map-with_changed identity_of (is_customer order.warehouse order.district order.customer)
          (customer_delivered (order_cents order tables.order_lines)) (λ row. refl) tables.customers
    ]

same-districts : (delivery : Delivery) (districts : List ℕ) (tables : Tables)
    → map identity_of (fold (delivered_in delivery) tables districts).customers ≡ map identity_of tables.customers
same-districts delivery [] tables = refl
same-districts delivery (district ∷ districts) tables =
    same-districts delivery districts (delivered_in delivery tables district)
    ∙ same-delivered_in delivery tables district

same-outcome : (items : List Item) (number : ℕ) (edition : Edition) (command : Command) (tables : Tables) (refusal : Option Refusal)
    → map identity_of (outcome_of refusal items number edition command tables).tables.customers
    ≡ map identity_of tables.customers
same-outcome items number edition command tables (Some refusal) = refl
same-outcome items number edition (commands.NewOrder order) tables None = refl
same-outcome items number edition (commands.Payment payment) tables None =
    same-paid_by edition payment (payer payment tables).id (paid_in payment (payer payment tables).id tables)
same-outcome items number edition (commands.OrderStatus status) tables None = refl
same-outcome items number edition (commands.Delivery delivery) tables None = same-districts delivery district_numbers tables
same-outcome items number edition (commands.StockLevel level) tables None = refl

-- the part of a command
pub same-part : (items : List Item) (number : ℕ) (edition : Edition) (command : Command) (tables : Tables)
    → map identity_of (part items number edition command tables).customers ≡ map identity_of tables.customers
same-part items number edition (commands.NewOrder order) tables =
    elim (order.warehouse == number) as (λ b. map identity_of (cond b (ordered items order tables) tables).customers
    ≡ map identity_of tables.customers) [
      | true ↦ refl
      | false ↦ refl
    ]
same-part items number edition (commands.Payment payment) tables =
    same-paid edition payment (number_in payment.who) tables (payment.warehouse == number)
    (payment.customer_warehouse == number)
same-part items number edition (commands.OrderStatus status) tables = refl
same-part items number edition (commands.Delivery delivery) tables =
    elim (delivery.warehouse == number) as (λ b. map identity_of (cond b (delivered delivery tables) tables).customers
    ≡ map identity_of tables.customers) [
      | true ↦ same-districts delivery district_numbers tables
      | false ↦ refl
    ]
same-part items number edition (commands.StockLevel level) tables = refl

same-part_unless : (items : List Item) (number : ℕ) (edition : Edition) (command : Command) (tables : Tables) (refusal : Option Refusal)
    → map identity_of (part_unless refusal items number edition command tables).customers ≡ map identity_of tables.customers
same-part_unless items number edition command tables (Some refusal) = refl
same-part_unless items number edition command tables None = same-part items number edition command tables

pub same-committed : (lists : Lists) (number : ℕ) (tables : Tables) (commit : Commit)
    → map identity_of (committed lists number tables commit).customers ≡ map identity_of tables.customers
same-committed lists number tables (commits.Local edition command) =
    same-outcome lists.items number edition command tables (refusal_of lists.items number command tables)
same-committed lists number tables (commits.Cross edition crossing command) =
    same-part_unless lists.items number edition command tables (refusal_in (database_of lists) command)

pub same-replay : (lists : Lists) (number : ℕ) (loaded : Tables) (commits : List Commit)
    → map identity_of (replay lists number loaded commits).customers ≡ map identity_of loaded.customers
same-replay lists number loaded [] = refl
same-replay lists number loaded (commit ∷ commits) =
    same-replay lists number (committed lists number loaded commit) commits
    ∙ same-committed lists number loaded commit

pub same-customers : (lists : Lists) (number : ℕ) (commits : List Commit)
    → map identity_of (rows_after lists number commits).customers
    ≡ map identity_of (of_warehouse number lists.tables).customers
same-customers lists number commits = same-replay lists number (of_warehouse number lists.tables) commits
