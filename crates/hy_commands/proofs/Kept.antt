-- Each command keeps the rows of a warehouse sound, and so does each list of commits.
use Rattle.std.proofs.Common.{◌≡◌, ℕ, ◌==◌, true, false, cond, List, [], ◌∷◌, map, Option, Some, None, refl, sym, ap, ◌∙◌, arith}
use Rattle.std.proofs.lemmas.Bool.{eqb-true, ne_eqb}
use Rattle.hy_rows.specs.Finding.{is_customer}
use Rattle.hy_rows.specs.Ranges.{IsBetween}
use Rattle.hy_rows.specs.Tables.{Lists, Tables, of_warehouse}
use Rattle.hy_rows.specs.declared.item.Item.{Item}
use Rattle.hy_rows.proofs.BetweenLaws.{bounds}
use Rattle.hy_schema.specs.Loads.{IsLoad}
use Rattle.hy_schema.specs.declared.refusal.Refusal.{Refusal}
use Rattle.hy_commands.specs.declared.command.Command.{Command}
use Rattle.hy_commands.specs.declared.command.Command.TheVariants as commands
use Rattle.hy_commands.specs.declared.command.Commit.{Commit}
use Rattle.hy_commands.specs.declared.command.Commit.TheVariants as commits
use Rattle.hy_commands.specs.declared.edition.Edition.{Edition}
use Rattle.hy_commands.specs.Customers.{identity_of}
use Rattle.hy_commands.specs.Deliveries.{delivered}
use Rattle.hy_commands.specs.Invariant.{IsSoundWarehouse}
use Rattle.hy_commands.specs.NewOrders.{ordered}
use Rattle.hy_commands.specs.Commands.{customer_home_of}
use Rattle.hy_commands.specs.Parts.{database_of, number_in, part, part_unless, refusal_in, rows_of}
use Rattle.hy_commands.specs.Payments.{paid_by, paid_in}
use Rattle.hy_commands.specs.Replay.{HasWarehouse, committed, replay, rows_after}
use Rattle.hy_commands.specs.Transactions.{accepted, act, has_customer, outcome_of, payer, refusal_of}
use Rattle.hy_commands.proofs.AcceptedLaws.{IsAccepted, IsAcceptedIn, accepted-delivery, accepted-in, accepted-not_refused, accepted-payment, accepted-purchase, delivery-in_range, payment-in_range, purchase-in_range}
use Rattle.hy_commands.proofs.DatabaseLaws.{rows-load}
use Rattle.hy_commands.proofs.KeptByDelivery.{sound-delivered}
use Rattle.hy_commands.proofs.KeptByNewOrder.{sound-ordered, sound-purchase, sound-supplied}
use Rattle.hy_commands.proofs.KeptByPayment.{sound-paid, sound-paid_by, sound-paid_in}
use Rattle.hy_commands.proofs.ListLaws.{found-any}
use Rattle.hy_commands.proofs.SameCustomers.{has_customer-same, same-committed}
use Rattle.hy_commands.proofs.SoundLoad.{sound-load}

-- a number from 1 on isn't 0
pub not_0 : (high number : ℕ) → IsBetween 1 high number → (number == 0) ≡ false
not_0 high number between =
    let ends = bounds 1 high number between in
    ne_eqb number 0 (λ same. omega (arith, same, ends.0))

-- an accepted command
sound-accepted : (items : List Item) (number : ℕ) (edition : Edition) (command : Command) (tables : Tables)
    → IsAccepted items number command tables → IsSoundWarehouse items number tables
    → IsSoundWarehouse items number (accepted items number edition command tables).tables
sound-accepted items number edition (commands.NewOrder order) tables passed sound =
    sound-purchase items number order tables (accepted-purchase items number order tables passed)
    (sym (found-any (is_customer order.warehouse order.district order.customer) tables.customers) ∙ passed.customer)
    passed.known sound
sound-accepted items number edition (commands.Payment payment) tables passed sound =
    sound-paid items number edition payment (payer payment tables).id tables (accepted-payment items number payment tables
    passed) sound
sound-accepted items number edition (commands.OrderStatus status) tables passed sound = sound
sound-accepted items number edition (commands.Delivery delivery) tables passed sound =
    let delivered = accepted-delivery items number delivery tables passed in
    sound-delivered items number delivery (not_0 10 delivery.carrier delivered.carrier)
    (not_0 1_000_000_000_000_000 delivery.at delivered.moment) tables sound
sound-accepted items number edition (commands.StockLevel level) tables passed sound = sound

-- one that is refused changes nothing
sound-outcome : (items : List Item) (number : ℕ) (edition : Edition) (command : Command) (tables : Tables) (refusal : Option Refusal)
    → refusal_of items number command tables ≡ refusal → IsSoundWarehouse items number tables
    → IsSoundWarehouse items number (outcome_of refusal items number edition command tables).tables
sound-outcome items number edition command tables (Some refusal) is sound = sound
sound-outcome items number edition command tables None is sound =
    sound-accepted items number edition command tables (accepted-not_refused items number command tables is) sound

pub sound-act : (items : List Item) (number : ℕ) (edition : Edition) (command : Command) (tables : Tables)
    → IsSoundWarehouse items number tables → IsSoundWarehouse items number (act items number edition command tables).tables
sound-act items number edition command tables sound =
    sound-outcome items number edition command tables (refusal_of items number command tables) refl sound

-- ---- parts of commands

-- the customer whom a command names is there still
pub customer-now : (lists : Lists) (number : ℕ) (command : Command) (tables : Tables) → HasWarehouse lists number
    → customer_home_of command ≡ number
    → map identity_of tables.customers ≡ map identity_of (of_warehouse number lists.tables).customers
    → IsAcceptedIn (database_of lists) command → has_customer command tables ≡ true
customer-now lists number command tables has home same passed =
    let loaded : rows_of (customer_home_of command) (database_of lists) ≡ of_warehouse number lists.tables =
    ap (λ n. rows_of n (database_of lists)) home ∙ rows-load lists number has in
    has_customer-same command tables (of_warehouse number lists.tables) same
    ∙ sym (ap (has_customer command) loaded) ∙ passed.customer

-- what a command that the database doesn't refuse does to a warehouse
pub sound-part : (lists : Lists) (number : ℕ) (edition : Edition) (command : Command) (tables : Tables) → HasWarehouse lists number
    → map identity_of tables.customers ≡ map identity_of (of_warehouse number lists.tables).customers
    → IsAcceptedIn (database_of lists) command → IsSoundWarehouse lists.items number tables
    → IsSoundWarehouse lists.items number (part lists.items number edition command tables)
sound-part lists number edition (commands.NewOrder order) tables has same passed sound =
    sound-supplied lists.items number order
    (cond (order.warehouse == number) (ordered lists.items order tables) tables)
    (elim (order.warehouse == number) as (λ b. (order.warehouse == number) ≡ b
    → IsSoundWarehouse lists.items number (cond b (ordered lists.items order tables) tables)) [
      | true ↦ λ own.
          let home : order.warehouse ≡ number = eqb-true order.warehouse number own in
          let there = customer-now lists number (commands.NewOrder order) tables has home same passed in
          sound-ordered lists.items number order tables
          (purchase-in_range number order home passed.in_range passed.districts)
          (sym (found-any (is_customer order.warehouse order.district order.customer) tables.customers) ∙ there)
          passed.known sound
      | false ↦ λ other. sound
    ] refl)
sound-part lists number edition (commands.Payment payment) tables has same passed sound =
    let customer : ℕ = number_in payment.who in
    let after : Tables = cond (payment.warehouse == number) (paid_in payment customer tables) tables in
    let home : IsSoundWarehouse lists.items number after =
    elim (payment.warehouse == number) as (λ b. (payment.warehouse == number) ≡ b
    → IsSoundWarehouse lists.items number (cond b (paid_in payment customer tables) tables)) [
      | true ↦ λ own. sound-paid_in lists.items number payment customer tables
          (payment-in_range number payment (eqb-true payment.warehouse number own) passed.in_range passed.districts)
          sound
      | false ↦ λ other. sound
    ] refl in
    elim (payment.customer_warehouse == number) as (λ b.
    IsSoundWarehouse lists.items number (cond b (paid_by edition payment customer after) after)) [
      | true ↦ sound-paid_by lists.items number edition payment customer after home
      | false ↦ home
    ]
sound-part lists number edition (commands.OrderStatus status) tables has same passed sound = sound
sound-part lists number edition (commands.Delivery delivery) tables has same passed sound =
    elim (delivery.warehouse == number) as (λ b. (delivery.warehouse == number) ≡ b
    → IsSoundWarehouse lists.items number (cond b (delivered delivery tables) tables)) [
      | true ↦ λ own.
          let range = delivery-in_range number delivery (eqb-true delivery.warehouse number own) passed.in_range in
          sound-delivered lists.items number delivery (not_0 10 delivery.carrier range.carrier)
          (not_0 1_000_000_000_000_000 delivery.at range.moment) tables sound
      | false ↦ λ other. sound
    ] refl
sound-part lists number edition (commands.StockLevel level) tables has same passed sound = sound

sound-part_unless : (lists : Lists) (number : ℕ) (edition : Edition) (command : Command) (tables : Tables) (refusal : Option Refusal)
    → refusal_in (database_of lists) command ≡ refusal → HasWarehouse lists number
    → map identity_of tables.customers ≡ map identity_of (of_warehouse number lists.tables).customers
    → IsSoundWarehouse lists.items number tables
    → IsSoundWarehouse lists.items number (part_unless refusal lists.items number edition command tables)
sound-part_unless lists number edition command tables (Some refusal) is has same sound = sound
sound-part_unless lists number edition command tables None is has same sound =
    sound-part lists number edition command tables has same (accepted-in (database_of lists) command is) sound

-- ---- commits

module _ (lists : Lists) (number : ℕ) (has : HasWarehouse lists number) where
  pub sound-committed : (tables : Tables) (commit : Commit)
      → map identity_of tables.customers ≡ map identity_of (of_warehouse number lists.tables).customers
      → IsSoundWarehouse lists.items number tables
      → IsSoundWarehouse lists.items number (committed lists number tables commit)
  sound-committed tables (commits.Local edition command) same sound = sound-act lists.items number edition command tables sound
  sound-committed tables (commits.Cross edition crossing command) same sound =
      sound-part_unless lists number edition command tables (refusal_in (database_of lists) command) refl has same sound

  pub sound-replay : (loaded : Tables) (commits : List Commit)
      → map identity_of loaded.customers ≡ map identity_of (of_warehouse number lists.tables).customers
      → IsSoundWarehouse lists.items number loaded
      → IsSoundWarehouse lists.items number (replay lists number loaded commits)
  sound-replay loaded [] same sound = sound
  sound-replay loaded (commit ∷ commits) same sound =
      sound-replay (committed lists number loaded commit) commits (same-committed lists number loaded commit ∙ same)
      (sound-committed loaded commit same sound)

-- the rows of each warehouse of a load, after each list of commits
pub sound-rows : (lists : Lists) (number : ℕ) (commits : List Commit) → IsLoad lists → HasWarehouse lists number
    → IsSoundWarehouse lists.items number (rows_after lists number commits)
sound-rows lists number commits is_load has =
    sound-replay lists number has (of_warehouse number lists.tables) commits refl (sound-load number lists is_load has)
