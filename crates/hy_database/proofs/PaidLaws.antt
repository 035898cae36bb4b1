-- What was paid for a customer in all warehouses is C_YTD_PAYMENT of the customer, and each payment stands in the
-- warehouse in which it was made.
use Rattle.std.proofs.Common.{◌≡◌, ℕ, ℤ, pos, ◌+ℤ◌, ◌==◌, ◌&&◌, Bool, true, false, cond, List, [], ◌∷◌, ◌++◌, length, filter, Option, Some, None, refl, sym, ap, subst, ◌∙◌, arith}
use Rattle.std.specs.Prelude.{All, IsTrue, fold}
use Rattle.std.specs.List.{range_with_len}
use Rattle.std.proofs.lemmas.Bool.{eqb-true}
use Rattle.std.proofs.lemmas.Bool.Decides.{nat_tests}
use Rattle.std.proofs.lemmas.Int.{ints}
use Rattle.std.proofs.lemmas.List.Elements.{All-push, All-weaker, filter-append}
use Rattle.hy_rows.specs.Finding.{first_or, is_customer, with_changed}
use Rattle.hy_rows.specs.Rows.{order_of}
use Rattle.hy_rows.specs.Ranges.{IsBetween}
use Rattle.hy_rows.specs.Tables.{Tables}
use Rattle.hy_rows.specs.declared.customer.Customer.{Customer}
use Rattle.hy_rows.specs.declared.history.History.{History}
use Rattle.hy_rows.specs.declared.item.Item.{Item}
use Rattle.hy_rows.specs.declared.order.Order.{Order}
use Rattle.hy_rows.proofs.BetweenLaws.{IsBetween-bounds, bounds}
use Rattle.hy_schema.specs.declared.refusal.Refusal.{Refusal}
use Rattle.hy_schema.specs.Conditions.{column_sum, paid_amount}
use Rattle.hy_schema.specs.Keys.{IsOneWarehouse, district_numbers}
use Rattle.hy_schema.specs.Related.{is_order, is_payment_by, payments_by}
use Rattle.hy_schema.proofs.ChangedLists.{All-with_changed}
use Rattle.hy_commands.specs.declared.command.Command.{Command}
use Rattle.hy_commands.specs.declared.command.Command.TheVariants as commands
use Rattle.hy_commands.specs.declared.command.Delivery.{Delivery}
use Rattle.hy_commands.specs.declared.command.Payment.{Payment}
use Rattle.hy_commands.specs.declared.edition.Edition.{Edition}
use Rattle.hy_commands.specs.Commands.{home_of}
use Rattle.hy_commands.specs.Deliveries.{customer_delivered, delivered, delivered_in, oldest, with_delivered}
use Rattle.hy_commands.specs.NewOrders.{ordered}
use Rattle.hy_commands.specs.Parts.{Database, is_there, number_in, part, payment_part, rows_of}
use Rattle.hy_commands.specs.Payments.{customer_paid, history_row, paid_by, paid_in}
use Rattle.hy_commands.proofs.ListLaws.{All-changed_once, All-of_both, column_sum-append}
use Rattle.hy_commands.proofs.OnceLaws.{once-customer}
use Rattle.hy_database.proofs.DoesLaws.{Does}
use Rattle.hy_database.proofs.NumberedLaws.{IsNumbered, sum-grows, sum-same}

-- what was paid for a customer at the warehouse of a number, and in all
abbrev pub paid_at : Database → Customer → ℕ → ℤ
paid_at database customer number = paid_amount (payments_by customer (rows_of number database).history)

abbrev pub paid_for : Database → Customer → ℤ
paid_for database customer = column_sum (paid_at database customer) (range_with_len 1 (length database.warehouses))

-- which is the customer's sum
abbrev pub HasPaid : Database → Customer → Type 0
HasPaid database row = row.ytd_payment ≡ paid_for database row

-- of each customer; and each payment stands where it was made
pub record IsPaid (database : Database) : Type 0 where
  pub history : (number : ℕ) → IsTrue (is_there database number)
      → All (λ row. row.warehouse ≡ number) (rows_of number database).history
  pub paid : (number : ℕ) → IsTrue (is_there database number)
      → All (HasPaid database) (rows_of number database).customers

-- a number behind the first is there
pub there-numbered : (database : Database) (number : ℕ) → IsNumbered 1 (length database.warehouses) number
    → IsTrue (is_there database number)
there-numbered database number is =
    IsBetween-bounds 1 (length database.warehouses) number is.low (omega (arith, is.high))

pub numbered-there : (database : Database) (number : ℕ) → IsTrue (is_there database number)
    → IsNumbered 1 (length database.warehouses) number
numbered-there database number there =
    let ends = bounds 1 (length database.warehouses) number there in
    record { low = ends.0; high = omega (arith, ends.1) }

-- ---- what a part of a command does to payments

-- what a command pays for a customer
abbrev cents_for : Command → Customer → ℤ
cents_for (commands.Payment payment) customer =
    cond (is_customer payment.customer_warehouse payment.customer_district (number_in payment.who) customer)
    (pos payment.amount) (pos 0)
cents_for command customer = pos 0

-- a payment adds its row at home, and changes its customer at the customer's warehouse
payment-history : (number : ℕ) (edition : Edition) (payment : Payment) (tables : Tables)
    → (payment_part number edition payment tables).history
    ≡ cond (payment.warehouse == number) (tables.history ++ history_row payment (number_in payment.who) tables ∷ [])
    tables.history
payment-history number edition payment tables =
    let customer : ℕ = number_in payment.who in
    elim (payment.customer_warehouse == number) as (λ b.
    (cond b
    (paid_by edition payment customer (cond (payment.warehouse == number) (paid_in payment customer tables) tables))
    (cond (payment.warehouse == number) (paid_in payment customer tables) tables)).history
    ≡ cond (payment.warehouse == number) (tables.history ++ history_row payment customer tables ∷ []) tables.history) [
      | true ↦ by (payment.warehouse == number)
      | false ↦ by (payment.warehouse == number)
    ]
  where
    by : (home : Bool) → (cond home (paid_in payment (number_in payment.who) tables) tables).history
        ≡ cond home (tables.history ++ history_row payment (number_in payment.who) tables ∷ []) tables.history
    by true = refl
    by false = refl

payment-customers : (number : ℕ) (edition : Edition) (payment : Payment) (tables : Tables)
    → (payment_part number edition payment tables).customers
    ≡ cond (payment.customer_warehouse == number)
    (with_changed (is_customer payment.customer_warehouse payment.customer_district (number_in payment.who))
    (customer_paid edition payment) tables.customers) tables.customers
payment-customers number edition payment tables =
    let customer : ℕ = number_in payment.who in
    elim (payment.warehouse == number) as (λ b.
    (cond (payment.customer_warehouse == number)
    (paid_by edition payment customer (cond b (paid_in payment customer tables) tables))
    (cond b (paid_in payment customer tables) tables)).customers
    ≡ cond (payment.customer_warehouse == number)
    (with_changed (is_customer payment.customer_warehouse payment.customer_district customer)
    (customer_paid edition payment) tables.customers) tables.customers) [
      | true ↦ by (payment.customer_warehouse == number) (paid_in payment customer tables) refl
      | false ↦ by (payment.customer_warehouse == number) tables refl
    ]
  where
    by : (own : Bool) (rows : Tables) → rows.customers ≡ tables.customers
        → (cond own (paid_by edition payment (number_in payment.who) rows) rows).customers
        ≡ cond own (with_changed (is_customer payment.customer_warehouse payment.customer_district
        (number_in payment.who)) (customer_paid edition payment) tables.customers) tables.customers
    by true rows same =
        ap (with_changed (is_customer payment.customer_warehouse payment.customer_district (number_in payment.who))
        (customer_paid edition payment)) same
    by false rows same = same

-- a delivery makes no payment, and changes other columns of customers
module _ (delivery : Delivery) where
  abbrev oldest_order : Tables → ℕ → Order
  oldest_order tables district =
      first_or (order_of [])
      (is_order delivery.warehouse district (oldest delivery.warehouse district tables)) tables.orders

  delivered-history : (districts : List ℕ) (tables : Tables)
      → (fold (delivered_in delivery) tables districts).history ≡ tables.history
  delivered-history [] tables = refl
  delivered-history (district ∷ districts) tables =
      delivered-history districts (delivered_in delivery tables district)
      ∙ elim (oldest delivery.warehouse district tables == 0) as (λ b.
      (cond b tables (with_delivered delivery (oldest_order tables district) tables)).history ≡ tables.history) [
        | true ↦ refl
        | false ↦ refl
      ]

  delivered-customers : (P : Customer → Type 0)
      → ((cents : ℤ) (row : Customer) → P row → P (customer_delivered cents row)) → (districts : List ℕ)
      (tables : Tables) → All P tables.customers → All P (fold (delivered_in delivery) tables districts).customers
  delivered-customers P keeps [] tables all = all
  delivered-customers P keeps (district ∷ districts) tables all =
      delivered-customers P keeps districts (delivered_in delivery tables district)
      (elim (oldest delivery.warehouse district tables == 0) as (λ b.
      All P (cond b tables (with_delivered delivery (oldest_order tables district) tables)).customers) [
        | true ↦ all
        | false ↦ All-with_changed P _ _ (keeps _) tables.customers all
      ])

-- a payment more
paid-more : (keep : History → Bool) (history : List History) (row : History) (counts : Bool) → keep row ≡ counts
    → paid_amount (filter keep (history ++ row ∷ []))
    ≡ paid_amount (filter keep history) +ℤ cond counts row.amount (pos 0)
paid-more keep history row counts is =
    ap paid_amount (filter-append keep history (row ∷ []))
    ∙ ap (λ b. paid_amount (filter keep history ++ cond b (row ∷ []) [])) is
    ∙ column_sum-append (λ (r : History). r.amount) (filter keep history) (cond counts (row ∷ []) [])
    ∙ by counts
  where
    by : (counts : Bool) → paid_amount (filter keep history) +ℤ paid_amount (cond counts (row ∷ []) [])
        ≡ paid_amount (filter keep history) +ℤ cond counts row.amount (pos 0)
    by true = omega (arith, ints)
    by false = refl

-- the same key, either way round
same-key : (customer : Customer) (warehouse district number : ℕ)
    → ((warehouse == customer.warehouse) && (district == customer.district) && (number == customer.id))
    ≡ is_customer warehouse district number customer
same-key customer warehouse district number = grind (arith, nat_tests)

-- what was paid for a customer in a warehouse grows at the command's home, by what it pays for the customer
module _ (items : List Item) (number : ℕ) (edition : Edition) (customer : Customer) where
  abbrev paid_here : Tables → ℤ
  paid_here tables = paid_amount (payments_by customer tables.history)

  abbrev PaysHere : Command → Tables → Type 0
  PaysHere command tables =
      paid_here (part items number edition command tables)
      ≡ paid_here tables +ℤ cond (home_of command == number) (cents_for command customer) (pos 0)

  nothing : (home : Bool) (sum : ℤ) → sum ≡ sum +ℤ cond home (pos 0) (pos 0)
  nothing true sum = omega (arith, ints)
  nothing false sum = omega (arith, ints)

  part-pays : (command : Command) (tables : Tables) → PaysHere command tables
  part-pays (commands.NewOrder order) tables =
      elim (order.warehouse == number) as (λ b. paid_here (cond b (ordered items order tables) tables)
      ≡ paid_here tables +ℤ cond b (pos 0) (pos 0)) [
        | true ↦ omega (arith, ints)
        | false ↦ omega (arith, ints)
      ]
  part-pays (commands.Payment payment) tables =
      let row : History = history_row payment (number_in payment.who) tables in
      let counts : is_payment_by customer row
      ≡ is_customer payment.customer_warehouse payment.customer_district (number_in payment.who) customer =
      same-key customer payment.customer_warehouse payment.customer_district (number_in payment.who) in
      ap (λ history. paid_amount (payments_by customer history)) (payment-history number edition payment tables)
      ∙ elim (payment.warehouse == number) as (λ b.
      paid_amount (payments_by customer (cond b (tables.history ++ row ∷ []) tables.history))
      ≡ paid_here tables +ℤ cond b (cents_for (commands.Payment payment) customer) (pos 0)) [
        | true ↦ paid-more (is_payment_by customer) tables.history row _ counts
        | false ↦ omega (arith, ints)
      ]
  part-pays (commands.OrderStatus status) tables = nothing (status.warehouse == number) (paid_here tables)
  part-pays (commands.Delivery delivery) tables =
      elim (delivery.warehouse == number) as (λ b. paid_here (cond b (delivered delivery tables) tables)
      ≡ paid_here tables +ℤ cond b (pos 0) (pos 0)) [
        | true ↦
            ap (λ history. paid_amount (payments_by customer history))
            (delivered-history delivery district_numbers tables)
            ∙ nothing true (paid_here tables)
        | false ↦ nothing false (paid_here tables)
      ]
  part-pays (commands.StockLevel level) tables = nothing (level.warehouse == number) (paid_here tables)

-- each payment stands where it was made
part-history : (items : List Item) (number : ℕ) (edition : Edition) (command : Command) (tables : Tables)
    → All (λ row. row.warehouse ≡ number) tables.history
    → All (λ row. row.warehouse ≡ number) (part items number edition command tables).history
part-history items number edition (commands.NewOrder order) tables own =
    elim (order.warehouse == number) as (λ b.
    All (λ row. row.warehouse ≡ number) (cond b (ordered items order tables) tables).history) [
      | true ↦ own
      | false ↦ own
    ]
part-history items number edition (commands.Payment payment) tables own =
    let row : History = history_row payment (number_in payment.who) tables in
    subst (All (λ (row : History). row.warehouse ≡ number)) (sym (payment-history number edition payment tables))
    (elim (payment.warehouse == number) as (λ b. (payment.warehouse == number) ≡ b
    → All (λ row. row.warehouse ≡ number) (cond b (tables.history ++ row ∷ []) tables.history)) [
      | true ↦ λ home.
          All-push (λ row. row.warehouse ≡ number) tables.history row own (eqb-true payment.warehouse number home)
      | false ↦ λ other. own
    ] refl)
part-history items number edition (commands.OrderStatus status) tables own = own
part-history items number edition (commands.Delivery delivery) tables own =
    elim (delivery.warehouse == number) as (λ b.
    All (λ row. row.warehouse ≡ number) (cond b (delivered delivery tables) tables).history) [
      | true ↦
          subst (All (λ (row : History). row.warehouse ≡ number))
          (sym (delivered-history delivery district_numbers tables)) own
      | false ↦ own
    ]
part-history items number edition (commands.StockLevel level) tables own = own

-- ---- what it does to customers

module _ (database after : Database) (command : Command)
    (grown : (row : Customer) → paid_for after row ≡ paid_for database row +ℤ cents_for command row) where
  -- where nothing is paid for a customer
  unpaid : (row : Customer) → cents_for command row ≡ pos 0 → HasPaid database row → HasPaid after row
  unpaid row none before = omega (arith, ints, grown row, none, before)

-- the customers of a warehouse have what was paid for them, after the part of a command too
module _ (items : List Item) (number : ℕ) (edition : Edition) (tables : Tables) (rows : IsOneWarehouse number tables)
    (database after : Database) where
  part-customers : (command : Command)
      → ((row : Customer) → paid_for after row ≡ paid_for database row +ℤ cents_for command row)
      → All (HasPaid database) tables.customers
      → All (HasPaid after) (part items number edition command tables).customers
  part-customers (commands.NewOrder order) grown all =
      let paid = All-weaker (HasPaid database) (HasPaid after)
      (λ row before. unpaid database after (commands.NewOrder order) grown row refl before) tables.customers all in
      elim (order.warehouse == number) as (λ b.
      All (HasPaid after) (cond b (ordered items order tables) tables).customers) [
        | true ↦ paid
        | false ↦ paid
      ]
  part-customers (commands.Payment payment) grown all =
      let payer : Customer → Bool =
      is_customer payment.customer_warehouse payment.customer_district (number_in payment.who) in
      subst (All (HasPaid after)) (sym (payment-customers number edition payment tables))
      (elim (payment.customer_warehouse == number) as (λ b. (payment.customer_warehouse == number) ≡ b
      → All (HasPaid after)
      (cond b (with_changed payer (customer_paid edition payment) tables.customers) tables.customers)) [
        | true ↦ λ own.
            All-changed_once (HasPaid database) (HasPaid after)
            payer (customer_paid edition payment) tables.customers
            (once-customer payment.customer_warehouse payment.customer_district (number_in payment.who) tables.customers
            rows.unique)
            (λ row passes found before.
            let cents : cents_for (commands.Payment payment) row ≡ pos payment.amount =
            ap (λ b. cond b (pos payment.amount) (pos 0)) passes in
            omega (arith, ints, grown row, cents, before))
            (λ row fails before.
            unpaid database after (commands.Payment payment) grown row
            (ap (λ b. cond b (pos payment.amount) (pos 0)) fails) before) all
        | false ↦ λ other.
            All-of_both (HasPaid database) (λ row. row.warehouse ≡ number)
            (HasPaid after) tables.customers
            (λ row before home.
            let fails : payer row ≡ false = grind (arith, nat_tests, other, home) in
            unpaid database after (commands.Payment payment) grown row
            (ap (λ b. cond b (pos payment.amount) (pos 0)) fails) before) all rows.customers
      ] refl)
  part-customers (commands.OrderStatus status) grown all =
      All-weaker (HasPaid database) (HasPaid after)
      (λ row before. unpaid database after (commands.OrderStatus status) grown row refl before) tables.customers all
  part-customers (commands.Delivery delivery) grown all =
      let paid = All-weaker (HasPaid database) (HasPaid after)
      (λ row before. unpaid database after (commands.Delivery delivery) grown row refl before) tables.customers all in
      elim (delivery.warehouse == number) as (λ b.
      All (HasPaid after) (cond b (delivered delivery tables) tables).customers) [
        | true ↦
            delivered-customers delivery (HasPaid after) (λ cents row same. same)
            district_numbers tables paid
        | false ↦ paid
      ]
  part-customers (commands.StockLevel level) grown all =
      All-weaker (HasPaid database) (HasPaid after)
      (λ row before. unpaid database after (commands.StockLevel level) grown row refl before) tables.customers all

-- ---- commits

module _ (database after : Database) (edition : Edition) (command : Command)
    (does : Does database after None edition command) where
  -- in all warehouses together, what was paid for a customer grows by what the command pays
  total-grows : (customer : Customer)
      → paid_for after customer ≡ paid_for database customer +ℤ cents_for command customer
  total-grows customer =
      let count : ℕ = length database.warehouses in
      ap (λ n. column_sum (paid_at after customer) (range_with_len 1 n)) does.count
      ∙ sum-grows (paid_at after customer) (paid_at database customer) (home_of command)
      (cents_for command customer) 1 count
      (numbered-there database (home_of command) (does.home refl))
      (λ number is.
      ap (λ (tables : Tables). paid_amount (payments_by customer tables.history))
      (does.rows number (there-numbered database number is))
      ∙ part-pays database.items number edition customer command (rows_of number database))

-- where nothing is done, nothing is paid
module _ (database after : Database) (why : Refusal) (edition : Edition) (command : Command)
    (does : Does database after (Some why) edition command) where
  total-same : (customer : Customer) → paid_for after customer ≡ paid_for database customer
  total-same customer =
      ap (λ n. column_sum (paid_at after customer) (range_with_len 1 n)) does.count
      ∙ sum-same (paid_at after customer) (paid_at database customer) 1 (length database.warehouses)
      (λ number is. ap (λ (tables : Tables). paid_amount (payments_by customer tables.history))
      (does.rows number (there-numbered database number is)))

pub paid-does : (database after : Database) (refusal : Option Refusal) (edition : Edition) (command : Command)
    → Does database after refusal edition command
    → ((number : ℕ) → IsTrue (is_there database number) → IsOneWarehouse number (rows_of number database))
    → IsPaid database → IsPaid after
paid-does database after (Some why) edition command does whole paid =
    let back : (number : ℕ) → IsTrue (is_there after number) → IsTrue (is_there database number) =
    λ number there. subst (λ n. IsBetween 1 n number) does.count there in
    record {
      history = λ number there.
          subst (λ (tables : Tables). All (λ row. row.warehouse ≡ number) tables.history)
          (sym (does.rows number (back number there))) (paid.history number (back number there));
      paid = λ number there.
          subst (λ (tables : Tables). All (HasPaid after) tables.customers)
          (sym (does.rows number (back number there)))
          (All-weaker (HasPaid database) (HasPaid after)
          (λ row before. before ∙ sym (total-same database after why edition command does row)) _
          (paid.paid number (back number there)));
    }
paid-does database after None edition command does whole paid =
    let back : (number : ℕ) → IsTrue (is_there after number) → IsTrue (is_there database number) =
    λ number there. subst (λ n. IsBetween 1 n number) does.count there in
    record {
      history = λ number there.
          subst (λ (tables : Tables). All (λ row. row.warehouse ≡ number) tables.history)
          (sym (does.rows number (back number there)))
          (part-history database.items number edition command (rows_of number database)
          (paid.history number (back number there)));
      paid = λ number there.
          subst (λ (tables : Tables). All (HasPaid after) tables.customers)
          (sym (does.rows number (back number there)))
          (part-customers database.items number edition (rows_of number database) (whole number (back number there))
          database after command (total-grows database after edition command does)
          (paid.paid number (back number there)));
    }
