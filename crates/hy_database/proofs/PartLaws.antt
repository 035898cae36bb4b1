-- The part of a command changes nothing at a warehouse that the command doesn't name. What an accepted command does to
-- the one warehouse that it names is its part there; and a command may name the customer who pays by number.
use Rattle.std.proofs.Common.{◌≡◌, ℕ, zero, suc, ◌==◌, ◌&&◌, Bool, true, false, cond, not, List, [], ◌∷◌, filter, Option, Some, None, is_some, unwrap_or, refl, sym, ap, subst, ◌∙◌}
use Rattle.std.specs.Prelude.{All, IfSome, slice_get}
use Rattle.std.specs.List.{find, list_all, list_any}
use Rattle.std.proofs.lemmas.Bool.{and_from, and_parts, both_ways, eq-eqb, not-true, or_left, or_parts, or_right}
use Rattle.std.proofs.lemmas.List.Elements.{All-cons, All-head, All-nil, All-tail, All-weaker}
use Rattle.hy_rows.specs.Finding.{is_customer}
use Rattle.hy_rows.specs.Rows.{customer_of}
use Rattle.hy_rows.specs.Tables.{Tables}
use Rattle.hy_rows.specs.declared.customer.Customer.{Customer}
use Rattle.hy_rows.specs.declared.item.Item.{Item}
use Rattle.hy_schema.proofs.ChangedLists.{All-passing_also}
use Rattle.hy_schema.specs.declared.refusal.Refusal.{Refusal}
use Rattle.hy_commands.specs.declared.command.Command.{Command}
use Rattle.hy_commands.specs.declared.command.Command.TheVariants as commands
use Rattle.hy_commands.specs.declared.command.Payment.{Payment}
use Rattle.hy_commands.specs.declared.command.PurchaseLine.{PurchaseLine}
use Rattle.hy_commands.specs.declared.command.Who.{Who}
use Rattle.hy_commands.specs.declared.command.Who.TheVariants as who
use Rattle.hy_commands.specs.declared.edition.Edition.{Edition}
use Rattle.hy_commands.specs.declared.edition.Edition.TheVariants as editions
use Rattle.hy_commands.specs.Commands.{home_of, is_in_range, is_reader, warehouses_of}
use Rattle.hy_commands.specs.declared.reply.Reply.TheVariants as replies
use Rattle.hy_commands.specs.Customers.{customer_meant, is_earlier, is_named}
use Rattle.hy_commands.specs.Parts.{by_number, part, payer_number}
use Rattle.hy_commands.specs.inside.Kinds.{NobodyPays, by_payment}
use Rattle.hy_commands.specs.Payments.{paid_by, paid_in}
use Rattle.hy_commands.specs.Sorting.{inserted, sorted}
use Rattle.hy_commands.specs.Transactions.{accepted, act, has_customer, outcome_of, payer, refusal_of}
use Rattle.hy_commands.proofs.AcceptedLaws.{IsAccepted, accepted-delivery, accepted-payment, accepted-purchase, named-payment, named-purchase, own-payer}
use Rattle.hy_commands.proofs.ListLaws.{filter-none, find-passes, found-any}
use Rattle.hy_commands.proofs.NamedLaws.{first-named, named-accepted, named-home}
use Rattle.hy_commands.proofs.OnceLaws.{tells-three}

-- ---- a warehouse that a command doesn't name

-- where none passes, all fail
all-fail : {Row : Type 0} (test : Row → Bool) (rows : List Row) → list_any test rows ≡ false
    → list_all (λ row. not (test row)) rows ≡ true
all-fail test [] none = refl
all-fail test (row ∷ rows) none =
    let parts = or_parts (test row) (list_any test rows) none in
    rw (parts.0) (all-fail test rows parts.1)

abbrev is_apart : ℕ → ℕ → Bool
is_apart number named = not (named == number)

-- a warehouse that isn't named isn't the home
pub unnamed-home : (number : ℕ) (command : Command)
    → list_any (λ named. named == number) (warehouses_of command) ≡ false → (home_of command == number) ≡ false
unnamed-home number command unnamed =
    not-true (home_of command == number)
    (named-home (is_apart number) command (all-fail (λ named. named == number) (warehouses_of command) unnamed))

-- the part of a command changes nothing there
pub part-unnamed : (items : List Item) (number : ℕ) (edition : Edition) (command : Command) (tables : Tables)
    → list_any (λ named. named == number) (warehouses_of command) ≡ false
    → part items number edition command tables ≡ tables
part-unnamed items number edition (commands.NewOrder order) tables unnamed =
    let all = all-fail (λ named. named == number) (warehouses_of (commands.NewOrder order)) unnamed in
    let apart = named-purchase (is_apart number) order all in
    let none : filter (λ line. line.supply_warehouse == number) order.lines ≡ [] =
    filter-none (λ (line : PurchaseLine). line.supply_warehouse == number) order.lines
    (All-weaker (λ (line : PurchaseLine). is_apart number line.supply_warehouse ≡ true)
    (λ (line : PurchaseLine). (line.supply_warehouse == number) ≡ false)
    (λ line apart. not-true (line.supply_warehouse == number) apart) order.lines apart.1) in
    rw (not-true (order.warehouse == number) apart.0, none) refl
part-unnamed items number edition (commands.Payment payment) tables unnamed =
    let all = all-fail (λ named. named == number) (warehouses_of (commands.Payment payment)) unnamed in
    let apart = named-payment (is_apart number) payment all in
    rw (not-true (payment.warehouse == number) apart.0, not-true (payment.customer_warehouse == number) apart.1) refl
part-unnamed items number edition (commands.OrderStatus status) tables unnamed = refl
part-unnamed items number edition (commands.Delivery delivery) tables unnamed =
    rw (unnamed-home number (commands.Delivery delivery) unnamed) refl
part-unnamed items number edition (commands.StockLevel level) tables unnamed = refl

-- ---- a command that names one warehouse

-- the home of an accepted command is the warehouse that accepts it
pub home-accepted : (items : List Item) (number : ℕ) (command : Command) (tables : Tables)
    → refusal_of items number command tables ≡ None → home_of command ≡ number
home-accepted items number command tables none =
    let first = first-named command in
    let same : home_of command ∷ first.0 ≡ number ∷ [] =
    sym first.1 ∙ named-accepted items number command tables none in
    cc

-- a warehouse that isn't the home refuses a command
pub act-elsewhere : (items : List Item) (number : ℕ) (edition : Edition) (command : Command) (tables : Tables)
    → (home_of command == number) ≡ false → (act items number edition command tables).tables ≡ tables
act-elsewhere items number edition command tables other = by (refusal_of items number command tables) refl
  where
    by : (refusal : Option Refusal) → refusal_of items number command tables ≡ refusal
        → (outcome_of refusal items number edition command tables).tables ≡ tables
    by (Some why) is = refl
    by None is = absurd (both_ways (home_of command == number) other
        (eq-eqb (home_of command) number (home-accepted items number command tables is)))

-- ---- the customer who pays, by number

-- rows in order are rows
pub All-sorted : {Row : Type 0} (P : Row → Type 0) (less : Row → Row → Bool) (rows : List Row) → All P rows
    → All P (sorted less rows)
All-sorted P less [] all = All-nil P
All-sorted {Row = Row} P less (row ∷ rows) all =
    put row (sorted less rows) (All-head P row rows all) (All-sorted P less rows (All-tail P row rows all))
  where
    put : (new : Row) (rows : List Row) → P new → All P rows → All P (inserted less new rows)
    put new [] fits all = All-cons P new [] fits all
    put new (row ∷ rows) fits all =
        elim (less new row) as (λ b. All P (cond b (new ∷ row ∷ rows) (row ∷ inserted less new rows))) [
          | true ↦ All-cons P new (row ∷ rows) fits all
          | false ↦ All-cons P row (inserted less new rows) (All-head P row rows all)
              (put new rows fits (All-tail P row rows all))
        ]

-- what holds of all rows holds of one that is there
pub All-some : {Row : Type 0} (P : Row → Type 0) (rows : List Row) (place : ℕ) → All P rows
    → IfSome (slice_get rows place) P
All-some P [] place all = tt
All-some P (row ∷ rows) zero all = All-head P row rows all
All-some P (row ∷ rows) (suc place) all = All-some P rows place (All-tail P row rows all)

-- each row that a test tells to be itself is found by it
own-any : {Row : Type 0} (same : Row → Row → Bool) (rows : List Row)
    → All (λ row. same row row ≡ true → list_any (same row) rows ≡ true) rows
own-any same [] = All-nil (λ row. same row row ≡ true → list_any (same row) [] ≡ true)
own-any same (first ∷ rows) =
    All-cons (λ row. same row row ≡ true → list_any (same row) (first ∷ rows) ≡ true) first rows
    (λ passes. or_left (same first first) (list_any (same first) rows) passes)
    (All-weaker (λ row. same row row ≡ true → list_any (same row) rows ≡ true)
    (λ row. same row row ≡ true → list_any (same row) (first ∷ rows) ≡ true)
    (λ row found passes. or_right (same row first) (list_any (same row) rows) (found passes)) rows
    (own-any same rows))

pub some-value : {Row : Type 0} (P : Row → Type 0) (none : Row) (found : Option Row) → IfSome found P → is_some found ≡ true
    → P (unwrap_or found none)
some-value P none None holds is = absurd (cc)
some-value P none (Some row) holds is = holds

module _ (warehouse district : ℕ) (rows : List Customer) where
  abbrev chosen : Who → Customer
  chosen meant = unwrap_or (customer_meant warehouse district meant rows) (customer_of [])

  abbrev IsThere : ℕ → Type 0
  IsThere number = list_any (is_customer warehouse district number) rows ≡ true

  -- who is found by number has it
  pub number-chosen : (number : ℕ) → is_some (customer_meant warehouse district (who.Number number) rows) ≡ true
      → (chosen (who.Number number)).id ≡ number
  number-chosen number is = by (find (is_customer warehouse district number) rows) refl is
    where
      by : (found : Option Customer) → find (is_customer warehouse district number) rows ≡ found → is_some found ≡ true
          → (unwrap_or found (customer_of [])).id ≡ number
      by None finds is = absurd (cc)
      by (Some row) finds is =
          (tells-three row.warehouse row.district row.id warehouse district number
          (find-passes (is_customer warehouse district number) rows row finds)).2

  -- who is found by last name has a number
  name-chosen : (name : List ℕ) → is_some (customer_meant warehouse district (who.Last name) rows) ≡ true
      → IsThere (chosen (who.Last name)).id
  name-chosen name is =
      let own : All (λ row. is_customer warehouse district row.id row ≡ true → IsThere row.id) rows =
      own-any (λ (row : Customer) (other : Customer). is_customer warehouse district row.id other) rows in
      let known = All-passing_also (is_named warehouse district name)
      (λ row. is_customer warehouse district row.id row ≡ true → IsThere row.id) (λ row. IsThere row.id) rows
      (λ row found passes. found (itself row passes)) own in
      let called : List Customer = filter (is_named warehouse district name) rows in
      let there = All-sorted (λ row. IsThere row.id) is_earlier called known in
      some-value (λ row. IsThere row.id) (customer_of []) (customer_meant warehouse district (who.Last name) rows)
      (All-some (λ row. IsThere row.id) (sorted is_earlier called) _ there) is
    where
      itself : (row : Customer) → is_named warehouse district name row ≡ true
          → is_customer warehouse district row.id row ≡ true
      itself row passes =
          let key = (and_parts _ _ passes).0 in
          and_from ((row.warehouse == warehouse) && (row.district == district)) (row.id == row.id) key
          (eq-eqb row.id row.id refl)

  -- who is meant is found by number
  pub number-there : (meant : Who) → is_some (customer_meant warehouse district meant rows) ≡ true
      → is_some (find (is_customer warehouse district (chosen meant).id) rows) ≡ true
  number-there (who.Number number) is = rw (number-chosen number is) is
  number-there (who.Last name) is =
      found-any (is_customer warehouse district (chosen (who.Last name)).id) rows ∙ name-chosen name is

-- where nobody pays, a command with the payer's number is the command
pub same-numbered : (command : Command) → NobodyPays command → (tables : Tables) → by_number tables command ≡ command
same-numbered command nobody tables = nobody.same (payer_number tables command)

-- with the number of who pays, that customer is there
pub by_number-known : (command : Command) (tables : Tables) → has_customer command tables ≡ true
    → has_customer (by_number tables command) tables ≡ true
by_number-known command tables =
    by_payment (λ command. has_customer command tables ≡ true → has_customer (by_number tables command) tables ≡ true)
    (λ payment known.
    number-there payment.customer_warehouse payment.customer_district tables.customers payment.who known)
    (λ command nobody. subst (λ numbered. has_customer numbered tables ≡ true) (sym (same-numbered command nobody tables)))
    command

pub by_number-in_range : (command : Command) (tables : Tables) → is_in_range command ≡ true
    → is_in_range (by_number tables command) ≡ true
by_number-in_range command tables =
    by_payment (λ command. is_in_range command ≡ true → is_in_range (by_number tables command) ≡ true)
    (λ payment in_range. and_from _ true (and_parts _ _ in_range).0 refl)
    (λ command nobody. subst (λ numbered. is_in_range numbered ≡ true) (sym (same-numbered command nobody tables)))
    command

-- it names the same warehouses
pub by_number-warehouses : (command : Command) (tables : Tables)
    → warehouses_of (by_number tables command) ≡ warehouses_of command
by_number-warehouses command tables =
    by_payment (λ command. warehouses_of (by_number tables command) ≡ warehouses_of command) (λ payment. refl)
    (λ command nobody. ap warehouses_of (same-numbered command nobody tables)) command

pub by_number-home : (command : Command) (tables : Tables) → home_of (by_number tables command) ≡ home_of command
by_number-home command tables =
    by_payment (λ command. home_of (by_number tables command) ≡ home_of command) (λ payment. refl)
    (λ command nobody. ap home_of (same-numbered command nobody tables)) command

-- what a payment does to its customer doesn't depend on how it names the customer
paid_by-named : (edition : Edition) (payment : Payment) (meant : Who) (customer : ℕ) (tables : Tables)
    → paid_by edition payment customer tables ≡ paid_by edition (record payment { who = meant }) customer tables
paid_by-named editions.First payment meant customer tables = refl
paid_by-named editions.Second payment meant customer tables = refl

-- what an accepted command does to the one warehouse that it names is its part there
pub accepted-part : (items : List Item) (number : ℕ) (edition : Edition) (command : Command) (tables : Tables)
    → IsAccepted items number command tables
    → (accepted items number edition command tables).tables
    ≡ part items number edition (by_number tables command) tables
accepted-part items number edition (commands.NewOrder order) tables passed =
    let home = (accepted-purchase items number order tables passed).home in
    rw (eq-eqb order.warehouse number home) refl
accepted-part items number edition (commands.Payment payment) tables passed =
    let home = (accepted-payment items number payment tables passed).home in
    let own = own-payer number payment passed.named in
    let customer : ℕ = (payer payment tables).id in
    rw (eq-eqb payment.warehouse number home, eq-eqb payment.customer_warehouse number own)
    (paid_by-named edition payment (who.Number customer) customer (paid_in payment customer tables))
accepted-part items number edition (commands.OrderStatus status) tables passed = refl
accepted-part items number edition (commands.Delivery delivery) tables passed =
    let home = (accepted-delivery items number delivery tables passed).home in
    rw (eq-eqb delivery.warehouse number home) refl
accepted-part items number edition (commands.StockLevel level) tables passed = refl

-- a command that only reads leaves the rows as they are
pub reader-leaves : (items : List Item) (number : ℕ) (edition : Edition) (command : Command) (tables : Tables)
    → is_reader command ≡ true → (accepted items number edition command tables).tables ≡ tables
reader-leaves items number edition (commands.OrderStatus status) tables reads = refl
reader-leaves items number edition (commands.StockLevel level) tables reads = refl
reader-leaves items number edition (commands.NewOrder order) tables reads = absurd (cc)
reader-leaves items number edition (commands.Payment payment) tables reads = absurd (cc)
reader-leaves items number edition (commands.Delivery delivery) tables reads = absurd (cc)

-- no accepted command is answered as a refused one is
pub accepted-reply : (items : List Item) (number : ℕ) (edition : Edition) (command : Command) (tables : Tables) (why : Refusal)
    → (accepted items number edition command tables).reply ≡ replies.Refused why → ⊥
accepted-reply items number edition (commands.NewOrder order) tables why is = absurd (cc)
accepted-reply items number edition (commands.Payment payment) tables why is = absurd (cc)
accepted-reply items number edition (commands.OrderStatus status) tables why is = absurd (cc)
accepted-reply items number edition (commands.Delivery delivery) tables why is = absurd (cc)
accepted-reply items number edition (commands.StockLevel level) tables why is = absurd (cc)
