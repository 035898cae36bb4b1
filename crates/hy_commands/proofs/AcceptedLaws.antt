-- What is known of a command that isn't refused.
use Rattle.std.proofs.Common.{◌≡◌, ℕ, ◌==◌, ◌&&◌, ◌||◌, inl, inr, Bool, true, false, cond, not, List, [], ◌∷◌, ◌++◌, length, Option, Some, None, refl, sym, ap, ◌∙◌}
use Rattle.std.specs.Prelude.{All, fold}
use Rattle.std.specs.List.{list_all, list_any}
use Rattle.std.specs.Option.{option_or}
use Rattle.std.proofs.lemmas.Bool.{and_parts, eqb-true, or_cases}
use Rattle.std.proofs.lemmas.List.Elements.{All-cons, All-nil, All-weaker}
use Rattle.std.proofs.lemmas.List.Folds.{list_all-append}
use Rattle.hy_rows.specs.Ranges.{IsBetween, is_between}
use Rattle.hy_rows.specs.Tables.{Tables}
use Rattle.hy_rows.specs.declared.item.Item.{Item}
use Rattle.hy_schema.specs.declared.refusal.Refusal.{Refusal}
use Rattle.hy_commands.specs.declared.command.Command.{Command}
use Rattle.hy_commands.specs.declared.command.Command.TheVariants as commands
use Rattle.hy_commands.specs.declared.command.Delivery.{Delivery}
use Rattle.hy_commands.specs.declared.command.Payment.{Payment}
use Rattle.hy_commands.specs.declared.command.Purchase.{Purchase}
use Rattle.hy_commands.specs.declared.command.PurchaseLine.{PurchaseLine}
use Rattle.hy_commands.specs.Commands.{customer_home_of, has_districts, is_in_range, is_line_in_range, is_moment, is_who, refusal_of_numbers, warehouses_of, with_named}
use Rattle.hy_commands.specs.Parts.{Database, is_there, refusal_in, rows_of}
use Rattle.hy_commands.specs.Transactions.{begin_refusal_of, has_customer, has_items, refusal_of}

-- one test of a chain
go_on : (test : Bool) (why : Refusal) (later : Option Refusal) → cond (not test) (Some why) later ≡ None
    → (test ≡ true) × (later ≡ None)
go_on true why later none = (refl, none)
go_on false why later none = absurd (cc)

-- one of two refusals
pub neither : (one other : Option Refusal) → option_or one other ≡ None → (one ≡ None) × (other ≡ None)
neither None other none = (refl, none)
neither (Some why) other none = absurd (cc)

-- what holds of each name on a list with one more
named-before : (test : ℕ → Bool) (named : List ℕ) (number : ℕ) → list_all test (with_named named number) ≡ true
    → list_all test named ≡ true
named-before test named number all =
    elim (list_any (λ other. other == number) named) as (λ b.
    list_all test (cond b named (named ++ number ∷ [])) ≡ true → list_all test named ≡ true) [
      | true ↦ λ same. same
      | false ↦ λ more.
          (and_parts (list_all test named) (list_all test (number ∷ []))
          (sym (list_all-append test named (number ∷ [])) ∙ more)).0
    ] all

named-lines : (test : ℕ → Bool) (lines : List PurchaseLine) (named : List ℕ)
    → list_all test (fold (λ named (line : PurchaseLine). with_named named line.supply_warehouse) named lines) ≡ true
    → list_all test named ≡ true
named-lines test [] named all = all
named-lines test (line ∷ lines) named all =
    named-before test named line.supply_warehouse
    (named-lines test lines (with_named named line.supply_warehouse) all)

-- what holds of each name holds of the one that is put behind, and of the supplier of each line
named-last : (test : ℕ → Bool) (named : List ℕ) (one : ℕ) → list_all test (with_named named one) ≡ true
    → test one ≡ true
named-last test named one all =
    elim (list_any (λ other. other == one) named) as (λ b. list_any (λ other. other == one) named ≡ b
    → list_all test (cond b named (named ++ one ∷ [])) ≡ true → test one ≡ true) [
      | true ↦ λ there all. among named there all
      | false ↦ λ new all.
          let last = (and_parts (list_all test named) (list_all test (one ∷ []))
          (sym (list_all-append test named (one ∷ [])) ∙ all)).1 in
          (and_parts (test one) true last).0
    ] refl all
  where
    among : (named : List ℕ) → list_any (λ other. other == one) named ≡ true → list_all test named ≡ true
        → test one ≡ true
    among [] there all = absurd (cc)
    among (other ∷ named) there all =
        let both = and_parts (test other) (list_all test named) all in
        elim (or_cases (other == one) (list_any (λ other. other == one) named) there) [
          | inl here ↦ ap test (sym (eqb-true other one here)) ∙ both.0
          | inr later ↦ among named later both.1
        ]

pub named-suppliers : (test : ℕ → Bool) (lines : List PurchaseLine) (named : List ℕ)
    → list_all test (fold (λ named (line : PurchaseLine). with_named named line.supply_warehouse) named lines) ≡ true
    → All (λ line. test line.supply_warehouse ≡ true) lines
named-suppliers test [] named all = All-nil (λ line. test line.supply_warehouse ≡ true)
named-suppliers test (line ∷ lines) named all =
    All-cons (λ line. test line.supply_warehouse ≡ true) line lines
    (named-last test named line.supply_warehouse
    (named-lines test lines (with_named named line.supply_warehouse) all))
    (named-suppliers test lines (with_named named line.supply_warehouse) all)

-- the home warehouse is the one that acts, and so is that of a payment's customer
home-purchase : (number : ℕ) (order : Purchase)
    → list_all (λ named. named == number) (warehouses_of (commands.NewOrder order)) ≡ true → order.warehouse ≡ number
home-purchase number order all =
    let first = named-lines (λ named. named == number) order.lines (order.warehouse ∷ []) all in
    eqb-true order.warehouse number (and_parts _ _ first).0

home-payment : (number : ℕ) (payment : Payment)
    → list_all (λ named. named == number) (warehouses_of (commands.Payment payment)) ≡ true
    → (payment.warehouse ≡ number) × (payment.customer_warehouse ≡ number)
home-payment number payment all =
    let home : payment.warehouse ≡ number = eqb-true payment.warehouse number
    (and_parts _ _ (named-before (λ named. named == number) (payment.warehouse ∷ []) payment.customer_warehouse
    all)).0 in
    elim (payment.warehouse == payment.customer_warehouse) as (λ b. (payment.warehouse == payment.customer_warehouse)
    ≡ b
    → list_all (λ named. named == number)
    (cond (b || false) (payment.warehouse ∷ []) ((payment.warehouse ∷ []) ++ payment.customer_warehouse ∷ [])) ≡ true
    → (payment.warehouse ≡ number) × (payment.customer_warehouse ≡ number)) [
      | true ↦ λ same named. (home, sym (eqb-true payment.warehouse payment.customer_warehouse same) ∙ home)
      | false ↦ λ other named. (
        home,
        eqb-true payment.customer_warehouse number (and_parts _ _ (and_parts (payment.warehouse == number) _
            named).1).0,
      )
    ] refl all

-- what a command has passed that its numbers don't refuse
pub record PassesNumbers (is_there : ℕ → Bool) (command : Command) : Type 0 where
  pub in_range : is_in_range command ≡ true
  pub named : list_all is_there (warehouses_of command) ≡ true
  pub districts : has_districts command ≡ true

pub passed-numbers : (is_there : ℕ → Bool) (command : Command) → refusal_of_numbers is_there command ≡ None
    → PassesNumbers is_there command
passed-numbers is_there command none =
    let first = go_on (is_in_range command) _ _ none in
    let second = go_on (list_all is_there (warehouses_of command)) _ _ first.1 in
    let third = go_on (has_districts command) _ _ second.1 in
    record { in_range = first.0; named = second.0; districts = third.0 }

-- a command that a warehouse begins names no other
pub begun : (number : ℕ) (command : Command) (tables : Tables) → begin_refusal_of number command tables ≡ None
    → list_all (λ named. named == number) (warehouses_of command) ≡ true
begun number command tables none =
    (passed-numbers (λ named. named == number) command
    (neither (refusal_of_numbers (λ named. named == number) command) _ none).0).named

-- what a command that isn't refused has passed
pub record IsAccepted (items : List Item) (number : ℕ) (command : Command) (tables : Tables) : Type 0 where
  pub in_range : is_in_range command ≡ true
  pub named : list_all (λ named. named == number) (warehouses_of command) ≡ true
  pub districts : has_districts command ≡ true
  pub customer : has_customer command tables ≡ true
  pub known : has_items items command ≡ true

pub accepted-not_refused : (items : List Item) (number : ℕ) (command : Command) (tables : Tables)
    → refusal_of items number command tables ≡ None → IsAccepted items number command tables
accepted-not_refused items number command tables none =
    let both = neither (begin_refusal_of number command tables) _ none in
    let begins = neither (refusal_of_numbers (λ named. named == number) command) _ both.0 in
    let numbers = passed-numbers (λ named. named == number) command begins.0 in
    record {
      in_range = numbers.in_range;
      named = numbers.named;
      districts = numbers.districts;
      customer = last (has_customer command tables) _ begins.1;
      known = last (has_items items command) _ both.1;
    }
  where
    last : (test : Bool) (why : Refusal) → cond test None (Some why) ≡ None → test ≡ true
    last true why none = refl
    last false why none = absurd (cc)

-- what a purchase at a home warehouse has passed
pub record IsAcceptedPurchase (number : ℕ) (order : Purchase) : Type 0 where
  pub home : order.warehouse ≡ number
  pub district : IsBetween 1 10 order.district
  pub count : IsBetween 5 15 (length order.lines)
  pub in_range : list_all is_line_in_range order.lines ≡ true
  pub moment : IsBetween 1 1_000_000_000_000_000 order.at

pub purchase-in_range : (number : ℕ) (order : Purchase) → order.warehouse ≡ number
    → is_in_range (commands.NewOrder order) ≡ true → has_districts (commands.NewOrder order) ≡ true
    → IsAcceptedPurchase number order
purchase-in_range number order home in_range districts =
    let parts = and_parts (is_between 5 15 (length order.lines) && list_all is_line_in_range order.lines) (is_moment
    order.at) in_range in
    let lines = and_parts (is_between 5 15 (length order.lines)) (list_all is_line_in_range order.lines) parts.0 in
    record {
      home = home;
      district = districts;
      count = lines.0;
      in_range = lines.1;
      moment = parts.1;
    }

pub accepted-purchase : (items : List Item) (number : ℕ) (order : Purchase) (tables : Tables)
    → IsAccepted items number (commands.NewOrder order) tables → IsAcceptedPurchase number order
accepted-purchase items number order tables accepted =
    purchase-in_range number order (home-purchase number order accepted.named) accepted.in_range accepted.districts

-- the home warehouse supplies all lines of a purchase that names no other
pub own-suppliers : (number : ℕ) (order : Purchase)
    → list_all (λ named. named == number) (warehouses_of (commands.NewOrder order)) ≡ true
    → All (λ line. line.supply_warehouse ≡ number) order.lines
own-suppliers number order named =
    All-weaker (λ (line : PurchaseLine). (line.supply_warehouse == number) ≡ true)
    (λ (line : PurchaseLine). line.supply_warehouse ≡ number)
    (λ line passes. eqb-true line.supply_warehouse number passes) order.lines
    (named-suppliers (λ named. named == number) order.lines (order.warehouse ∷ []) named)

-- what a payment at a home warehouse has passed
pub record IsAcceptedPayment (number : ℕ) (payment : Payment) : Type 0 where
  pub amount : IsBetween 100 500_000 payment.amount
  pub moment : IsBetween 1 1_000_000_000_000_000 payment.at
  pub home : payment.warehouse ≡ number
  pub district : IsBetween 1 10 payment.district

pub payment-in_range : (number : ℕ) (payment : Payment) → payment.warehouse ≡ number
    → is_in_range (commands.Payment payment) ≡ true → has_districts (commands.Payment payment) ≡ true
    → IsAcceptedPayment number payment
payment-in_range number payment home in_range districts =
    let parts = and_parts (is_between 100 500_000 payment.amount && is_moment payment.at) (is_who payment.who)
    in_range in
    let numbers = and_parts (is_between 100 500_000 payment.amount) (is_moment payment.at) parts.0 in
    record {
      amount = numbers.0;
      moment = numbers.1;
      home = home;
      district = (and_parts _ _ districts).0;
    }

pub accepted-payment : (items : List Item) (number : ℕ) (payment : Payment) (tables : Tables)
    → IsAccepted items number (commands.Payment payment) tables → IsAcceptedPayment number payment
accepted-payment items number payment tables accepted =
    payment-in_range number payment (home-payment number payment accepted.named).0 accepted.in_range accepted.districts

-- the customer of a payment that names no other warehouse is one of it
pub own-payer : (number : ℕ) (payment : Payment)
    → list_all (λ named. named == number) (warehouses_of (commands.Payment payment)) ≡ true
    → payment.customer_warehouse ≡ number
own-payer number payment named = (home-payment number payment named).1

-- the warehouses that a payment names pass what each named one passes
pub named-payment : (test : ℕ → Bool) (payment : Payment)
    → list_all test (warehouses_of (commands.Payment payment)) ≡ true
    → (test payment.warehouse ≡ true) × (test payment.customer_warehouse ≡ true)
named-payment test payment all = (
  (and_parts _ _ (named-before test (payment.warehouse ∷ []) payment.customer_warehouse all)).0,
  named-last test (payment.warehouse ∷ []) payment.customer_warehouse all,
)

-- and so does the home of a purchase, and the supplier of each line
pub named-purchase : (test : ℕ → Bool) (order : Purchase)
    → list_all test (warehouses_of (commands.NewOrder order)) ≡ true
    → (test order.warehouse ≡ true) × All (λ line. test line.supply_warehouse ≡ true) order.lines
named-purchase test order all = (
  (and_parts _ _ (named-lines test order.lines (order.warehouse ∷ []) all)).0,
  named-suppliers test order.lines (order.warehouse ∷ []) all,
)

pub record IsAcceptedDelivery (number : ℕ) (delivery : Delivery) : Type 0 where
  pub home : delivery.warehouse ≡ number
  pub carrier : IsBetween 1 10 delivery.carrier
  pub moment : IsBetween 1 1_000_000_000_000_000 delivery.at

pub delivery-in_range : (number : ℕ) (delivery : Delivery) → delivery.warehouse ≡ number
    → is_in_range (commands.Delivery delivery) ≡ true → IsAcceptedDelivery number delivery
delivery-in_range number delivery home in_range =
    let range = and_parts _ _ in_range in
    record { home = home; carrier = range.0; moment = range.1 }

pub accepted-delivery : (items : List Item) (number : ℕ) (delivery : Delivery) (tables : Tables)
    → IsAccepted items number (commands.Delivery delivery) tables → IsAcceptedDelivery number delivery
accepted-delivery items number delivery tables accepted =
    delivery-in_range number delivery (eqb-true delivery.warehouse number (and_parts _ _ accepted.named).0)
    accepted.in_range

-- ---- databases

-- what a command that a database doesn't refuse has passed
pub record IsAcceptedIn (database : Database) (command : Command) : Type 0 where
  pub in_range : is_in_range command ≡ true
  pub named : list_all (is_there database) (warehouses_of command) ≡ true
  pub districts : has_districts command ≡ true
  pub customer : has_customer command (rows_of (customer_home_of command) database) ≡ true
  pub known : has_items database.items command ≡ true

pub accepted-in : (database : Database) (command : Command) → refusal_in database command ≡ None
    → IsAcceptedIn database command
accepted-in database command none =
    let both = neither (refusal_of_numbers (is_there database) command) _ none in
    let numbers = passed-numbers (is_there database) command both.0 in
    let customer = go_on (has_customer command (rows_of (customer_home_of command) database)) _ _ both.1 in
    let items = go_on (has_items database.items command) _ _ customer.1 in
    record {
      in_range = numbers.in_range;
      named = numbers.named;
      districts = numbers.districts;
      customer = customer.0;
      known = items.0;
    }
