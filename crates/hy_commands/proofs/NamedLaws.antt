-- Which warehouses a command names, and that one which a warehouse begins names this warehouse alone.
use Rattle.std.proofs.Common.{◌≡◌, ℕ, ◌+◌, ◌≤◌, ◌==◌, ◌&&◌, ◌||◌, Bool, true, false, cond, not, List, [], ◌∷◌, ◌++◌, length, map, None, refl, sym, ap, subst, ◌∙◌, arith, length-append}
use Rattle.std.proofs.Math.Bool.{or_assoc}
use Rattle.std.specs.Prelude.{fold, nat_lt}
use Rattle.std.specs.List.{list_all, list_any}
use Rattle.std.proofs.lemmas.Bool.{and_parts, eq-eqb, eqb-false, eqb-true, false≢true, lt-ltb, ne_eqb}
use Rattle.std.proofs.lemmas.List.Folds.{list_any-append}
use Rattle.hy_rows.specs.Tables.{Tables}
use Rattle.hy_rows.specs.declared.item.Item.{Item}
use Rattle.hy_schema.specs.Keys.{AreUnique}
use Rattle.hy_commands.specs.declared.command.Command.{Command}
use Rattle.hy_commands.specs.declared.command.Command.TheVariants as commands
use Rattle.hy_commands.specs.declared.command.Payment.{Payment}
use Rattle.hy_commands.specs.declared.command.PurchaseLine.{PurchaseLine}
use Rattle.hy_commands.specs.Commands.{customer_home_of, home_of, is_reader, warehouses_of, with_named}
use Rattle.hy_commands.specs.Transactions.{begin_refusal_of, refusal_of}
use Rattle.hy_commands.specs.inside.Named.{numbers_in}
use Rattle.hy_commands.specs.inside.NamedOnce.{named_once}
use Rattle.hy_commands.proofs.AcceptedLaws.{begun, named-payment, neither}
use Rattle.hy_commands.specs.inside.Kinds.{by_payment, by_several}

-- ---- which are there

pub or-false : (b : Bool) → (b || false) ≡ b
or-false true = refl
or-false false = refl

-- a number more
pub named-with : (warehouse : ℕ) (named : List ℕ) (number : ℕ)
    → list_any (λ one. one == warehouse) (with_named named number)
    ≡ (list_any (λ one. one == warehouse) named || (number == warehouse))
named-with warehouse named number =
    elim (list_any (λ other. other == number) named) as (λ b. list_any (λ other. other == number) named ≡ b
    → list_any (λ one. one == warehouse) (cond b named (named ++ number ∷ []))
    ≡ (list_any (λ one. one == warehouse) named || (number == warehouse))) [
      | true ↦ λ there. among there
      | false ↦ λ new.
          list_any-append (λ one. one == warehouse) named (number ∷ [])
          ∙ ap (λ b. list_any (λ one. one == warehouse) named || b) (or-false (number == warehouse))
    ] refl
  where
    among : list_any (λ other. other == number) named ≡ true
        → list_any (λ one. one == warehouse) named
        ≡ (list_any (λ one. one == warehouse) named || (number == warehouse))
    among there =
        elim (number == warehouse) as (λ b. (number == warehouse) ≡ b → list_any (λ one. one == warehouse) named
        ≡ (list_any (λ one. one == warehouse) named || b)) [
          | true ↦ λ same.
              let here : list_any (λ one. one == warehouse) named ≡ true =
              subst (λ n. list_any (λ one. one == n) named ≡ true) (eqb-true number warehouse same) there in
              here ∙ sym (ap (λ b. b || true) here)
          | false ↦ λ other. sym (or-false (list_any (λ one. one == warehouse) named))
        ] refl

-- the warehouses that supply lines
named-suppliers : (warehouse : ℕ) (lines : List PurchaseLine) (named : List ℕ)
    → list_any (λ one. one == warehouse)
    (fold (λ named (line : PurchaseLine). with_named named line.supply_warehouse) named lines)
    ≡ (list_any (λ one. one == warehouse) named || list_any (λ line. line.supply_warehouse == warehouse) lines)
named-suppliers warehouse [] named = sym (or-false (list_any (λ one. one == warehouse) named))
named-suppliers warehouse (line ∷ lines) named =
    named-suppliers warehouse lines (with_named named line.supply_warehouse)
    ∙ ap (λ b. b || list_any (λ line. line.supply_warehouse == warehouse) lines)
    (named-with warehouse named line.supply_warehouse)
    ∙ or_assoc (list_any (λ one. one == warehouse) named) (line.supply_warehouse == warehouse)
    (list_any (λ line. line.supply_warehouse == warehouse) lines)

-- those of a purchase: its home, and who supplies a line
pub named-purchase : (warehouse home : ℕ) (lines : List PurchaseLine)
    → list_any (λ one. one == warehouse)
    (fold (λ named (line : PurchaseLine). with_named named line.supply_warehouse) (home ∷ []) lines)
    ≡ ((home == warehouse) || list_any (λ line. line.supply_warehouse == warehouse) lines)
named-purchase warehouse home lines =
    named-suppliers warehouse lines (home ∷ [])
    ∙ ap (λ b. b || list_any (λ line. line.supply_warehouse == warehouse) lines) (or-false (home == warehouse))

-- those of a command are the numbers that stand in it
pub named-numbers : (warehouse : ℕ) (command : Command)
    → list_any (λ number. number == warehouse) (numbers_in command)
    ≡ list_any (λ named. named == warehouse) (warehouses_of command)
named-numbers warehouse =
    by_several (λ command. list_any (λ number. number == warehouse) (numbers_in command)
    ≡ list_any (λ named. named == warehouse) (warehouses_of command))
    (λ order. ap (λ b. (order.warehouse == warehouse) || b) (supplied warehouse order.lines)
    ∙ sym (named-purchase warehouse order.warehouse order.lines))
    (λ payment. sym (named-with warehouse (payment.warehouse ∷ []) payment.customer_warehouse
    ∙ ap (λ b. b || (payment.customer_warehouse == warehouse)) (or-false (payment.warehouse == warehouse))
    ∙ ap (λ b. (payment.warehouse == warehouse) || b) (sym (or-false (payment.customer_warehouse == warehouse)))))
    (λ command home. ap (list_any (λ number. number == warehouse)) (home.numbers ∙ sym home.warehouses))
  where
    supplied : (warehouse : ℕ) (lines : List PurchaseLine)
        → list_any (λ number. number == warehouse) (map (λ (line : PurchaseLine). line.supply_warehouse) lines)
        ≡ list_any (λ line. line.supply_warehouse == warehouse) lines
    supplied warehouse [] = refl
    supplied warehouse (line ∷ lines) =
        ap (λ b. (line.supply_warehouse == warehouse) || b) (supplied warehouse lines)

-- ---- whether there are several

-- no fewer with one more
longer-with : (named : List ℕ) (number : ℕ) → length named ≤ length (with_named named number)
longer-with named number =
    elim (list_any (λ other. other == number) named) as (λ b. length named
    ≤ length (cond b named (named ++ number ∷ []))) [
      | true ↦ omega arith
      | false ↦ omega (arith, length-append named (number ∷ []))
    ]

-- and at most one more
pub few-with : (named : List ℕ) (number : ℕ) → length (with_named named number) ≤ length named + 1
few-with named number =
    elim (list_any (λ other. other == number) named) as (λ b. length (cond b named (named ++ number ∷ []))
    ≤ length named + 1) [
      | true ↦ omega arith
      | false ↦ omega (arith, length-append named (number ∷ []))
    ]

longer-suppliers : (lines : List PurchaseLine) (named : List ℕ)
    → length named ≤ length (fold (λ named (line : PurchaseLine). with_named named line.supply_warehouse) named lines)
longer-suppliers [] named = omega arith
longer-suppliers (line ∷ lines) named =
    let later = longer-suppliers lines (with_named named line.supply_warehouse) in
    let here = longer-with named line.supply_warehouse in
    omega (arith, later, here)

-- a purchase names several where its home doesn't supply all lines
pub several-purchase : (home : ℕ) (lines : List PurchaseLine)
    → nat_lt 1 (length (fold (λ named (line : PurchaseLine). with_named named line.supply_warehouse) (home ∷ []) lines))
    ≡ not (list_all (λ line. line.supply_warehouse == home) lines)
several-purchase home [] = refl
several-purchase home (line ∷ lines) =
    elim (line.supply_warehouse == home) as (λ b. (line.supply_warehouse == home) ≡ b → nat_lt 1 (length
    (fold (λ named (line : PurchaseLine). with_named named line.supply_warehouse)
    (with_named (home ∷ []) line.supply_warehouse) lines))
    ≡ not (b && list_all (λ line. line.supply_warehouse == home) lines)) [
      | true ↦ λ same.
          rw (with_named-home home line.supply_warehouse same) (several-purchase home lines)
      | false ↦ λ other.
          rw (with_named-other home line.supply_warehouse other)
          (lt-ltb 1 _ (longer-suppliers lines (home ∷ line.supply_warehouse ∷ [])))
    ] refl
  where
    with_named-home : (home number : ℕ) → (number == home) ≡ true → with_named (home ∷ []) number ≡ home ∷ []
    with_named-home home number same = rw (eq-eqb home number (sym (eqb-true number home same))) refl

    with_named-other : (home number : ℕ) → (number == home) ≡ false
        → with_named (home ∷ []) number ≡ home ∷ number ∷ []
    with_named-other home number other =
        rw (ne_eqb home number (λ same. eqb-false number home other (sym same))) refl

-- ---- a command that a warehouse begins

-- the home stands first
first-suppliers : (lines : List PurchaseLine) (home : ℕ) (others : List ℕ)
    → (later : List ℕ)
    × (fold (λ named (line : PurchaseLine). with_named named line.supply_warehouse) (home ∷ others) lines
    ≡ home ∷ later)
first-suppliers [] home others = (others, refl)
first-suppliers (line ∷ lines) home others =
    elim (list_any (λ other. other == line.supply_warehouse) (home ∷ others)) as (λ b. (later : List ℕ)
    × (fold (λ named (line : PurchaseLine). with_named named line.supply_warehouse)
    (cond b (home ∷ others) ((home ∷ others) ++ line.supply_warehouse ∷ [])) lines ≡ home ∷ later)) [
      | true ↦ first-suppliers lines home others
      | false ↦ first-suppliers lines home (others ++ line.supply_warehouse ∷ [])
    ]

pub first-named : (command : Command) → (others : List ℕ) × (warehouses_of command ≡ home_of command ∷ others)
first-named =
    by_several (λ command. (others : List ℕ) × (warehouses_of command ≡ home_of command ∷ others))
    (λ order. first-suppliers order.lines order.warehouse []) of_payment (λ command home. ([], home.warehouses))
  where
    of_payment : (payment : Payment)
        → (others : List ℕ) × (warehouses_of (commands.Payment payment) ≡ payment.warehouse ∷ others)
    of_payment payment =
        elim (payment.warehouse == payment.customer_warehouse) as (λ b. (others : List ℕ)
        × (cond (b || false) (payment.warehouse ∷ []) ((payment.warehouse ∷ []) ++ payment.customer_warehouse ∷ [])
        ≡ payment.warehouse ∷ others)) [
          | true ↦ ([], refl)
          | false ↦ (payment.customer_warehouse ∷ [], refl)
        ]

-- what each named warehouse passes, the home passes, and so does the warehouse of the customer
pub named-home : (test : ℕ → Bool) (command : Command) → list_all test (warehouses_of command) ≡ true
    → test (home_of command) ≡ true
named-home test command all =
    let first = first-named command in
    (and_parts (test (home_of command)) (list_all test first.0) (ap (list_all test) (sym first.1) ∙ all)).0

pub named-customer_home : (test : ℕ → Bool) (command : Command) → list_all test (warehouses_of command) ≡ true
    → test (customer_home_of command) ≡ true
named-customer_home test =
    by_payment (λ command. list_all test (warehouses_of command) ≡ true → test (customer_home_of command) ≡ true)
    (λ payment all. (named-payment test payment all).1)
    (λ command nobody all. ap test nobody.customer_home ∙ named-home test command all)

-- a command of several warehouses doesn't only read
pub several-writes : (command : Command) → nat_lt 1 (length (warehouses_of command)) ≡ true → is_reader command ≡ false
several-writes =
    by_several (λ command. nat_lt 1 (length (warehouses_of command)) ≡ true → is_reader command ≡ false)
    (λ order several. refl) (λ payment several. refl)
    (λ command home several. absurd (false≢true (sym (ap (λ names. nat_lt 1 (length names)) home.warehouses) ∙ several)))

-- where none is named but this one, it is named once
only : (number first : ℕ) (others : List ℕ) → AreUnique (first ∷ others)
    → list_all (λ named. named == number) (first ∷ others) ≡ true → first ∷ others ≡ number ∷ []
only number first [] unique all =
    ap (λ one. one ∷ []) (eqb-true first number (and_parts (first == number) true all).0)
only number first (second ∷ others) unique all =
    let here = and_parts (first == number) (list_all (λ named. named == number) (second ∷ others)) all in
    let next = and_parts (second == number) (list_all (λ named. named == number) others) here.1 in
    absurd (unique 0 1 0 (omega arith) (omega arith)
    (eqb-true first number here.0 ∙ sym (eqb-true second number next.0)))

-- a command that a warehouse begins names this warehouse alone
pub named-begun : (number : ℕ) (command : Command) (tables : Tables) → begin_refusal_of number command tables ≡ None
    → warehouses_of command ≡ number ∷ []
named-begun number command tables none =
    let home = first-named command in
    home.1
    ∙ only number (home_of command) home.0 (subst AreUnique home.1 (named_once command))
    (subst (λ named. list_all (λ one. one == number) named ≡ true) home.1 (begun number command tables none))

-- so does one that it accepts
pub named-accepted : (items : List Item) (number : ℕ) (command : Command) (tables : Tables)
    → refusal_of items number command tables ≡ None → warehouses_of command ≡ number ∷ []
named-accepted items number command tables none =
    named-begun number command tables (neither (begin_refusal_of number command tables) _ none).0
