-- What an accepted command does to the accounts.
use Rattle.std.proofs.Common.{◌≡◌, ℕ, suc, ◌+◌, ◌≤◌, pos, ◌+ℤ◌, ◌==◌, Bool, true, false, cond, List, [], ◌∷◌, ◌++◌, map, length, None, refl, sym, ap, ◌∙◌, subst, arith, eq-eqb, length-append, lit≤}
use Rattle.std.specs.Prelude.{fold, ◌&&◌}
use Rattle.std.proofs.lemmas.Bool.{and_parts, eqb-true}
use Rattle.hy_rows.specs.Ranges.{is_between}
use Rattle.std.proofs.lemmas.Int.{ints}
use Rattle.std.proofs.lemmas.Bool.Decides.{nat_tests}
use Rattle.std.proofs.lemmas.List.{append-nil}
use Rattle.std.proofs.lemmas.List.Elements.{filter-append}
use Rattle.hy_rows.specs.declared.item.Item.{Item}
use Rattle.hy_rows.specs.declared.warehouse.Warehouse.{Warehouse}
use Rattle.hy_rows.specs.Finding.{first_or, is_warehouse, with_changed}
use Rattle.hy_rows.specs.Rows.{order_of}
use Rattle.hy_schema.specs.Keys.{district_numbers}
use Rattle.hy_schema.specs.Related.{is_order}
use Rattle.hy_rows.specs.Tables.{Lists, Tables, of_warehouse}
use Rattle.hy_schema.specs.Conditions.{column_sum}
use Rattle.hy_ledger.specs.Books.{BookState, max_cents}
use Rattle.hy_commands.specs.declared.command.Command.{Command}
use Rattle.hy_commands.specs.declared.command.Command.TheVariants as commands
use Rattle.hy_commands.specs.declared.command.Commit.{Commit}
use Rattle.hy_commands.specs.declared.command.Commit.TheVariants as commits
use Rattle.hy_commands.specs.declared.command.Delivery.{Delivery}
use Rattle.hy_commands.specs.declared.edition.Edition.{Edition}
use Rattle.hy_commands.specs.Commands.{cents_of, command_of, home_of, is_in_range, is_moment, is_reader, is_who, kept_of}
use Rattle.hy_commands.specs.inside.Kinds.{by_payment}
use Rattle.hy_commands.specs.declared.command.Payment.{Payment}
use Rattle.hy_commands.specs.Deliveries.{delivered, delivered_in, oldest, with_delivered}
use Rattle.hy_commands.specs.Invariant.{IsSoundWarehouse}
use Rattle.hy_commands.specs.NewOrders.{ordered, supplied}
use Rattle.hy_commands.specs.Parts.{Database, database_of, number_in, part, refusal_in}
use Rattle.hy_commands.specs.Payments.{paid_by, paid_in, warehouse_paid}
use Rattle.hy_commands.specs.Replay.{rows_after}
use Rattle.hy_commands.specs.Transactions.{accepted, refusal_of}
use Rattle.hy_commands.proofs.AcceptedLaws.{accepted-in, accepted-not_refused}
use Rattle.hy_commands.proofs.NamedLaws.{first-named, named-accepted}
use Rattle.hy_partition.specs.Accounts.{IsBookOf, home_commits, taken_in, with_command}
use Rattle.hy_partition.specs.Parts.{with_part_entered}
use Rattle.hy_partition.proofs.ReplayLaws.{act-accepted, replay-append, replay-crossed}

-- the home of an accepted command is the warehouse
first-same : {one other : ℕ} {ones others : List ℕ} → one ∷ ones ≡ other ∷ others → one ≡ other
first-same same = cc

pub home-accepted : (items : List Item) (number : ℕ) (command : Command) (tables : Tables)
    → refusal_of items number command tables ≡ None → home_of command ≡ number
home-accepted items number command tables accepted =
    first-same (sym (first-named command).1 ∙ named-accepted items number command tables accepted)

-- W_YTD of the one warehouse after a payment
taken-paid : (number cents : ℕ) (rows : List Warehouse) → map (λ (row : Warehouse). row.id) rows ≡ number ∷ []
    → column_sum (λ (row : Warehouse). row.ytd) (with_changed (is_warehouse number) (warehouse_paid cents) rows)
    ≡ column_sum (λ (row : Warehouse). row.ytd) rows +ℤ pos cents
taken-paid number cents [] is = let short = ap length is in absurd (omega (arith, short))
taken-paid number cents (row ∷ []) is =
    let here : is_warehouse number row ≡ true = eq-eqb row.id number (first-same is) in
    ap (λ b. column_sum (λ (row : Warehouse). row.ytd) (cond b (warehouse_paid cents row ∷ []) (row ∷ []))) here
    ∙ omega (arith, ints)
taken-paid number cents (row ∷ other ∷ rows) is = let long = ap length is in absurd (omega (arith, long))

-- a delivery takes nothing in
taken-delivered : (delivery : Delivery) (districts : List ℕ) (tables : Tables)
    → (fold (delivered_in delivery) tables districts).warehouses ≡ tables.warehouses
taken-delivered delivery [] tables = refl
taken-delivered delivery (district ∷ districts) tables =
    taken-delivered delivery districts (delivered_in delivery tables district) ∙ one
  where
    one : (delivered_in delivery tables district).warehouses ≡ tables.warehouses
    one =
        elim (oldest delivery.warehouse district tables == 0) as (λ b. (cond b tables (with_delivered delivery
        (first_or (order_of []) (is_order delivery.warehouse district (oldest delivery.warehouse district tables))
        tables.orders) tables)).warehouses ≡ tables.warehouses) [ true ↦ refl | false ↦ refl ]

taken-accepted : (items : List Item) (number : ℕ) (edition : Edition) (command : Command) (tables : Tables)
    → map (λ (row : Warehouse). row.id) tables.warehouses ≡ number ∷ [] → home_of command ≡ number
    → taken_in (accepted items number edition command tables).tables ≡ taken_in tables +ℤ pos (cents_of command)
taken-accepted items number edition (commands.NewOrder order) tables one home = omega (arith, ints)
taken-accepted items number edition (commands.Payment payment) tables one home =
    taken-paid payment.warehouse payment.amount tables.warehouses (one ∙ ap (λ n. n ∷ []) (sym home))
taken-accepted items number edition (commands.OrderStatus status) tables one home = omega (arith, ints)
taken-accepted items number edition (commands.Delivery delivery) tables one home =
    ap (column_sum (λ (row : Warehouse). row.ytd)) (taken-delivered delivery district_numbers tables) ∙ omega (arith, ints)
taken-accepted items number edition (commands.StockLevel level) tables one home = omega (arith, ints)

-- the commits of a warehouse with one more of its own
home-more : (number : ℕ) (kept : List Commit) (edition : Edition) (command : Command) → home_of command ≡ number
    → length (home_commits number (kept ++ commits.Local edition command ∷ [])) ≡ length (home_commits number kept) + 1
home-more number kept edition command home =
    let test : Commit → Bool = λ commit. home_of (command_of commit) == number in
    ap length (filter-append test kept (commits.Local edition command ∷ []))
    ∙ ap (λ b. length (home_commits number kept ++ cond b (commits.Local edition command ∷ []) [])) (eq-eqb (home_of command) number home)
    ∙ length-append (home_commits number kept) (commits.Local edition command ∷ [])

-- the book after an accepted command is that of the commits with this one
pub booked : (lists : Lists) (number : ℕ) (kept : List Commit) (book : BookState) (edition : Edition) (command : Command)
    → IsSoundWarehouse lists.items number (rows_after lists number kept)
    → refusal_of lists.items number command (rows_after lists number kept) ≡ None → IsBookOf lists number kept book
    → IsBookOf lists number (kept ++ kept_of edition command) (with_command book command)
booked lists number kept book edition command sound accepted is =
    elim (is_reader command) as (λ b. is_reader command ≡ b
    → IsBookOf lists number (kept ++ cond b [] (commits.Local edition command ∷ []))
    (cond b book (record book { commits = book.commits + 1; cents = book.cents + cents_of command }))) [
      | true ↦ λ reads. subst (λ commits. IsBookOf lists number commits book) (sym (append-nil kept)) is
      | false ↦ λ writes.
          let home = home-accepted lists.items number command (rows_after lists number kept) accepted in
          record {
            warehouse_is = is.warehouse_is;
            commits_are = ap (λ n. n + 1) is.commits_are ∙ sym (home-more number kept edition command home);
            cents_are =
                ap taken_in (replay-append lists number (of_warehouse number lists.tables) kept edition command
                ∙ ap (λ o. o.tables) (act-accepted lists.items number edition command (rows_after lists number kept) accepted))
                ∙ taken-accepted lists.items number edition command (rows_after lists number kept) sound.rows.warehouse home
                ∙ ap (λ z. z +ℤ pos (cents_of command)) is.cents_are
                ∙ omega (arith, ints);
          }
    ] refl

-- what the part of a command over several warehouses takes in: at its home its cents, and nothing elsewhere
taken-part : (items : List Item) (number : ℕ) (edition : Edition) (command : Command) (tables : Tables)
    → map (λ (row : Warehouse). row.id) tables.warehouses ≡ number ∷ []
    → taken_in (part items number edition command tables)
    ≡ taken_in tables +ℤ pos (cond (home_of command == number) (cents_of command) 0)
taken-part items number edition (commands.NewOrder order) tables one =
    elim (order.warehouse == number) as (λ b.
    taken_in (supplied number order (cond b (ordered items order tables) tables)) ≡ taken_in tables +ℤ pos (cond b 0 0)) [
      | true ↦ omega (arith, ints)
      | false ↦ omega (arith, ints)
    ]
taken-part items number edition (commands.Payment payment) tables one =
    elim (payment.warehouse == number) as (λ b. (payment.warehouse == number) ≡ b
    → taken_in (cond (payment.customer_warehouse == number)
    (paid_by edition payment (number_in payment.who) (cond b (paid_in payment (number_in payment.who) tables) tables))
    (cond b (paid_in payment (number_in payment.who) tables) tables))
    ≡ taken_in tables +ℤ pos (cond b payment.amount 0)) [
      | true ↦ λ home.
          either (payment.customer_warehouse == number) (paid_in payment (number_in payment.who) tables)
          ∙ taken-paid payment.warehouse payment.amount tables.warehouses
          (one ∙ ap (λ n. n ∷ []) (sym (eqb-true payment.warehouse number home)))
      | false ↦ λ away. either (payment.customer_warehouse == number) tables ∙ omega (arith, ints)
    ] refl
  where
    either : (here : Bool) (rows : Tables)
        → taken_in (cond here (paid_by edition payment (number_in payment.who) rows) rows) ≡ taken_in rows
    either true rows = refl
    either false rows = refl
taken-part items number edition (commands.OrderStatus status) tables one =
    elim (status.warehouse == number) as (λ b. taken_in tables ≡ taken_in tables +ℤ pos (cond b 0 0)) [
      | true ↦ omega (arith, ints)
      | false ↦ omega (arith, ints)
    ]
taken-part items number edition (commands.Delivery delivery) tables one =
    elim (delivery.warehouse == number) as (λ b.
    taken_in (cond b (delivered delivery tables) tables) ≡ taken_in tables +ℤ pos (cond b 0 0)) [
      | true ↦ ap (column_sum (λ (row : Warehouse). row.ytd)) (taken-delivered delivery district_numbers tables)
          ∙ omega (arith, ints)
      | false ↦ omega (arith, ints)
    ]
taken-part items number edition (commands.StockLevel level) tables one =
    elim (level.warehouse == number) as (λ b. taken_in tables ≡ taken_in tables +ℤ pos (cond b 0 0)) [
      | true ↦ omega (arith, ints)
      | false ↦ omega (arith, ints)
    ]

-- the book after a command over several warehouses
pub booked-part : (lists : Lists) (number : ℕ) (kept : List Commit) (book : BookState) (edition : Edition)
    (command : Command) (crossing : ℕ)
    → IsSoundWarehouse lists.items number (rows_after lists number kept)
    → refusal_in (database_of lists) command ≡ None → is_reader command ≡ false → IsBookOf lists number kept book
    → IsBookOf lists number (kept ++ commits.Cross edition crossing command ∷ []) (with_part_entered number book command)
booked-part lists number kept book edition command crossing sound accepted writes is =
    elim (home_of command == number) as (λ b. (home_of command == number) ≡ b
    → IsBookOf lists number more (cond b (with_command book command) book)) [
      | true ↦ λ home. subst (λ (b : BookState). IsBookOf lists number more b) (sym entered) (record {
        warehouse_is = is.warehouse_is;
        commits_are = ap (λ n. n + 1) is.commits_are ∙ sym (count ∙ ap (λ b. length (home_commits number kept
            ++ cond b (commits.Cross edition crossing command ∷ []) [])) home
            ∙ length-append (home_commits number kept) (commits.Cross edition crossing command ∷ []));
        cents_are = taken ∙ ap (λ b. taken_in rows +ℤ pos (cond b (cents_of command) 0)) home
            ∙ ap (λ z. z +ℤ pos (cents_of command)) is.cents_are ∙ omega (arith, ints);
      })
      | false ↦ λ away. record {
        warehouse_is = is.warehouse_is;
        commits_are = is.commits_are ∙ sym (count ∙ ap (λ b. length (home_commits number kept
            ++ cond b (commits.Cross edition crossing command ∷ []) [])) away ∙ ap length (append-nil (home_commits number kept)));
        cents_are = taken ∙ ap (λ b. taken_in rows +ℤ pos (cond b (cents_of command) 0)) away
            ∙ ap (λ z. z +ℤ pos 0) is.cents_are ∙ omega (arith, ints);
      }
    ] refl
  where
    more : List Commit
    more = kept ++ commits.Cross edition crossing command ∷ []

    rows : Tables
    rows = rows_after lists number kept

    entered : with_command book command ≡ record book { commits = book.commits + 1; cents = book.cents + cents_of command }
    entered = ap (λ b. cond b book (record book { commits = book.commits + 1; cents = book.cents + cents_of command })) writes

    count : length (home_commits number more)
        ≡ length (home_commits number kept ++ cond (home_of command == number) (commits.Cross edition crossing command ∷ []) [])
    count =
        ap length (filter-append (λ commit. home_of (command_of commit) == number) kept (commits.Cross edition crossing command ∷ []))

    taken : taken_in (rows_after lists number more)
        ≡ taken_in rows +ℤ pos (cond (home_of command == number) (cents_of command) 0)
    taken =
        ap taken_in (replay-crossed lists number (of_warehouse number lists.tables) kept crossing edition command accepted)
        ∙ taken-part lists.items number edition command rows sound.rows.warehouse

-- no command pays more than a share holds
cents-in_range : (command : Command) → is_in_range command ≡ true → cents_of command ≤ max_cents
cents-in_range =
    by_payment (λ command. is_in_range command ≡ true → cents_of command ≤ max_cents) of_payment
    (λ command nobody in_range. subst (λ cents. cents ≤ max_cents) (sym nobody.cents) (lit≤ tt))
  where
    of_payment : (payment : Payment) → is_in_range (commands.Payment payment) ≡ true → payment.amount ≤ max_cents
    of_payment payment in_range =
        let parts = and_parts (is_between 100 500_000 payment.amount && is_moment payment.at) (is_who payment.who)
        in_range in
        let amount = (and_parts (is_between 100 500_000 payment.amount) (is_moment payment.at) parts.0).0 in
        grind (arith, nat_tests, amount)

pub cents-small_part : (database : Database) (command : Command) → refusal_in database command ≡ None
    → cents_of command ≤ max_cents
cents-small_part database command accepted = cents-in_range command (accepted-in database command accepted).in_range

pub cents-small : (items : List Item) (number : ℕ) (command : Command) (tables : Tables)
    → refusal_of items number command tables ≡ None → cents_of command ≤ max_cents
cents-small items number command tables accepted =
    cents-in_range command (accepted-not_refused items number command tables accepted).in_range

-- there are no more commits of the warehouse than are kept
pub home-few : (number : ℕ) (kept : List Commit) → length (home_commits number kept) ≤ length kept
home-few number [] = lit≤ tt
home-few number (commit ∷ kept) =
    elim (home_of (command_of commit) == number) as
    (λ b. length (cond b (commit ∷ home_commits number kept) (home_commits number kept)) ≤ suc (length kept)) [
      | true ↦ omega (arith, home-few number kept)
      | false ↦ omega (arith, home-few number kept)
    ]
