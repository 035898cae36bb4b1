-- Which commits can be run again on a load, and that the bytes of a batch tell them.
use Rattle.std.proofs.Common.{◌≡◌, ◌&&◌, ◌==◌, ℕ, suc, ◌+◌, ◌^◌, ◌<◌, ◌≤◌, Bool, true, false, not, cond, List, [], ◌∷◌, ◌++◌, length, Option, Some, None, is_none, is_some, inl, inr, refl, sym, ap, ◌∙◌, subst, arith, lit<}
use Rattle.std.specs.Prelude.{All, IfSome, nat_le, nat_lt, slice_get}
use Rattle.std.specs.List.{find, list_all, list_any}
use Rattle.std.proofs.lemmas.Bool.{and_parts, eqb-true, false≢true, le-leb, leb-true, lt-ltb, or_cases, true≢false}
use Rattle.std.proofs.lemmas.List.Elements.{All-cons, All-filter, All-head, All-nil, All-tail}
use Rattle.hy_rows.specs.Finding.{is_customer}
use Rattle.hy_rows.specs.Ranges.{is_between}
use Rattle.hy_rows.specs.Tables.{Lists, Tables}
use Rattle.hy_rows.specs.declared.customer.Customer.{Customer}
use Rattle.hy_rows.specs.declared.item.Item.{Item}
use Rattle.hy_rows.proofs.BetweenLaws.{bounds}
use Rattle.hy_rows.proofs.RangeLaws.{allowed-at}
use Rattle.hy_rows.specs.Catalogue.{columns_of}
use Rattle.hy_rows.specs.Rows.{customer_values, item_values}
use Rattle.hy_rows.specs.declared.catalogue.Table.TheVariants as table
use Rattle.hy_schema.specs.Loads.{IsItemAt, IsLoad}
use Rattle.hy_schema.specs.Related.{is_item}
use Rattle.hy_loads.proofs.ThereLaws.{few_warehouses}
use Rattle.hy_commands.specs.declared.command.Command.{Command}
use Rattle.hy_commands.specs.declared.command.Command.TheVariants as commands
use Rattle.hy_commands.specs.declared.command.Commit.{Commit}
use Rattle.hy_commands.specs.declared.command.Commit.TheVariants as commits
use Rattle.hy_commands.specs.declared.command.Delivery.{Delivery}
use Rattle.hy_commands.specs.declared.command.Payment.{Payment}
use Rattle.hy_commands.specs.declared.command.Purchase.{Purchase}
use Rattle.hy_commands.specs.declared.command.PurchaseLine.{PurchaseLine}
use Rattle.hy_commands.specs.declared.command.Who.{Who}
use Rattle.hy_commands.specs.declared.command.Who.TheVariants as who
use Rattle.hy_commands.specs.declared.edition.Edition.{Edition}
use Rattle.hy_commands.specs.declared.edition.Edition.TheVariants as editions
use Rattle.hy_commands.specs.Commands.{command_of, edition_of, is_line_in_range, is_moment, is_reader, is_who, number_of, warehouses_of, with_named}
use Rattle.hy_passes.specs.SerialList.{is_number}
use Rattle.hy_passes.specs.declared.entry.Entry.{Entry}
use Rattle.hy_commands.specs.NewOrders.{has_item}
use Rattle.hy_commands.specs.Parts.{database_of, is_by_number, is_there, refusal_in, rows_of}
use Rattle.hy_commands.specs.Transactions.{has_customer}
use Rattle.hy_commands.proofs.AcceptedLaws.{IsAcceptedIn, accepted-in, named-suppliers}
use Rattle.hy_commands.proofs.DatabaseLaws.{rows-load, there-load}
use Rattle.hy_commands.proofs.NamedLaws.{named-customer_home, several-writes}
use Rattle.hy_batches.specs.Batches.{is_edition}
use Rattle.hy_batches.specs.Grammar.{are_lists, command_fits, fits, is_commit, is_list, line_fits, who_fits}
use Rattle.hy_sound.specs.Sound.{is_known, list_at}
use Rattle.hy_crossing.specs.of_partition.Jobs.{Log}
use Rattle.hy_crossing.specs.of_partition.Partition.{is_new, may_be_kept}
use Rattle.hy_forks.proofs.NumberLaws.{OnNumber}

-- whether a customer who pays over warehouses is named by number
abbrev pub names_payer : Commit → Bool
names_payer (commits.Local edition command) = true
names_payer (commits.Cross edition number command) = is_by_number command

-- a commit can be run again on a load: it is of the second edition, the load refuses it for no reason, it doesn't only
-- read, and names its payer
pub record IsFit (lists : Lists) (commit : Commit) : Type 0 where
  pub edition : edition_of commit ≡ editions.Second
  pub known : is_known lists (command_of commit) ≡ true
  pub writes : is_reader (command_of commit) ≡ false
  pub payer : names_payer commit ≡ true

abbrev pub AreFit : Lists → Log → Type 0
AreFit lists log = All (λ (entry : Entry Commit). IsFit lists entry.commit) log

-- ---- what may be kept can be run again

-- what the grammar has a form for doesn't only read
pub fits-writes : (command : Command) → command_fits command ≡ true → is_reader command ≡ false
fits-writes (commands.NewOrder order) fits = refl
fits-writes (commands.Payment payment) fits = refl
fits-writes (commands.Delivery delivery) fits = refl
fits-writes (commands.OrderStatus status) fits = absurd (false≢true fits)
fits-writes (commands.StockLevel level) fits = absurd (false≢true fits)

none-is : {Row : Type 0} (found : Option Row) → is_none found ≡ true → found ≡ None
none-is None is = refl
none-is (Some row) is = absurd (false≢true is)

not-true : (b : Bool) → not b ≡ true → b ≡ false
not-true true is = absurd (false≢true is)
not-true false is = refl

new-second : (edition : Edition) (command : Command) → is_new (commits.Local edition command) ≡ true
    → edition ≡ editions.Second
new-second editions.First command new = absurd (false≢true new)
new-second editions.Second command new = refl

-- what a test of what may be kept says
record IsKept (lists : Lists) (warehouse : ℕ) (commit : Commit) : Type 0 where
  fit : IsFit lists commit
  named : list_any (λ name. name == warehouse) (warehouses_of (command_of commit)) ≡ true
  marked : is_number (number_of commit) ≡ nat_lt 1 (length (warehouses_of (command_of commit)))

is-kept : (lists : Lists) (warehouse : ℕ) (commit : Commit) → may_be_kept lists warehouse commit ≡ true
    → is_new commit ≡ true → IsKept lists warehouse commit
is-kept lists warehouse (commits.Local edition command) kept new =
    let known = is_none (refusal_in (database_of lists) command) in
    let writes = not (is_reader command) in
    let named = list_any (λ name. name == warehouse) (warehouses_of command) in
    let several = nat_lt 1 (length (warehouses_of command)) in
    let last = and_parts (known && writes && named) (not several) kept in
    let third = and_parts (known && writes) named last.0 in
    let first = and_parts known writes third.0 in
    record {
      fit = record {
        edition = new-second edition command new;
        known = first.0;
        writes = not-true (is_reader command) first.1;
        payer = refl;
      };
      named = third.1;
      marked = sym (not-true several last.1);
    }
is-kept lists warehouse (commits.Cross edition number command) kept new =
    let known = is_none (refusal_in (database_of lists) command) in
    let payer = is_by_number command in
    let named = list_any (λ name. name == warehouse) (warehouses_of command) in
    let several = nat_lt 1 (length (warehouses_of command)) in
    let last = and_parts (known && payer && named) several kept in
    let third = and_parts (known && payer) named last.0 in
    let first = and_parts known payer third.0 in
    record {
      fit = record {
        edition = new-second edition command new;
        known = first.0;
        writes = several-writes command last.1;
        payer = first.1;
      };
      named = third.1;
      marked = sym last.1;
    }

pub kept-fit : (lists : Lists) (warehouse : ℕ) (commit : Commit) → may_be_kept lists warehouse commit ≡ true
    → is_new commit ≡ true → IsFit lists commit
kept-fit lists warehouse commit kept new = (is-kept lists warehouse commit kept new).fit

-- ---- numbers of some bytes

pub fits-below : (width number most : ℕ) → number ≤ most → most < 256 ^ width → fits width number ≡ true
fits-below width number most within small = lt-ltb number (256 ^ width) (omega (arith, within, small))

-- ---- rows that are there

each-all : {Row : Type 0} (Right : ℕ → Row → Type 0) (Holds : Row → Type 0) (rows : List Row)
    → ((place : ℕ) (row : Row) → Right place row → Holds row) → ((place : ℕ) → IfSome (slice_get rows place) (Right place))
    → All Holds rows
each-all Right Holds [] leads each = All-nil Holds
each-all Right Holds (row ∷ rows) leads each =
    All-cons Holds row rows (leads 0 row (each 0))
    (each-all (λ place. Right (suc place)) Holds rows (λ place row. leads (suc place) row) (λ place. each (suc place)))

any-there : {Row : Type 0} (Holds : Row → Type 0) (test : Row → Bool) (rows : List Row) → list_any test rows ≡ true
    → All Holds rows → (row : Row) × (test row ≡ true) × Holds row
any-there Holds test [] any all = absurd (false≢true any)
any-there Holds test (row ∷ rows) any all = elim (or_cases (test row) (list_any test rows) any) [
  | inl here ↦ (row, here, All-head Holds row rows all)
  | inr later ↦ any-there Holds test rows later (All-tail Holds row rows all)
]

found-there : {Row : Type 0} (Holds : Row → Type 0) (test : Row → Bool) (rows : List Row)
    → is_some (find test rows) ≡ true → All Holds rows → (row : Row) × (test row ≡ true) × Holds row
found-there Holds test [] found all = absurd (false≢true found)
found-there {Row = Row} Holds test (row ∷ rows) found all =
    by (test row) refl found (λ later. found-there Holds test rows later (All-tail Holds row rows all))
  where
    by : (passes : Bool) → test row ≡ passes → is_some (cond passes (Some row) (find test rows)) ≡ true
        → (is_some (find test rows) ≡ true → (row : Row) × (test row ≡ true) × Holds row)
        → (row : Row) × (test row ≡ true) × Holds row
    by true is some later = (row, is, All-head Holds row rows all)
    by false is some later = later some

all-lines : (one other third wanted : PurchaseLine → Bool) (rows : List PurchaseLine)
    → ((row : PurchaseLine) → one row ≡ true → other row ≡ true → third row ≡ true → wanted row ≡ true)
    → list_all one rows ≡ true → list_all other rows ≡ true → All (λ row. third row ≡ true) rows
    → list_all wanted rows ≡ true
all-lines one other third wanted [] leads a b c = refl
all-lines one other third wanted (row ∷ rows) leads a b c =
    let both = and_parts (one row) (list_all one rows) a in
    let two = and_parts (other row) (list_all other rows) b in
    let here = leads row both.0 two.0 (All-head (λ row. third row ≡ true) row rows c) in
    let later = all-lines one other third wanted rows leads both.1 two.1 (All-tail (λ row. third row ≡ true) row rows c) in
    rw (here, later) refl

module _ (lists : Lists) (is_load : IsLoad lists) where
  warehouse-fits : (number : ℕ) → is_there (database_of lists) number ≡ true → fits 1 number ≡ true
  warehouse-fits number there =
      let within = bounds 1 (length lists.tables.warehouses) number (there-load lists number there) in
      fits-below 1 number 16
      (omega (arith, within.1, few_warehouses lists.tables.warehouses is_load.warehouses)) (lit< tt)

  item-fits : (line : PurchaseLine) → has_item lists.items line ≡ true → fits 4 line.item ≡ true
  item-fits line there =
      let all = each-all IsItemAt (λ (row : Item). row.id ≤ 100_000) lists.items
      (λ place row is. (bounds 1 100_000 row.id (allowed-at (columns_of table.Item) (item_values row) is.0 0)).1) is_load.items.each in
      let found = any-there (λ (row : Item). row.id ≤ 100_000) (is_item line.item) lists.items there all in
      let same : found.0.id ≡ line.item = eqb-true found.0.id line.item found.1 in
      fits-below 4 line.item 100_000 (omega (arith, same, found.2)) (lit< tt)

  customers-small : (home : ℕ) → is_there (database_of lists) home ≡ true
      → All (λ (row : Customer). row.id ≤ 3_000) (rows_of home (database_of lists)).customers
  customers-small home there =
      subst (λ (tables : Tables). All (λ (row : Customer). row.id ≤ 3_000) tables.customers)
      (sym (rows-load lists home (there-load lists home there)))
      (All-filter (λ (row : Customer). row.warehouse == home) (λ (row : Customer). row.id ≤ 3_000) lists.tables.customers
      (each-all _ (λ (row : Customer). row.id ≤ 3_000) lists.tables.customers
      (λ place row is. (bounds 1 3_000 row.id (allowed-at (columns_of table.Customer) (customer_values row) is.0 0)).1) is_load.customers.each))

  customer-fits : (home warehouse district number : ℕ) → is_there (database_of lists) home ≡ true
      → is_some (find (is_customer warehouse district number) (rows_of home (database_of lists)).customers) ≡ true
      → fits 2 number ≡ true
  customer-fits home warehouse district number there found =
      let row = found-there (λ (row : Customer). row.id ≤ 3_000) (is_customer warehouse district number)
      (rows_of home (database_of lists)).customers found (customers-small home there) in
      let same : row.0.id ≡ number = eqb-true row.0.id number
      (and_parts ((row.0.warehouse == warehouse) && (row.0.district == district)) (row.0.id == number) row.1).1 in
      fits-below 2 number 3_000 (omega (arith, same, row.2)) (lit< tt)

  district-fits : (number : ℕ) → is_between 1 10 number ≡ true → fits 1 number ≡ true
  district-fits number is = fits-below 1 number 10 (bounds 1 10 number is).1 (lit< tt)

  moment-fits : (moment : ℕ) → is_moment moment ≡ true → fits 8 moment ≡ true
  moment-fits moment is = fits-below 8 moment 1_000_000_000_000_000 (bounds 1 1_000_000_000_000_000 moment is).1 (lit< tt)

  -- a home, and the customer's, of a payment
  named-home : (test : ℕ → Bool) (home other : ℕ) → list_all test (with_named (home ∷ []) other) ≡ true → test home ≡ true
  named-home test home other all = by (list_any (λ name. name == other) (home ∷ [])) all
    where
      by : (is : Bool) → list_all test (cond is (home ∷ []) ((home ∷ []) ++ other ∷ [])) ≡ true → test home ≡ true
      by true one = (and_parts (test home) true one).0
      by false both = (and_parts (test home) (list_all test (other ∷ [])) both).0

  purchase-fits : (order : Purchase) → IsAcceptedIn (database_of lists) (commands.NewOrder order)
      → command_fits (commands.NewOrder order) ≡ true
  purchase-fits order is =
      let there = named-customer_home (is_there (database_of lists)) (commands.NewOrder order) is.named in
      let ranges = and_parts (is_between 5 15 (length order.lines) && list_all is_line_in_range order.lines)
      (is_moment order.at) is.in_range in
      let lines = and_parts (is_between 5 15 (length order.lines)) (list_all is_line_in_range order.lines) ranges.0 in
      let home = warehouse-fits order.warehouse there in
      let district = district-fits order.district is.districts in
      let customer = customer-fits order.warehouse order.warehouse order.district order.customer there is.customer in
      let moment = moment-fits order.at ranges.1 in
      let count = fits-below 1 (length order.lines) 15 (bounds 5 15 (length order.lines) lines.0).1 (lit< tt) in
      let each = all-lines (has_item lists.items) is_line_in_range
      (λ line. is_there (database_of lists) line.supply_warehouse) line_fits order.lines line-fits is.known lines.1
      (named-suppliers (is_there (database_of lists)) order.lines (order.warehouse ∷ []) is.named) in
      rw (home, district, customer, moment, count, each) refl
    where
      line-fits : (line : PurchaseLine) → has_item lists.items line ≡ true → is_line_in_range line ≡ true
          → is_there (database_of lists) line.supply_warehouse ≡ true → line_fits line ≡ true
      line-fits line item quantity there =
          let first = item-fits line item in
          let second = warehouse-fits line.supply_warehouse there in
          let third = fits-below 1 line.quantity 10 (bounds 1 10 line.quantity quantity).1 (lit< tt) in
          rw (first, second, third) refl

  payer-fits : (payment : Payment) → is_there (database_of lists) payment.customer_warehouse ≡ true
      → is_who payment.who ≡ true
      → has_customer (commands.Payment payment) (rows_of payment.customer_warehouse (database_of lists)) ≡ true
      → who_fits payment.who ≡ true
  payer-fits payment there ranged found = by payment.who refl
    where
      by : (whom : Who) → payment.who ≡ whom → who_fits payment.who ≡ true
      by (who.Number number) is =
          ap who_fits is
          ∙ customer-fits payment.customer_warehouse payment.customer_warehouse payment.customer_district number there
          (subst (λ w. has_customer (commands.Payment record payment { who = w })
          (rows_of payment.customer_warehouse (database_of lists)) ≡ true) is found)
      by (who.Last name) is =
          let named = sym (ap is_who is) ∙ ranged in
          let short = (and_parts (nat_le (length name) 16) (list_all (is_between 32 126) name) named).0 in
          ap who_fits is ∙ fits-below 1 (length name) 16 (leb-true (length name) 16 short) (lit< tt)

  payment-fits : (payment : Payment) → IsAcceptedIn (database_of lists) (commands.Payment payment)
      → command_fits (commands.Payment payment) ≡ true
  payment-fits payment is =
      let there = named-customer_home (is_there (database_of lists)) (commands.Payment payment) is.named in
      let ranges = and_parts (is_between 100 500_000 payment.amount && is_moment payment.at) (is_who payment.who) is.in_range in
      let first = and_parts (is_between 100 500_000 payment.amount) (is_moment payment.at) ranges.0 in
      let districts = and_parts (is_between 1 10 payment.district) (is_between 1 10 payment.customer_district) is.districts in
      let home = warehouse-fits payment.warehouse
      (named-home (is_there (database_of lists)) payment.warehouse payment.customer_warehouse is.named) in
      let other = warehouse-fits payment.customer_warehouse there in
      let own = district-fits payment.district districts.0 in
      let payer = district-fits payment.customer_district districts.1 in
      let whom = payer-fits payment there ranges.1 is.customer in
      let amount = fits-below 4 payment.amount 500_000 (bounds 100 500_000 payment.amount first.0).1 (lit< tt) in
      let moment = moment-fits payment.at first.1 in
      rw (home, own, other, payer, whom, amount, moment) refl

  delivery-fits : (delivery : Delivery) → IsAcceptedIn (database_of lists) (commands.Delivery delivery)
      → command_fits (commands.Delivery delivery) ≡ true
  delivery-fits delivery is =
      let ranges = and_parts (is_between 1 10 delivery.carrier) (is_moment delivery.at) is.in_range in
      let home = warehouse-fits delivery.warehouse
      (and_parts (is_there (database_of lists) delivery.warehouse) true is.named).0 in
      let carrier = fits-below 1 delivery.carrier 10 (bounds 1 10 delivery.carrier ranges.0).1 (lit< tt) in
      let moment = moment-fits delivery.at ranges.1 in
      rw (home, carrier, moment) refl

  known-fits : (command : Command) → is_reader command ≡ false → IsAcceptedIn (database_of lists) command
      → command_fits command ≡ true
  known-fits (commands.NewOrder order) writes is = purchase-fits order is
  known-fits (commands.Payment payment) writes is = payment-fits payment is
  known-fits (commands.Delivery delivery) writes is = delivery-fits delivery is
  known-fits (commands.OrderStatus status) writes is = absurd (true≢false writes)
  known-fits (commands.StockLevel level) writes is = absurd (true≢false writes)

  -- ---- commits

  -- a commit that can be run again, with its number, may stand in the list of each warehouse that it names, in a batch of
  -- the second edition
  pub commit-told : (number : ℕ) (commit : Commit) → IsFit lists commit
      → list_any (λ name. name == number) (warehouses_of (command_of commit)) ≡ true
      → is_number (number_of commit) ≡ nat_lt 1 (length (warehouses_of (command_of commit)))
      → OnNumber (λ n. (1 ≤ n) × (n < 2 ^ 64)) commit → is_commit editions.Second number commit ≡ true
  commit-told number (commits.Local edition command) fit named marked numbered =
      let new : is_edition edition editions.Second ≡ true = ap (λ e. is_edition e editions.Second) fit.edition in
      let is = accepted-in (database_of lists) command (none-is (refusal_in (database_of lists) command) fit.known) in
      let in_range = is.in_range in
      let one : nat_lt 1 (length (warehouses_of command)) ≡ false = sym marked in
      let fits = known-fits command fit.writes is in
      rw (new, in_range, named, one, fits) refl
  commit-told number (commits.Cross edition crossing command) fit named marked numbered =
      let new : is_edition edition editions.Second ≡ true = ap (λ e. is_edition e editions.Second) fit.edition in
      let is = accepted-in (database_of lists) command (none-is (refusal_in (database_of lists) command) fit.known) in
      let in_range = is.in_range in
      let several : nat_lt 1 (length (warehouses_of command)) ≡ true = sym marked in
      let first : nat_le 1 crossing ≡ true = le-leb 1 crossing numbered.0 in
      let payer = fit.payer in
      let told : fits 8 crossing ≡ true = lt-ltb crossing (256 ^ 8) numbered.1 in
      let fits = known-fits command fit.writes is in
      rw (new, in_range, named, several, first, payer, told, fits) refl

  -- so one that may be kept there
  pub kept-told : (warehouse : ℕ) (commit : Commit) → may_be_kept lists warehouse commit ≡ true → is_new commit ≡ true
      → OnNumber (λ n. (1 ≤ n) × (n < 2 ^ 64)) commit → is_commit editions.Second warehouse commit ≡ true
  kept-told warehouse commit kept new numbered =
      let is = is-kept lists warehouse commit kept new in
      commit-told warehouse commit is.fit is.named is.marked numbered

-- ---- batches

pub lists-told : (edition : Edition) (number : ℕ) (lists : List (List Commit))
    → ((place : ℕ) → place < length lists → is_list edition (number + place) (list_at lists place) ≡ true)
    → are_lists edition number lists ≡ true
lists-told edition number [] each = refl
lists-told edition number (rows ∷ lists) each =
    let same : number + 0 ≡ number = omega arith in
    let first = subst (λ n. is_list edition n rows ≡ true) same (each 0 (omega arith)) in
    let later = lists-told edition (number + 1) lists (λ place within.
    let next : number + suc place ≡ number + 1 + place = omega arith in
    subst (λ n. is_list edition n (list_at lists place) ≡ true) next (each (suc place) (omega (arith, within)))) in
    rw (first, later) refl
