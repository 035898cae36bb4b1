-- What is known of a command over several warehouses of which a warehouse does its part.
use Rattle.std.proofs.Common.{◌≡◌, ◌≢◌, ℕ, ◌+◌, ◌≤◌, ◌==◌, ◌||◌, inl, inr, true, false, cond, not, List, [], ◌∷◌, ◌++◌, drop, filter, length, map, slice_get, Option, Some, None, refl, sym, ap, ap₂, subst, ◌∙◌, arith}
use Rattle.std.specs.Prelude.{◌⊎◌, Result, Ok, Err, IfErr, IfOk, IsErrOf, All, fold, is_some, nat_lt, unwrap_or}
use Rattle.std.specs.List.{find, list_any}
use Rattle.std.specs.Option.{IfSome}
use Rattle.std.proofs.lemmas.Bool.{and_parts, both_ways, eq-eqb, eqb-true, ne_eqb, or_cases}
use Rattle.std.proofs.lemmas.List.{drop_all}
use Rattle.std.proofs.lemmas.List.Elements.{All-weaker}
use Rattle.std.proofs.lemmas.List.Sums.{AllPass-from_list_all}
use Rattle.hy_rows.specs.Finding.{is_customer, with_changed}
use Rattle.hy_rows.specs.Ranges.{IsBetween}
use Rattle.hy_rows.specs.Rows.{customer_of}
use Rattle.hy_rows.specs.Tables.{Tables, of_warehouse}
use Rattle.hy_rows.specs.declared.customer.Customer.{Customer}
use Rattle.hy_rows.specs.declared.stock.Stock.{Stock}
use Rattle.hy_rows.proofs.BetweenLaws.{IsBetween-bounds, bounds}
use Rattle.hy_schema.specs.Keys.{AreUnique}
use Rattle.hy_schema.specs.declared.refusal.Refusal.{Refusal}
use Rattle.hy_schema.specs.declared.refusal.Refusal.TheVariants as refusals
use Rattle.hy_schema.specs.Loads.{IsItemAt, IsLoad}
use Rattle.hy_schema.specs.Related.{is_item}
use Rattle.hy_schema.proofs.ChangedLists.{map-with_changed}
use Rattle.hy_commands.specs.declared.command.Command.{Command}
use Rattle.hy_commands.specs.declared.command.Command.TheVariants as commands
use Rattle.hy_commands.specs.declared.command.Payment.{Payment}
use Rattle.hy_commands.specs.declared.command.Purchase.{Purchase}
use Rattle.hy_commands.specs.declared.command.PurchaseLine.{PurchaseLine}
use Rattle.hy_commands.specs.declared.command.Who.{Who}
use Rattle.hy_commands.specs.declared.edition.Edition.{Edition}
use Rattle.hy_commands.specs.declared.command.Who.TheVariants as who
use Rattle.hy_commands.specs.declared.reply.Reply.{Reply}
use Rattle.hy_commands.specs.Commands.{customer_home_of, is_district_number, is_line_in_range}
use Rattle.hy_commands.specs.Customers.{customer_meant}
use Rattle.hy_commands.specs.Growth.{HasGrownBy, IsCustomerUpTo, IsStockUpTo}
use Rattle.hy_commands.specs.Invariant.{stock_key}
use Rattle.hy_commands.specs.NewOrders.{has_item, is_stock, ordered, sold, sold_line, supplied}
use Rattle.hy_commands.specs.Parts.{database_of, is_number, is_there, number_in}
use Rattle.hy_commands.specs.Payments.{paid_by, paid_in}
use Rattle.hy_commands.specs.Replay.{HasWarehouse}
use Rattle.hy_commands.specs.Transactions.{accepted, has_customer, payer}
use Rattle.hy_commands.proofs.AcceptedLaws.{IsAcceptedIn, accepted-in, named-payment, named-purchase, payment-in_range, purchase-in_range}
use Rattle.hy_commands.proofs.DatabaseLaws.{rows-load, there-load}
use Rattle.hy_commands.proofs.Grown.{grown-rows}
use Rattle.hy_commands.proofs.GrowthLaws.{line-sold, stock-later}
use Rattle.hy_commands.proofs.Kept.{customer-now}
use Rattle.hy_commands.proofs.LineLaws.{folded}
use Rattle.hy_commands.proofs.ListLaws.{All-find, find-any, find-passes, found-any}
use Rattle.hy_commands.proofs.OnceLaws.{tells-three}
use Rattle.hy_layout.specs.Layout.{IsMeantAt, KeepsPlaces, LayoutState, own_rows}
use Rattle.hy_slices.specs.Begun.{BeginsPart}
use Rattle.hy_slices.proofs.GrowingSlices.{grown-slices, items-fit, number-near}
use Rattle.hy_slices.proofs.SliceLaws.{slices-part}
use Rattle.hy_writers.specs.of_store.Stored.{Stored}
use Rattle.hy_writers.specs.of_indexes.Indexes.{HasIndexes}
use Rattle.hy_writers.specs.Begun.{IsHomePayment}
use Rattle.hy_writers.specs.Payments.{CanPayCustomer, CanPayHome, payment_reply, with_customer_paid, with_home_paid}
use Rattle.hy_writers.specs.Purchases.{CanSellLine, with_line_sold}
use Rattle.hy_writers.specs.Waiting.{IsSoundStore}
use Rattle.hy_writers.proofs.DeliverLaws.{any-place}
use Rattle.hy_writers.proofs.FindLaws.{within-at}
use Rattle.hy_writers.proofs.WritesLaws.{all-at}
use Rattle.hy_tpcc.specs.Executor.{DoesSlices, HasDone, KnowsCustomer, answer_of, rows_after}
use Rattle.hy_tpcc.specs.Parts.{DoesPart, HasPart, IsReplyInEach, reply_of_part, with_lines_sold}
use Rattle.hy_tpcc.proofs.PurchaseLaws.{answer-last}

-- one of three refusals that isn't the first
pub not-missing : {Value : Type 0} (result : Result Value Refusal) → (IsErrOf result refusals.NoSuchItem → ⊥)
    → IfErr result (λ refusal. (refusal ≡ refusals.NoSuchItem) ⊎ (refusal ≡ refusals.NoFrame)
    ⊎ (refusal ≡ refusals.NoMemory))
    → IfErr result (λ refusal. (refusal ≡ refusals.NoFrame) ⊎ (refusal ≡ refusals.NoMemory))
not-missing (Ok value) there refused = tt
not-missing (Err refusal) there (inl missing) = absurd (there (ap Err missing))
not-missing (Err refusal) there (inr other) = other

-- what a warehouse answers behind its part
module _ (layout : LayoutState) (edition : Edition) (command : Command) (tables : Tables) where
  reply-own : customer_home_of command ≡ layout.warehouse
      → Some (accepted layout.load.items layout.warehouse edition command tables).reply ≡ reply_of_part layout edition command tables
  reply-own own =
      ap (λ b. cond b (Some (accepted layout.load.items layout.warehouse edition command tables).reply) None)
      (sym (eq-eqb (customer_home_of command) layout.warehouse own))

  reply-other : (customer_home_of command == layout.warehouse) ≡ false → None ≡ reply_of_part layout edition command tables
  reply-other other =
      ap (λ b. cond b (Some (accepted layout.load.items layout.warehouse edition command tables).reply) None) (sym other)

-- what is the same in each edition holds in one, also of a command that is known to be it
pub reply-each : (result : Result (Option Reply) Refusal) (layout : LayoutState) (edition : Edition)
    (command one : Command) (tables : Tables) → command ≡ one → IfOk result (IsReplyInEach layout one tables)
    → IfOk result (λ reply. reply ≡ reply_of_part layout edition command tables)
reply-each (Ok reply) layout edition command one tables is answers =
    answers edition ∙ ap (λ (c : Command). reply_of_part layout edition c tables) (sym is)
reply-each (Err refusal) layout edition command one tables is answers = tt

module _ (layout : LayoutState) (command : Command) (does : HasPart layout command) where
  pub part-passed : IsAcceptedIn (database_of layout.load) command
  part-passed = accepted-in (database_of layout.load) command does.accepted

-- ---- lines that are sold to another home

-- so many of a purchase's lines are sold, from some store on, and the others are still to be
pub record SellsLines (layout : LayoutState) (order : Purchase) (place : ℕ) (first s : Stored) : Type 0 where
  pub left : with_lines_sold layout.warehouse (drop place order.lines) s
      ≡ with_lines_sold layout.warehouse order.lines first
  pub unique : AreUnique (map stock_key s.tables.stock)
  pub places : KeepsPlaces (own_rows layout) s.tables
  pub bounds : All (IsStockUpTo (1_500_000_000 + place)) s.tables.stock
  pub indexes : HasIndexes s

-- a line leaves the keys of the stock
line-keys : (warehouse : ℕ) (line : PurchaseLine) (s : Stored)
    → map stock_key (with_line_sold warehouse true line s).tables.stock ≡ map stock_key s.tables.stock
line-keys warehouse line s =
    elim (line.supply_warehouse == warehouse) as (λ b.
    map stock_key (cond b (with_changed (is_stock warehouse line.item) (sold true line.quantity) s.tables.stock)
    s.tables.stock) ≡ map stock_key s.tables.stock) [
      | true ↦ map-with_changed stock_key (is_stock warehouse line.item) (sold true line.quantity) (λ row. refl)
          s.tables.stock
      | false ↦ refl
    ]

-- and adds to its numbers what one line adds
line-bounds : (warehouse : ℕ) (order : Purchase) (line : PurchaseLine) (k : ℕ) (s : Stored)
    → (order.warehouse == warehouse) ≡ false → line.quantity ≤ 10 → All (IsStockUpTo k) s.tables.stock
    → All (IsStockUpTo (k + 1)) (with_line_sold warehouse true line s).tables.stock
line-bounds warehouse order line k s other few all =
    elim (line.supply_warehouse == warehouse) as (λ b. All (IsStockUpTo (k + 1))
    (cond b (with_changed (is_stock warehouse line.item) (sold true line.quantity) s.tables.stock) s.tables.stock)) [
      | true ↦ subst (λ b. All (IsStockUpTo (k + 1))
          (with_changed (is_stock warehouse line.item) (sold (not b) line.quantity) s.tables.stock)) other
          (line-sold warehouse order line k s.tables.stock few all)
      | false ↦ All-weaker (IsStockUpTo k) (IsStockUpTo (k + 1)) (stock-later k (k + 1) (omega arith)) s.tables.stock
          all
    ]

-- lines together are the stock that they take
lines-supplied : (warehouse : ℕ) (order : Purchase) → (order.warehouse == warehouse) ≡ false
    → (lines : List PurchaseLine) (s : Stored)
    → with_lines_sold warehouse lines s ≡ record s {
      tables = record s.tables {
        stock =
            fold (sold_line warehouse order) s.tables.stock (filter (λ line. line.supply_warehouse == warehouse) lines);
      };
    }
lines-supplied warehouse order other [] s = refl
lines-supplied warehouse order other (line ∷ lines) s =
    let later : List PurchaseLine = filter (λ line. line.supply_warehouse == warehouse) lines in
    let left : List Stock → Stored = λ stock. record s {
      tables = record s.tables { stock = fold (sold_line warehouse order) stock later };
    } in
    lines-supplied warehouse order other lines (with_line_sold warehouse true line s)
    ∙ elim (line.supply_warehouse == warehouse) as (λ b.
    record s {
      tables = record s.tables {
        stock =
            fold (sold_line warehouse order) (cond b (with_changed (is_stock warehouse line.item)
            (sold true line.quantity) s.tables.stock) s.tables.stock) later;
      };
    } ≡ record s {
      tables = record s.tables {
        stock = fold (sold_line warehouse order) s.tables.stock (cond b (line ∷ later) later);
      };
    }) [
      | true ↦ ap (λ b. left (with_changed (is_stock warehouse line.item) (sold (not b) line.quantity) s.tables.stock))
          (sym other)
      | false ↦ refl
    ]

-- ---- a purchase at its home

module _ (layout : LayoutState) (is_load : IsLoad layout.load) (there : HasWarehouse layout.load layout.warehouse)
    (order : Purchase) (does : HasPart layout (commands.NewOrder order)) where
  abbrev passed : IsAcceptedIn (database_of layout.load) (commands.NewOrder order)
  passed = part-passed layout (commands.NewOrder order) does

  module _ (home : order.warehouse ≡ layout.warehouse) where
    -- its customer is there
    pub buyer-there : (tables : Tables) → KeepsPlaces (own_rows layout) tables
        → has_customer (commands.NewOrder order) tables ≡ true
    buyer-there tables keeps =
        customer-now layout.load layout.warehouse (commands.NewOrder order) tables there home keeps.customers passed

    pub buyer-meant : (tables : Tables) → KeepsPlaces (own_rows layout) tables
        → customer_meant layout.warehouse order.district (who.Number order.customer) tables.customers ≡ None → ⊥
    buyer-meant tables keeps none =
        let missing : has_customer (commands.NewOrder order) tables ≡ false =
        ap (λ w. is_some (find (is_customer w order.district order.customer) tables.customers)) home
        ∙ ap is_some none in
        both_ways (has_customer (commands.NewOrder order) tables) missing (buyer-there tables keeps)

    part-begins : (tables : Tables) → KeepsPlaces (own_rows layout) tables
        → BeginsPart layout.warehouse (commands.NewOrder order) tables
    part-begins tables keeps = record {
      home = home;
      in_range = passed.in_range;
      districts = passed.districts;
      customer = buyer-there tables keeps;
      suppliers =
          All-weaker (λ (line : PurchaseLine). is_there (database_of layout.load) line.supply_warehouse ≡ true)
          (λ line. line.supply_warehouse ≤ 16)
          (λ line named. number-near layout.load is_load line.supply_warehouse
          (there-load layout.load line.supply_warehouse named)) order.lines
          (named-purchase (is_there (database_of layout.load)) order passed.named).1;
    }

    -- so that the warehouse begins its slices
    pub part-begun : (edition : Edition) (place : ℕ) (s : Stored) → KnowsCustomer layout (commands.NewOrder order) place
        → IsSoundStore layout s → HasGrownBy 100_000_000 s.tables
        → HasDone layout edition (commands.NewOrder order) place 0 s.tables s
    part-begun edition place s knows sound grown =
        let begins = part-begins s.tables sound.places in
        record {
          begun = record {
            sound = sound.sound;
            begun = inr begins;
            places = sound.places;
            bounds = λ done within known.
                grown-slices layout.load.items (items-fit layout.load is_load) layout.warehouse
                (number-near layout.load is_load layout.warehouse there) 100_000_000 s.tables sound.sound grown
                edition (commands.NewOrder order) done (inr begins) within known;
            customer = knows;
          };
          rows = refl;
          known = refl;
          indexes = sound.indexes;
        }

    -- behind all of its slices but the last one
    pub part-reached : (edition : Edition) (place count : ℕ) (s s1 : Stored) → KnowsCustomer layout (commands.NewOrder order) place
        → IsSoundStore layout s → HasGrownBy 100_000_000 s.tables → count ≡ length order.lines
        → DoesSlices layout (commands.NewOrder order) place (length order.lines) s s1
        → HasDone layout edition (commands.NewOrder order) place count s.tables s1
    part-reached edition place count s s1 knows sound grown last slices =
        subst (λ n. HasDone layout edition (commands.NewOrder order) place n s.tables s1) (sym last)
        (slices edition s.tables (part-begun edition place s knows sound grown))

    -- its last slice leaves the part, and answers it
    pub part-bought : (edition : Edition) (place count : ℕ) (first s : Stored) → count ≡ length order.lines
        → HasDone layout edition (commands.NewOrder order) place (count + 1) first.tables s
        → DoesPart layout edition (commands.NewOrder order) first s
    part-bought edition place count first s last now = record {
      rows =
          now.rows ∙ ap (λ n. rows_after layout edition (commands.NewOrder order) (n + 1) first.tables) last
          ∙ slices-part layout.load.items layout.warehouse edition (commands.NewOrder order) first.tables
          (part-begins first.tables now.begun.places);
      indexes = now.indexes;
    }

    pub part-answers : (edition : Edition) (done : ℕ) (tables : Tables) (reply : Option Reply) → done ≡ length order.lines
        → reply ≡ answer_of layout edition (commands.NewOrder order) done tables
        → reply ≡ reply_of_part layout edition (commands.NewOrder order) tables
    part-answers edition done tables reply last is =
        is ∙ answer-last layout edition order done tables last
        ∙ reply-own layout edition (commands.NewOrder order) tables home

  -- ---- a purchase elsewhere

  -- the item of each line is there
  item-between : (line : PurchaseLine) → has_item layout.load.items line ≡ true
      → IsBetween 1 (length layout.load.items) line.item
  item-between line known =
      let one = any-place (is_item line.item) layout.load.items known in
      let id_is = eqb-true (one.1).id line.item one.3 in
      let right : IsItemAt one.0 one.1 = subst (λ row. IfSome row (IsItemAt one.0)) one.2 (is_load.items.each one.0) in
      let within = within-at layout.load.items one.0 one.1 one.2 in
      IsBetween-bounds 1 (length layout.load.items) line.item (omega (arith, id_is, right.1))
      (omega (arith, id_is, right.1, within))

  pub can-sell : (place : ℕ) (line : PurchaseLine) (s : Stored) → slice_get order.lines place ≡ Some line
      → AreUnique (map stock_key s.tables.stock) → KeepsPlaces (own_rows layout) s.tables
      → All (IsStockUpTo (1_500_000_000 + place)) s.tables.stock → CanSellLine layout line s
  can-sell place line s at unique places bounded =
      let range = purchase-in_range order.warehouse order refl passed.in_range passed.districts in
      let in_range = all-at (λ (line : PurchaseLine). is_line_in_range line ≡ true) order.lines place line
      (AllPass-from_list_all is_line_in_range order.lines range.in_range) at in
      let known = all-at (λ (line : PurchaseLine). has_item layout.load.items line ≡ true) order.lines place line
      (AllPass-from_list_all (has_item layout.load.items) order.lines passed.known) at in
      let within = within-at order.lines place line at in
      let few = (bounds 5 15 (length order.lines) range.count).1 in
      record {
        unique = unique;
        places = places;
        bounds = All-weaker (IsStockUpTo (1_500_000_000 + place)) (IsStockUpTo 1_500_000_015)
            (stock-later (1_500_000_000 + place) 1_500_000_015 (omega (arith, within, few))) s.tables.stock bounded;
        quantity = in_range;
        number = item-between line known;
      }

  module _ (elsewhere : order.warehouse ≢ layout.warehouse) where
    other : (order.warehouse == layout.warehouse) ≡ false
    other = ne_eqb order.warehouse layout.warehouse elsewhere

    -- a line more
    pub sells-more : (place : ℕ) (line : PurchaseLine) (first s s1 : Stored) → slice_get order.lines place ≡ Some line
        → s1 ≡ with_line_sold layout.warehouse true line s → SellsLines layout order place first s
        → SellsLines layout order (place + 1) first s1
    sells-more place line first s s1 at is now =
        let range = purchase-in_range order.warehouse order refl passed.in_range passed.districts in
        let in_range = all-at (λ (line : PurchaseLine). is_line_in_range line ≡ true) order.lines place line
        (AllPass-from_list_all is_line_in_range order.lines range.in_range) at in
        let few = (bounds 1 10 line.quantity in_range).1 in
        let keys = line-keys layout.warehouse line s in
        let next : 1_500_000_000 + place + 1 ≡ 1_500_000_000 + (place + 1) = omega arith in
        subst (SellsLines layout order (place + 1) first) (sym is) record {
          left = folded (λ s line. with_line_sold layout.warehouse true line s) order.lines place line at s
              (with_lines_sold layout.warehouse order.lines first) now.left;
          unique = subst AreUnique (sym keys) now.unique;
          places = record { customers = now.places.customers; stock = keys ∙ now.places.stock };
          bounds = subst (λ k. All (IsStockUpTo k) (with_line_sold layout.warehouse true line s).tables.stock) next
              (line-bounds layout.warehouse order line (1_500_000_000 + place) s other few now.bounds);
          indexes = record {
            orders = now.indexes.orders;
            last_orders = now.indexes.last_orders;
            waiting = now.indexes.waiting;
            lines = now.indexes.lines;
          };
        }

    -- all lines together are the part of a warehouse that isn't the home
    pub sells-all : (edition : Edition) (place : ℕ) (first s : Stored) → length order.lines ≤ place → SellsLines layout order place first s
        → DoesPart layout edition (commands.NewOrder order) first s
    sells-all edition place first s past now =
        let none : drop place order.lines ≡ [] = drop_all place order.lines past in
        let sold : s ≡ with_lines_sold layout.warehouse order.lines first =
        sym (ap (λ lines. with_lines_sold layout.warehouse lines s) none) ∙ now.left in
        record {
          rows =
              ap (λ (t : Stored). t.tables) (sold ∙ lines-supplied layout.warehouse order other order.lines first)
              ∙ ap (λ b. supplied layout.warehouse order
              (cond b (ordered layout.load.items order first.tables) first.tables)) (sym other);
          indexes = now.indexes;
        }

    -- and its answer is none
    pub no-reply : (edition : Edition) (tables : Tables) → None ≡ reply_of_part layout edition (commands.NewOrder order) tables
    no-reply edition tables =
        reply-other layout edition (commands.NewOrder order) tables other

-- ---- a payment

-- the number of a customer who is there is small, and that of the row that is meant
meant-small : (warehouse district n k : ℕ) (rows : List Customer) (whom : Who) → All (IsCustomerUpTo n k) rows
    → is_some (customer_meant warehouse district whom rows) ≡ true → number_in whom ≤ 3_000
meant-small warehouse district n k rows (who.Number number) up there =
    let test = is_customer warehouse district number in
    let found = find-any test rows (sym (found-any test rows) ∙ there) in
    let is = tells-three (found.0).warehouse (found.0).district (found.0).id warehouse district number
    (find-passes test rows found.0 found.1) in
    let small = (All-find (IsCustomerUpTo n k) test rows found.0 up found.1).id in
    omega (arith, is.2, small)
meant-small warehouse district n k rows (who.Last name) up there = omega arith

meant-number : (warehouse district : ℕ) (rows : List Customer) (whom : Who) → is_number whom ≡ true
    → is_some (customer_meant warehouse district whom rows) ≡ true
    → (unwrap_or (customer_meant warehouse district whom rows) (customer_of [])).id ≡ number_in whom
meant-number warehouse district rows (who.Number number) by_number there =
    let test = is_customer warehouse district number in
    let found = find-any test rows (sym (found-any test rows) ∙ there) in
    ap (λ row. (unwrap_or row (customer_of [])).id) found.1
    ∙ (tells-three (found.0).warehouse (found.0).district (found.0).id warehouse district number
    (find-passes test rows found.0 found.1)).2
meant-number warehouse district rows (who.Last name) by_number there = absurd (cc)

module _ (layout : LayoutState) (payment : Payment) (does : HasPart layout (commands.Payment payment)) where
  abbrev payment_passed : IsAcceptedIn (database_of layout.load) (commands.Payment payment)
  payment_passed = part-passed layout (commands.Payment payment) does

  -- the customer of a payment here is one of another warehouse
  pub other-customer : payment.warehouse ≡ layout.warehouse
      → (payment.customer_warehouse == layout.warehouse) ≡ false
  other-customer home =
      elim (payment.warehouse == payment.customer_warehouse) as (λ b.
      (payment.warehouse == payment.customer_warehouse) ≡ b
      → nat_lt 1 (length (cond (b || false) (payment.warehouse ∷ [])
      ((payment.warehouse ∷ []) ++ payment.customer_warehouse ∷ []))) ≡ true
      → (payment.customer_warehouse == layout.warehouse) ≡ false) [
        | true ↦ λ same crossing. absurd (cc)
        | false ↦ λ other crossing. ne_eqb payment.customer_warehouse layout.warehouse
            (λ own. both_ways (payment.warehouse == payment.customer_warehouse) other
            (eq-eqb payment.warehouse payment.customer_warehouse (home ∙ sym own)))
      ] refl does.crossing

  -- and that of a payment elsewhere one of this
  pub own-customer : payment.warehouse ≢ layout.warehouse → payment.customer_warehouse ≡ layout.warehouse
  own-customer elsewhere =
      elim (payment.warehouse == payment.customer_warehouse) as (λ b.
      list_any (λ named. named == layout.warehouse) (cond (b || false) (payment.warehouse ∷ [])
      ((payment.warehouse ∷ []) ++ payment.customer_warehouse ∷ [])) ≡ true
      → payment.customer_warehouse ≡ layout.warehouse) [
        | true ↦ λ named. absurd (elsewhere (only payment.warehouse named))
        | false ↦ λ named. elim (or_cases (payment.warehouse == layout.warehouse) _ named) [
          | inl here ↦ absurd (elsewhere (eqb-true payment.warehouse layout.warehouse here))
          | inr later ↦ only payment.customer_warehouse later
        ]
      ] does.named
    where
      only : (number : ℕ) → ((number == layout.warehouse) || false) ≡ true → number ≡ layout.warehouse
      only number named =
          elim (or_cases (number == layout.warehouse) false named) [
            | inl here ↦ eqb-true number layout.warehouse here
            | inr never ↦ absurd (cc)
          ]

  pub home-payment : IsLoad layout.load → payment.warehouse ≡ layout.warehouse
      → IsHomePayment layout.warehouse payment
  home-payment is_load home =
      let range = payment-in_range layout.warehouse payment home payment_passed.in_range payment_passed.districts in
      let named = named-payment (is_there (database_of layout.load)) payment payment_passed.named in
      let near = number-near layout.load is_load payment.customer_warehouse
      (there-load layout.load payment.customer_warehouse named.1) in
      record {
        home = home;
        district = range.district;
        customer_warehouse = omega (arith, near);
        customer_district = (and_parts (is_district_number payment.district)
            (is_district_number payment.customer_district) payment_passed.districts).1;
        amount = range.amount;
        moment = range.moment;
      }

  pub number-small : IsLoad layout.load → number_in payment.who ≤ 3_000
  number-small is_load =
      let named = named-payment (is_there (database_of layout.load)) payment payment_passed.named in
      let own = there-load layout.load payment.customer_warehouse named.1 in
      let rows = rows-load layout.load payment.customer_warehouse own in
      let grown : HasGrownBy 0 (of_warehouse payment.customer_warehouse layout.load.tables) =
      grown-rows layout.load payment.customer_warehouse [] is_load own in
      meant-small payment.customer_warehouse payment.customer_district 0 0
      (of_warehouse payment.customer_warehouse layout.load.tables).customers payment.who grown.customers
      (sym (ap (has_customer (commands.Payment payment)) rows) ∙ payment_passed.customer)

  pub can-pay_part : IsLoad layout.load → payment.warehouse ≡ layout.warehouse → (s : Stored) → IsSoundStore layout s
      → CanPayHome layout payment s
  can-pay_part is_load home s sound = record {
    rows = sound.sound.rows;
    bounds = sound.bounds;
    begun = home-payment is_load home;
  }

  -- the home's part
  pub home-part : payment.warehouse ≡ layout.warehouse → (edition : Edition) (s s1 : Stored) (customer : ℕ)
      → customer ≡ number_in payment.who → s1 ≡ with_home_paid payment customer s → HasIndexes s
      → DoesPart layout edition (commands.Payment payment) s s1
  home-part home edition s s1 customer number paid indexes =
      let named : ℕ = number_in payment.who in
      record {
        rows =
            ap (λ (t : Stored). t.tables) paid ∙ ap (λ n. paid_in payment n s.tables) number
            ∙ ap₂ (λ home own. cond own (paid_by edition payment named (cond home (paid_in payment named s.tables) s.tables))
            (cond home (paid_in payment named s.tables) s.tables))
            (sym (eq-eqb payment.warehouse layout.warehouse home)) (sym (other-customer home));
        indexes = subst HasIndexes (sym paid) record {
          orders = indexes.orders;
          last_orders = indexes.last_orders;
          waiting = indexes.waiting;
          lines = indexes.lines;
        };
      }

  pub no-reply_home : payment.warehouse ≡ layout.warehouse → (edition : Edition) (tables : Tables)
      → None ≡ reply_of_part layout edition (commands.Payment payment) tables
  no-reply_home home edition tables =
      reply-other layout edition (commands.Payment payment) tables (other-customer home)

  -- ---- and the customer's

  module _ (there : HasWarehouse layout.load layout.warehouse) (elsewhere : payment.warehouse ≢ layout.warehouse) where
    pub payer-there : (tables : Tables) → KeepsPlaces (own_rows layout) tables
        → has_customer (commands.Payment payment) tables ≡ true
    payer-there tables keeps =
        customer-now layout.load layout.warehouse (commands.Payment payment) tables there (own-customer elsewhere)
        keeps.customers payment_passed

    pub payer-meant : (tables : Tables) → KeepsPlaces (own_rows layout) tables
        → customer_meant layout.warehouse payment.customer_district payment.who tables.customers ≡ None → ⊥
    payer-meant tables keeps none =
        let missing : has_customer (commands.Payment payment) tables ≡ false =
        ap (λ w. is_some (customer_meant w payment.customer_district payment.who tables.customers))
        (own-customer elsewhere) ∙ ap is_some none in
        both_ways (has_customer (commands.Payment payment) tables) missing (payer-there tables keeps)

    pub can-pay_own : (place : ℕ) (s : Stored) → IsSoundStore layout s
        → IsMeantAt layout.warehouse payment.customer_district payment.who s.tables.customers place
        → CanPayCustomer layout payment place s
    can-pay_own place s sound meant = record {
      rows = sound.sound.rows;
      bounds = sound.bounds;
      begun = record {
        customer_home = own-customer elsewhere;
        amount =
            (payment-in_range payment.warehouse payment refl payment_passed.in_range payment_passed.districts).amount;
      };
      payer = meant;
    }

    pub customer-part : (edition : Edition) (s s1 : Stored) → IsSoundStore layout s
        → s1 ≡ with_customer_paid edition payment s
        → DoesPart layout edition (commands.Payment payment) s s1
    customer-part edition s s1 sound paid =
        let named : ℕ = number_in payment.who in
        let number : (payer payment s.tables).id ≡ named =
        meant-number payment.customer_warehouse payment.customer_district s.tables.customers payment.who does.numbered
        (payer-there s.tables sound.places) in
        record {
          rows =
              ap (λ (t : Stored). t.tables) paid ∙ ap (λ n. paid_by edition payment n s.tables) number
              ∙ ap₂ (λ home own. cond own (paid_by edition payment named (cond home (paid_in payment named s.tables) s.tables))
              (cond home (paid_in payment named s.tables) s.tables))
              (sym (ne_eqb payment.warehouse layout.warehouse elsewhere))
              (sym (eq-eqb payment.customer_warehouse layout.warehouse (own-customer elsewhere)));
          indexes = subst HasIndexes (sym paid) record {
            orders = sound.indexes.orders;
            last_orders = sound.indexes.last_orders;
            waiting = sound.indexes.waiting;
            lines = sound.indexes.lines;
          };
        }

    pub customer-reply : (edition : Edition) (tables : Tables) (reply : Reply)
        → reply ≡ payment_reply edition payment (payer payment tables)
        → Some reply ≡ reply_of_part layout edition (commands.Payment payment) tables
    customer-reply edition tables reply is =
        ap Some is
        ∙ reply-own layout edition (commands.Payment payment) tables (own-customer elsewhere)
