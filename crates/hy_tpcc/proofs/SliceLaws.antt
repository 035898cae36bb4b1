-- What holds of a store between the slices of a command.
use Rattle.std.proofs.Common.{◌≡◌, ◌&&◌, ◌≢◌, ℕ, ◌<◌, ◌≤◌, ◌+◌, ◌==◌, true, Some, None, refl, sym, ap, subst, ◌∙◌, zero, suc, arith}
use Rattle.std.specs.Prelude.{slice_get}
use Rattle.std.proofs.lemmas.Bool.{and_parts}
use Rattle.hy_rows.specs.Tables.{Tables}
use Rattle.hy_rows.specs.declared.customer.Customer.{Customer}
use Rattle.hy_commands.specs.declared.command.Command.{Command}
use Rattle.hy_commands.specs.declared.command.Command.TheVariants as commands
use Rattle.hy_commands.specs.declared.command.Delivery.{Delivery}
use Rattle.hy_commands.specs.Deliveries.{delivered_in, oldest}
use Rattle.hy_commands.specs.declared.command.Payment.{Payment}
use Rattle.hy_commands.specs.declared.edition.Edition.{Edition}
use Rattle.hy_commands.specs.Invariant.{IsSoundWarehouse}
use Rattle.hy_writers.specs.Waiting.{IsSoundStore}
use Rattle.hy_commands.specs.Commands.{has_districts, is_district_number, refusal_of_numbers, slice_count}
use Rattle.hy_commands.specs.Payments.{paid_by, paid_in}
use Rattle.hy_commands.specs.Transactions.{begin_refusal_of, payer}
use Rattle.hy_commands.proofs.AcceptedLaws.{begun, neither, own-payer, passed-numbers}
use Rattle.hy_layout.specs.Layout.{KeepsPlaces, LayoutState, own_rows}
use Rattle.hy_slices.specs.Between.{IsWholeWarehouse}
use Rattle.hy_slices.specs.Begun.{Begins}
use Rattle.hy_slices.proofs.BegunLaws.{alone, begun-delivery, begun-payment}
use Rattle.hy_slices.proofs.BetweenSlices.{oldest-before, sound-slices}
use Rattle.hy_slices.proofs.GrowingSlices.{whole-slices}
use Rattle.hy_writers.specs.of_store.Stored.{Stored}
use Rattle.hy_writers.specs.Begun.{IsBegunDelivery, IsCustomerPayment, IsHomePayment}
use Rattle.hy_writers.specs.Limits.{AreInBounds}
use Rattle.hy_commands.specs.declared.reply.Reply.{Reply}
use Rattle.hy_writers.specs.of_indexes.Indexes.{HasIndexes}
use Rattle.hy_writers.specs.Payments.{CanPayCustomer, CanPayHome, payment_reply, with_home_paid}
use Rattle.hy_writers.proofs.PaymentLaws.{payer-at}
use Rattle.hy_tpcc.proofs.KeepsLaws.{keeps-slices}
use Rattle.hy_tpcc.specs.Executor.{HasDone, answer_of}

pub districts-begun : (warehouse : ℕ) (command : Command) (tables : Tables)
    → begin_refusal_of warehouse command tables ≡ None → has_districts command ≡ true
districts-begun warehouse command tables begins =
    (passed-numbers (λ named. named == warehouse) command
    (neither (refusal_of_numbers (λ named. named == warehouse) command) _ begins).0).districts

pub payment-home : (warehouse : ℕ) (payment : Payment) (tables : Tables) → warehouse ≤ 16
    → Begins warehouse (commands.Payment payment) tables → IsHomePayment warehouse payment
payment-home warehouse payment tables near begins =
    let by_itself = alone warehouse (commands.Payment payment) tables (λ never. never) begins in
    let whole = begun-payment warehouse payment tables by_itself in
    let own = own-payer warehouse payment (begun warehouse (commands.Payment payment) tables by_itself) in
    record {
      home = whole.home;
      district = whole.district;
      customer_warehouse = omega (arith, own, near);
      customer_district = (and_parts (is_district_number payment.district) (is_district_number payment.customer_district)
          (districts-begun warehouse (commands.Payment payment) tables by_itself)).1;
      amount = whole.amount;
      moment = whole.moment;
    }

pub payment-customer : (warehouse : ℕ) (payment : Payment) (tables : Tables)
    → Begins warehouse (commands.Payment payment) tables → IsCustomerPayment warehouse payment
payment-customer warehouse payment tables begins =
    let by_itself = alone warehouse (commands.Payment payment) tables (λ never. never) begins in
    record {
      customer_home = own-payer warehouse payment (begun warehouse (commands.Payment payment) tables by_itself);
      amount = (begun-payment warehouse payment tables by_itself).amount;
    }

module _ (layout : LayoutState) (edition : Edition) (command : Command) (place done : ℕ) (before : Tables) (s : Stored)
    (now : HasDone layout edition command place done before s) (within : done ≤ slice_count command) where
  pub whole-done : IsWholeWarehouse layout.load.items layout.warehouse s.tables
  whole-done =
      subst (IsWholeWarehouse layout.load.items layout.warehouse) (sym now.rows)
      (whole-slices layout.load.items layout.warehouse edition command before done now.begun.sound now.begun.begun within now.known)

  pub bounds-done : AreInBounds s.tables
  bounds-done = subst AreInBounds (sym now.rows) (now.begun.bounds done within now.known)

  pub places-done : KeepsPlaces (own_rows layout) s.tables
  places-done =
      subst (KeepsPlaces (own_rows layout)) (sym now.rows)
      (keeps-slices (own_rows layout) layout.load.items layout.warehouse edition command done before now.begun.places)

-- ---- a payment

pub can-pay_home : (layout : LayoutState) (edition : Edition) (payment : Payment) (place done : ℕ) (before : Tables) (s : Stored)
    → layout.warehouse ≤ 16 → done < 2 → HasDone layout edition (commands.Payment payment) place done before s
    → CanPayHome layout payment s
can-pay_home layout edition payment place done before s near next now =
    let within : done ≤ 2 = omega (arith, next) in
    record {
      rows = (whole-done layout edition (commands.Payment payment) place done before s now within).rows;
      bounds = bounds-done layout edition (commands.Payment payment) place done before s now within;
      begun = payment-home layout.warehouse payment before near now.begun.begun;
    }

pub can-pay_customer : (layout : LayoutState) (edition : Edition) (payment : Payment) (place done : ℕ) (before : Tables) (s : Stored)
    → done < 2 → HasDone layout edition (commands.Payment payment) place done before s
    → CanPayCustomer layout payment place s
can-pay_customer layout edition payment place done before s next now =
    let within : done ≤ 2 = omega (arith, next) in
    record {
      rows = (whole-done layout edition (commands.Payment payment) place done before s now within).rows;
      bounds = bounds-done layout edition (commands.Payment payment) place done before s now within;
      begun = payment-customer layout.warehouse payment before now.begun.begun;
      payer = now.begun.customer s.tables
          (places-done layout edition (commands.Payment payment) place done before s now within);
    }

-- the first slice, with the number of the customer at the place
pub home-done : (layout : LayoutState) (edition : Edition) (payment : Payment) (place customer : ℕ) (before : Tables) (s s1 : Stored)
    (row : Customer) → slice_get s.tables.customers place ≡ Some row → customer ≡ row.id
    → s1 ≡ with_home_paid payment customer s → HasDone layout edition (commands.Payment payment) place 0 before s
    → HasDone layout edition (commands.Payment payment) place 1 before s1
home-done layout edition payment place customer before s s1 row here is paid now =
    let can = can-pay_customer layout edition payment place 0 before s (omega arith) now in
    let payer_is = payer-at layout.warehouse payment s.tables place row can.begun can.payer here in
    let number : customer ≡ (payer payment s.tables).id = is ∙ ap (λ (row : Customer). row.id) (sym payer_is) in
    record {
      begun = now.begun;
      rows =
          ap (λ (t : Stored). t.tables) paid ∙ ap (λ n. paid_in payment n s.tables) number
          ∙ ap (λ (t : Tables). paid_in payment (payer payment t).id t) now.rows;
      known = refl;
      indexes = subst HasIndexes (sym paid)
          (record {
            orders = now.indexes.orders;
            last_orders = now.indexes.last_orders;
            waiting = now.indexes.waiting;
            lines = now.indexes.lines;
          });
    }

-- the last slice
pub paid-done : (layout : LayoutState) (edition : Edition) (payment : Payment) (place done : ℕ) (before : Tables) (s s1 : Stored)
    → done < 2 → done ≢ 0
    → s1 ≡ record s { tables = paid_by edition payment (payer payment s.tables).id s.tables }
    → HasDone layout edition (commands.Payment payment) place done before s
    → HasDone layout edition (commands.Payment payment) place (done + 1) before s1
paid-done layout edition payment place zero before s s1 next behind paid now = absurd (behind refl)
paid-done layout edition payment place (suc zero) before s s1 next behind paid now = record {
  begun = now.begun;
  rows =
      ap (λ (t : Stored). t.tables) paid
      ∙ ap (λ (t : Tables). paid_by edition payment (payer payment t).id t) now.rows;
  known = refl;
  indexes = subst HasIndexes (sym paid)
      (record {
        orders = now.indexes.orders;
        last_orders = now.indexes.last_orders;
        waiting = now.indexes.waiting;
        lines = now.indexes.lines;
      });
}
paid-done layout edition payment place (suc (suc done)) before s s1 next behind paid now = absurd (omega arith)

-- its reply is that of the payment: the first slice leaves the customers
pub reply-paid : (layout : LayoutState) (edition : Edition) (payment : Payment) (place done : ℕ) (before : Tables) (s : Stored)
    (reply : Reply) → done < 2 → done ≢ 0 → reply ≡ payment_reply edition payment (payer payment s.tables)
    → HasDone layout edition (commands.Payment payment) place done before s
    → Some reply ≡ answer_of layout edition (commands.Payment payment) done before
reply-paid layout edition payment place zero before s reply next behind is now = absurd (behind refl)
reply-paid layout edition payment place (suc zero) before s reply next behind is now =
    ap Some (is ∙ ap (λ (t : Tables). payment_reply edition payment (payer payment t)) now.rows)
reply-paid layout edition payment place (suc (suc done)) before s reply next behind is now = absurd (omega arith)

-- ---- the transactions that only read

-- before its first slice a command finds a sound store
pub sound-begun : (layout : LayoutState) (edition : Edition) (command : Command) (place : ℕ) (before : Tables) (s : Stored)
    → HasDone layout edition command place 0 before s → IsSoundStore layout s
sound-begun layout edition command place before s now = record {
  sound = subst (IsSoundWarehouse layout.load.items layout.warehouse) (sym now.rows) now.begun.sound;
  places = subst (KeepsPlaces (own_rows layout)) (sym now.rows) now.begun.places;
  bounds = subst AreInBounds (sym now.rows) (now.begun.bounds 0 (omega arith) refl);
  indexes = now.indexes;
}

-- ---- a delivery

pub delivery-begun : (warehouse : ℕ) (delivery : Delivery) (tables : Tables)
    → Begins warehouse (commands.Delivery delivery) tables → IsBegunDelivery warehouse delivery
delivery-begun warehouse delivery tables begins =
    let whole = begun-delivery warehouse delivery tables (alone warehouse (commands.Delivery delivery) tables (λ never. never) begins) in
    record { home = whole.home; carrier = whole.carrier; moment = whole.moment }

-- between its slices the rows are sound
pub sound-delivering : (layout : LayoutState) (edition : Edition) (delivery : Delivery) (place done : ℕ) (before : Tables) (s : Stored)
    → done < 10 → HasDone layout edition (commands.Delivery delivery) place done before s → IsSoundStore layout s
sound-delivering layout edition delivery place done before s next now =
    let within : done ≤ 10 = omega (arith, next) in
    record {
      sound = subst (IsSoundWarehouse layout.load.items layout.warehouse) (sym now.rows)
          (sound-slices layout.load.items layout.warehouse edition delivery before now.begun.sound
          (alone layout.warehouse (commands.Delivery delivery) before (λ never. never) now.begun.begun) done);
      places = places-done layout edition (commands.Delivery delivery) place done before s now within;
      bounds = bounds-done layout edition (commands.Delivery delivery) place done before s now within;
      indexes = now.indexes;
    }

pub delivered-done : (layout : LayoutState) (edition : Edition) (delivery : Delivery) (place done : ℕ) (before : Tables) (s s1 : Stored)
    → s1.tables ≡ delivered_in delivery s.tables (done + 1) → HasIndexes s1
    → HasDone layout edition (commands.Delivery delivery) place done before s
    → HasDone layout edition (commands.Delivery delivery) place (done + 1) before s1
delivered-done layout edition delivery place done before s s1 delivered indexes now =
    let after : HasDone layout edition (commands.Delivery delivery) place (suc done) before s1 = record {
      begun = now.begun;
      rows = delivered ∙ ap (λ (t : Tables). delivered_in delivery t (done + 1)) now.rows;
      known = ap (λ known. known && true) now.known;
      indexes = indexes;
    } in
    let one_more : suc done ≡ done + 1 = omega arith in
    subst (λ n. HasDone layout edition (commands.Delivery delivery) place n before s1) one_more after

-- the order that a slice delivers is the oldest one of before
pub oldest-delivered : (layout : LayoutState) (edition : Edition) (delivery : Delivery) (place done : ℕ) (before : Tables) (s : Stored)
    → HasDone layout edition (commands.Delivery delivery) place done before s
    → oldest layout.warehouse (done + 1) s.tables ≡ oldest layout.warehouse (done + 1) before
oldest-delivered layout edition delivery place done before s now =
    ap (oldest layout.warehouse (done + 1)) now.rows
    ∙ oldest-before layout.load.items layout.warehouse edition delivery before now.begun.sound
    (alone layout.warehouse (commands.Delivery delivery) before (λ never. never) now.begun.begun) done (done + 1) (omega arith)
