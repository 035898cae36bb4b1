-- What holds between the slices of a command that a warehouse begins.
use Rattle.std.proofs.Common.{◌≡◌, ℕ, zero, suc, ◌+◌, ◌<◌, ◌≤◌, true, List, Option, Some, None, refl, subst, ◌∙◌, arith}
use Rattle.std.proofs.lemmas.Bool.{and_parts, ne_eqb}
use Rattle.hy_rows.specs.Tables.{Tables}
use Rattle.hy_rows.specs.declared.item.Item.{Item}
use Rattle.hy_commands.specs.declared.command.Command.TheVariants as commands
use Rattle.hy_commands.specs.declared.command.Delivery.{Delivery}
use Rattle.hy_commands.specs.declared.command.OrderStatus.{OrderStatus}
use Rattle.hy_commands.specs.declared.command.Payment.{Payment}
use Rattle.hy_commands.specs.declared.command.Purchase.{Purchase}
use Rattle.hy_commands.specs.declared.command.PurchaseLine.{PurchaseLine}
use Rattle.hy_commands.specs.declared.command.StockLevel.{StockLevel}
use Rattle.hy_commands.specs.declared.edition.Edition.{Edition}
use Rattle.hy_commands.specs.Deliveries.{oldest}
use Rattle.hy_commands.specs.Invariant.{IsSoundWarehouse}
use Rattle.hy_commands.specs.NewOrders.{order_number}
use Rattle.hy_commands.specs.Transactions.{begin_refusal_of, payer}
use Rattle.hy_commands.proofs.Kept.{not_0}
use Rattle.hy_commands.proofs.KeptByDelivery.{oldest-other, sound-delivered_in}
use Rattle.hy_commands.proofs.KeptByPayment.{sound-paid, sound-paid_in}
use Rattle.hy_slices.specs.Begun.{Begins}
use Rattle.hy_slices.specs.Between.{IsWholeWarehouse}
use Rattle.hy_slices.specs.Slices.{after_slices, has_item_at, has_items_before, line_behind, with_line}
use Rattle.hy_slices.proofs.BegunLaws.{begun-delivery, begun-payment, begun-purchase}
use Rattle.hy_slices.proofs.WholeLaws.{IsPlacing, number-headed_next, placing-headed, placing-with_line, whole-sound}

-- ---- a purchase

module _ (items : List Item) (number : ℕ) (edition : Edition) (order : Purchase) (tables : Tables) (sound : IsSoundWarehouse items number tables) (begins : Begins number (commands.NewOrder order) tables) where
  abbrev after : ℕ → Tables
  after done = after_slices items number edition (commands.NewOrder order) done tables

  pub number-slices : (done : ℕ) → order_number order (after (suc done)) ≡ order_number order tables + 1
  number-slices zero =
      let passed = begun-purchase number order tables begins in
      number-headed_next items number order tables passed.0 passed.1 (whole-sound items number tables sound)
  number-slices (suc done) = stays (after (suc done)) (line_behind order done) ∙ number-slices done
    where
      stays : (tables : Tables) (line : Option PurchaseLine)
          → order_number order (with_line items number order (done + 1) tables line) ≡ order_number order tables
      stays tables None = refl
      stays tables (Some line) = refl

  pub placing-slices : (done : ℕ) → has_items_before items (commands.NewOrder order) (suc done) ≡ true
      → IsPlacing items number order (order_number order tables) done (after (suc done))
  placing-slices zero known =
      let passed = begun-purchase number order tables begins in
      placing-headed items number order tables passed.0 passed.1 (whole-sound items number tables sound)
  placing-slices (suc done) known =
      let both = and_parts (has_items_before items (commands.NewOrder order) (suc done))
      (has_item_at items (commands.NewOrder order) (suc done)) known in
      placing-with_line items number order (order_number order tables) done (after (suc done))
      (placing-slices done both.0) (line_behind order done) both.1 (number-slices done)

-- ---- a payment

pub whole-payment : (items : List Item) (number : ℕ) (edition : Edition) (payment : Payment) (tables : Tables) (done : ℕ)
    → IsSoundWarehouse items number tables → begin_refusal_of number (commands.Payment payment) tables ≡ None
    → done ≤ 2
    → IsWholeWarehouse items number (after_slices items number edition (commands.Payment payment) done tables)
whole-payment items number edition payment tables zero sound begins within = whole-sound items number tables sound
whole-payment items number edition payment tables (suc zero) sound begins within =
    whole-sound items number (after_slices items number edition (commands.Payment payment) 1 tables)
    (sound-paid_in items number payment (payer payment tables).id tables (begun-payment number payment tables begins)
    sound)
whole-payment items number edition payment tables (suc (suc zero)) sound begins within =
    whole-sound items number (after_slices items number edition (commands.Payment payment) 2 tables)
    (sound-paid items number edition payment (payer payment tables).id tables
    (begun-payment number payment tables begins) sound)
whole-payment items number edition payment tables (suc (suc (suc done))) sound begins within = absurd (omega arith)

-- ---- a delivery

module _ (items : List Item) (number : ℕ) (edition : Edition) (delivery : Delivery) (tables : Tables) (sound : IsSoundWarehouse items number tables) (begins : begin_refusal_of number (commands.Delivery delivery) tables ≡ None) where
  abbrev delivered : ℕ → Tables
  delivered done = after_slices items number edition (commands.Delivery delivery) done tables

  pub sound-slices : (done : ℕ) → IsSoundWarehouse items number (delivered done)
  sound-slices zero = sound
  sound-slices (suc done) =
      let passed = begun-delivery number delivery tables begins in
      sound-delivered_in items number delivery (not_0 10 delivery.carrier passed.carrier)
      (not_0 1_000_000_000_000_000 delivery.at passed.moment) (delivered done) (done + 1) (sound-slices done)

  -- a slice leaves the undelivered orders of the other districts
  oldest-slices : (done district : ℕ) → done < district
      → oldest delivery.warehouse district (delivered done) ≡ oldest delivery.warehouse district tables
  oldest-slices zero district before = refl
  oldest-slices (suc done) district before =
      oldest-other items number delivery (delivered done) (done + 1) district (sound-slices done)
      (ne_eqb (done + 1) district (λ same. omega (arith, same, before)))
      ∙ oldest-slices done district (omega (arith, before))

  pub oldest-before : (done district : ℕ) → done < district
      → oldest number district (delivered done) ≡ oldest number district tables
  oldest-before done district before =
      subst (λ warehouse. oldest warehouse district (delivered done) ≡ oldest warehouse district tables)
      (begun-delivery number delivery tables begins).home (oldest-slices done district before)

-- ---- commands that only read

pub status-slices : (items : List Item) (number : ℕ) (edition : Edition) (status : OrderStatus) (tables : Tables)
    (done : ℕ)
    → after_slices items number edition (commands.OrderStatus status) done tables ≡ tables
status-slices items number edition status tables zero = refl
status-slices items number edition status tables (suc done) = status-slices items number edition status tables done

pub level-slices : (items : List Item) (number : ℕ) (edition : Edition) (level : StockLevel) (tables : Tables)
    (done : ℕ)
    → after_slices items number edition (commands.StockLevel level) done tables ≡ tables
level-slices items number edition level tables zero = refl
level-slices items number edition level tables (suc done) = level-slices items number edition level tables done
