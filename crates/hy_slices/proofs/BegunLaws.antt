-- What is known of a command that a warehouse begins, where items of its lines may be missing.
use Rattle.std.proofs.Common.{◌≡◌, ℕ, ◌≤◌, ◌&&◌, ◌==◌, inl, inr, Bool, true, cond, List, [], ◌∷◌, map, Option, Some, None, refl, sym, ap₂, ◌∙◌, arith}
use Rattle.std.specs.Prelude.{All}
use Rattle.std.specs.List.{list_all, list_any}
use Rattle.std.specs.Option.{option_or}
use Rattle.std.proofs.lemmas.Bool.{and_parts, eq-eqb, eqb-true, or_left, or_right}
use Rattle.std.proofs.lemmas.List.Elements.{All-weaker}
use Rattle.hy_rows.specs.Finding.{is_customer}
use Rattle.hy_rows.specs.Tables.{Tables}
use Rattle.hy_rows.specs.declared.item.Item.{Item}
use Rattle.hy_schema.specs.declared.refusal.Refusal.{Refusal}
use Rattle.hy_schema.specs.declared.refusal.Refusal.TheVariants as refusals
use Rattle.hy_schema.specs.Related.{is_item}
use Rattle.hy_commands.specs.declared.command.Command.{Command}
use Rattle.hy_commands.specs.declared.command.Command.TheVariants as commands
use Rattle.hy_commands.specs.declared.command.Delivery.{Delivery}
use Rattle.hy_commands.specs.declared.command.Payment.{Payment}
use Rattle.hy_commands.specs.declared.command.Purchase.{Purchase}
use Rattle.hy_commands.specs.declared.command.PurchaseLine.{PurchaseLine}
use Rattle.hy_commands.specs.Commands.{home_of}
use Rattle.hy_commands.specs.NewOrders.{has_item}
use Rattle.hy_commands.specs.Transactions.{begin_refusal_of, has_items, refusal_of}
use Rattle.hy_commands.proofs.AcceptedLaws.{IsAccepted, IsAcceptedDelivery, IsAcceptedPayment, IsAcceptedPurchase, accepted-delivery, accepted-not_refused, accepted-payment, accepted-purchase, begun as names-one, own-suppliers, purchase-in_range}
use Rattle.hy_commands.proofs.ListLaws.{found-any}
use Rattle.hy_commands.proofs.NamedLaws.{named-home}
use Rattle.hy_slices.specs.Begun.{Begins, BeginsAlone, BeginsPart}

-- a command that a warehouse begins is refused exactly where an item isn't there
pub refusal-begun : (items : List Item) (number : ℕ) (command : Command) (tables : Tables) (known : Bool)
    → begin_refusal_of number command tables ≡ None → has_items items command ≡ known
    → refusal_of items number command tables ≡ cond known None (Some refusals.NoSuchItem)
refusal-begun items number command tables known begins has =
    ap₂ {C = Option Refusal} (λ first test. option_or first (cond test None (Some refusals.NoSuchItem))) begins has

begun : (items : List Item) (number : ℕ) (command : Command) (tables : Tables)
    → begin_refusal_of number command tables ≡ None → has_items items command ≡ true
    → IsAccepted items number command tables
begun items number command tables begins has =
    accepted-not_refused items number command tables (refusal-begun items number command tables true begins has)

-- for each line an item with its number: what else a purchase has passed doesn't depend on the items
abbrev item_for : PurchaseLine → Item
item_for line = record { id = line.item; image = 0; name = []; price = 0 }

known-more : (item : Item) (items : List Item) (lines : List PurchaseLine) → list_all (has_item items) lines ≡ true
    → list_all (has_item (item ∷ items)) lines ≡ true
known-more item items [] known = refl
known-more item items (line ∷ lines) known =
    let both = and_parts (has_item items line) (list_all (has_item items) lines) known in
    ap₂ (λ a b. a && b) (or_right (is_item line.item item) (has_item items line) both.0)
    (known-more item items lines both.1)

known-own : (lines : List PurchaseLine) → list_all (has_item (map item_for lines)) lines ≡ true
known-own [] = refl
known-own (line ∷ lines) =
    ap₂ (λ a b. a && b)
    (or_left (is_item line.item (item_for line)) (has_item (map item_for lines) line) (eq-eqb line.item line.item refl))
    (known-more (item_for line) (map item_for lines) lines (known-own lines))

abbrev own_items : Purchase → List Item
own_items order = map item_for order.lines

-- what a purchase has passed at the home warehouse that begins it, by itself or as its part of it
pub begun-purchase : (number : ℕ) (order : Purchase) (tables : Tables) → Begins number (commands.NewOrder order) tables
    → IsAcceptedPurchase number order
    × (list_any (is_customer order.warehouse order.district order.customer) tables.customers ≡ true)
begun-purchase number order tables (inl begins) =
    let passed = begun (own_items order) number (commands.NewOrder order) tables begins (known-own order.lines) in (
      accepted-purchase (own_items order) number order tables passed,
      sym (found-any (is_customer order.warehouse order.district order.customer) tables.customers) ∙ passed.customer,
    )
begun-purchase number order tables (inr home) = (
  purchase-in_range number order home.home home.in_range home.districts,
  sym (found-any (is_customer order.warehouse order.district order.customer) tables.customers) ∙ home.customer,
)

-- and which numbers the warehouses have that supply its lines
pub begun-suppliers : (number : ℕ) (order : Purchase) (tables : Tables) → number ≤ 16
    → Begins number (commands.NewOrder order) tables → All (λ line. line.supply_warehouse ≤ 16) order.lines
begun-suppliers number order tables near (inl begins) =
    All-weaker (λ (line : PurchaseLine). line.supply_warehouse ≡ number) (λ line. line.supply_warehouse ≤ 16)
    (λ line own. omega (arith, own, near)) order.lines
    (own-suppliers number order (names-one number (commands.NewOrder order) tables begins))
begun-suppliers number order tables near (inr home) = home.suppliers

pub begun-payment : (number : ℕ) (payment : Payment) (tables : Tables)
    → begin_refusal_of number (commands.Payment payment) tables ≡ None → IsAcceptedPayment number payment
begun-payment number payment tables begins =
    accepted-payment [] number payment tables (begun [] number (commands.Payment payment) tables begins refl)

pub begun-delivery : (number : ℕ) (delivery : Delivery) (tables : Tables)
    → begin_refusal_of number (commands.Delivery delivery) tables ≡ None → IsAcceptedDelivery number delivery
begun-delivery number delivery tables begins =
    accepted-delivery [] number delivery tables (begun [] number (commands.Delivery delivery) tables begins refl)

-- a command of which the warehouse has no part is begun by itself
pub alone : (number : ℕ) (command : Command) (tables : Tables) → (BeginsPart number command tables → ⊥)
    → Begins number command tables → BeginsAlone number command tables
alone number command tables never (inl begins) = begins
alone number command tables never (inr part) = absurd (never part)

part-home : (number : ℕ) (command : Command) (tables : Tables) → BeginsPart number command tables
    → home_of command ≡ number
part-home number (commands.NewOrder order) tables home = home.home
part-home number command tables never = absurd never

-- a warehouse begins commands of which it is the home
pub home-begun : (number : ℕ) (command : Command) (tables : Tables) → Begins number command tables
    → home_of command ≡ number
home-begun number command tables (inl begins) =
    eqb-true (home_of command) number
    (named-home (λ named. named == number) command (names-one number command tables begins))
home-begun number command tables (inr part) = part-home number command tables part
