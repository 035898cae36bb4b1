-- The slices of a command, and the part of one over several warehouses, leave customers and stock at their places.
use Rattle.std.proofs.Common.{◌≡◌, ℕ, ◌+◌, ◌==◌, Bool, true, false, cond, List, [], ◌∷◌, filter, map, Option, Some, None, refl, ◌∙◌, zero, suc}
use Rattle.std.specs.Prelude.{fold, not}
use Rattle.hy_rows.specs.declared.item.Item.{Item}
use Rattle.hy_rows.specs.declared.stock.Stock.{Stock}
use Rattle.hy_rows.specs.Finding.{first_or, is_customer}
use Rattle.hy_rows.specs.Rows.{order_of}
use Rattle.hy_rows.specs.Tables.{Tables}
use Rattle.hy_schema.proofs.ChangedLists.{map-with_changed}
use Rattle.hy_schema.specs.Keys.{district_numbers}
use Rattle.hy_schema.specs.Related.{is_order}
use Rattle.hy_commands.specs.declared.command.Command.{Command}
use Rattle.hy_commands.specs.declared.command.Command.TheVariants as commands
use Rattle.hy_commands.specs.declared.command.Delivery.{Delivery}
use Rattle.hy_commands.specs.declared.command.Payment.{Payment}
use Rattle.hy_commands.specs.declared.command.Purchase.{Purchase}
use Rattle.hy_commands.specs.declared.command.PurchaseLine.{PurchaseLine}
use Rattle.hy_commands.specs.declared.edition.Edition.{Edition}
use Rattle.hy_commands.specs.Customers.{identity_of}
use Rattle.hy_commands.specs.Deliveries.{customer_delivered, delivered, delivered_in, oldest, order_cents, with_delivered}
use Rattle.hy_commands.specs.Invariant.{stock_key}
use Rattle.hy_commands.specs.NewOrders.{is_stock, ordered, sold, sold_line}
use Rattle.hy_commands.specs.Parts.{number_in, part}
use Rattle.hy_commands.specs.Payments.{customer_paid, paid_by, paid_in}
use Rattle.hy_commands.specs.Transactions.{payer}
use Rattle.hy_layout.specs.Layout.{KeepsPlaces}
use Rattle.hy_slices.specs.Slices.{after_slices, line_behind, sliced, with_line}

module _ (loaded : Tables) where
  keeps-paid_by : (edition : Edition) (payment : Payment) (customer : ℕ) (tables : Tables) → KeepsPlaces loaded tables
      → KeepsPlaces loaded (paid_by edition payment customer tables)
  keeps-paid_by edition payment customer tables keeps = record {
    customers =
        map-with_changed identity_of (is_customer payment.customer_warehouse payment.customer_district customer)
        (customer_paid edition payment) (λ row. refl) tables.customers
        ∙ keeps.customers;
    stock = keeps.stock;
  }

  keeps-delivered_in : (delivery : Delivery) (tables : Tables) (district : ℕ) → KeepsPlaces loaded tables
      → KeepsPlaces loaded (delivered_in delivery tables district)
  keeps-delivered_in delivery tables district keeps =
      let number : ℕ = oldest delivery.warehouse district tables in
      let order = first_or (order_of []) (is_order delivery.warehouse district number) tables.orders in
      elim (number == 0) as (λ b. KeepsPlaces loaded (cond b tables (with_delivered delivery order tables))) [
        | true ↦ keeps
        | false ↦ record {
          customers =
              map-with_changed identity_of (is_customer order.warehouse order.district order.customer)
              (customer_delivered (order_cents order tables.order_lines)) (λ row. refl) tables.customers
              ∙ keeps.customers;
          stock = keeps.stock;
        }
      ]

  keeps-with_line : (items : List Item) (warehouse : ℕ) (order : Purchase) (place : ℕ) (tables : Tables)
      (line : Option PurchaseLine) → KeepsPlaces loaded tables
      → KeepsPlaces loaded (with_line items warehouse order place tables line)
  keeps-with_line items warehouse order place tables None keeps = keeps
  keeps-with_line items warehouse order place tables (Some line) keeps = record {
    customers = keeps.customers;
    stock =
        elim (line.supply_warehouse == warehouse) as (λ b.
        map stock_key (cond b (sold_line warehouse order tables.stock line) tables.stock) ≡ map stock_key loaded.stock) [
          | true ↦ map-with_changed stock_key (is_stock warehouse line.item)
              (sold (not (order.warehouse == warehouse)) line.quantity) (λ row. refl) tables.stock
              ∙ keeps.stock
          | false ↦ keeps.stock
        ];
  }

  keeps-sliced : (items : List Item) (warehouse : ℕ) (edition : Edition) (command : Command) (done : ℕ) (tables : Tables)
      → KeepsPlaces loaded tables → KeepsPlaces loaded (sliced items warehouse edition command done tables)
  keeps-sliced items warehouse edition (commands.NewOrder order) zero tables keeps =
      record { customers = keeps.customers; stock = keeps.stock }
  keeps-sliced items warehouse edition (commands.NewOrder order) (suc done) tables keeps =
      keeps-with_line items warehouse order (done + 1) tables (line_behind order done) keeps
  keeps-sliced items warehouse edition (commands.Payment payment) zero tables keeps =
      record { customers = keeps.customers; stock = keeps.stock }
  keeps-sliced items warehouse edition (commands.Payment payment) (suc done) tables keeps =
      keeps-paid_by edition payment (payer payment tables).id tables keeps
  keeps-sliced items warehouse edition (commands.OrderStatus status) done tables keeps = keeps
  keeps-sliced items warehouse edition (commands.Delivery delivery) done tables keeps =
      keeps-delivered_in delivery tables (done + 1) keeps
  keeps-sliced items warehouse edition (commands.StockLevel level) done tables keeps = keeps

  pub keeps-slices : (items : List Item) (warehouse : ℕ) (edition : Edition) (command : Command) (done : ℕ)
      (tables : Tables) → KeepsPlaces loaded tables
      → KeepsPlaces loaded (after_slices items warehouse edition command done tables)
  keeps-slices items warehouse edition command zero tables keeps = keeps
  keeps-slices items warehouse edition command (suc done) tables keeps =
      keeps-sliced items warehouse edition command done (after_slices items warehouse edition command done tables)
      (keeps-slices items warehouse edition command done tables keeps)

  -- ---- the part of a command

  keeps-districts : (delivery : Delivery) (districts : List ℕ) (tables : Tables) → KeepsPlaces loaded tables
      → KeepsPlaces loaded (fold (delivered_in delivery) tables districts)
  keeps-districts delivery [] tables keeps = keeps
  keeps-districts delivery (district ∷ districts) tables keeps =
      keeps-districts delivery districts (delivered_in delivery tables district)
      (keeps-delivered_in delivery tables district keeps)

  keeps-sold : (supplier : ℕ) (order : Purchase) (lines : List PurchaseLine) (stock : List Stock)
      → map stock_key stock ≡ map stock_key loaded.stock
      → map stock_key (fold (sold_line supplier order) stock lines) ≡ map stock_key loaded.stock
  keeps-sold supplier order [] stock keeps = keeps
  keeps-sold supplier order (line ∷ lines) stock keeps =
      keeps-sold supplier order lines (sold_line supplier order stock line)
      (map-with_changed stock_key (is_stock supplier line.item)
      (sold (not (order.warehouse == supplier)) line.quantity) (λ row. refl) stock ∙ keeps)

  keeps-ordered : (items : List Item) (order : Purchase) (tables : Tables) (home : Bool) → KeepsPlaces loaded tables
      → KeepsPlaces loaded (cond home (ordered items order tables) tables)
  keeps-ordered items order tables true keeps = record { customers = keeps.customers; stock = keeps.stock }
  keeps-ordered items order tables false keeps = keeps

  keeps-paid_in : (payment : Payment) (customer : ℕ) (tables : Tables) (home : Bool) → KeepsPlaces loaded tables
      → KeepsPlaces loaded (cond home (paid_in payment customer tables) tables)
  keeps-paid_in payment customer tables true keeps = record { customers = keeps.customers; stock = keeps.stock }
  keeps-paid_in payment customer tables false keeps = keeps

  pub keeps-part : (items : List Item) (number : ℕ) (edition : Edition) (command : Command) (tables : Tables)
      → KeepsPlaces loaded tables → KeepsPlaces loaded (part items number edition command tables)
  keeps-part items number edition (commands.NewOrder order) tables keeps =
      let home : Tables = cond (order.warehouse == number) (ordered items order tables) tables in
      let kept : KeepsPlaces loaded home = keeps-ordered items order tables (order.warehouse == number) keeps in
      record {
        customers = kept.customers;
        stock =
            keeps-sold number order (filter (λ line. line.supply_warehouse == number) order.lines) home.stock
            kept.stock;
      }
  keeps-part items number edition (commands.Payment payment) tables keeps =
      let customer : ℕ = number_in payment.who in
      let home : Tables = cond (payment.warehouse == number) (paid_in payment customer tables) tables in
      let kept : KeepsPlaces loaded home = keeps-paid_in payment customer tables (payment.warehouse == number) keeps in
      elim (payment.customer_warehouse == number) as (λ b.
      KeepsPlaces loaded (cond b (paid_by edition payment customer home) home)) [
        | true ↦ keeps-paid_by edition payment customer home kept
        | false ↦ kept
      ]
  keeps-part items number edition (commands.OrderStatus status) tables keeps = keeps
  keeps-part items number edition (commands.Delivery delivery) tables keeps =
      elim (delivery.warehouse == number) as (λ b. KeepsPlaces loaded (cond b (delivered delivery tables) tables)) [
        | true ↦ keeps-districts delivery district_numbers tables keeps
        | false ↦ keeps
      ]
  keeps-part items number edition (commands.StockLevel level) tables keeps = keeps
