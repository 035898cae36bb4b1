-- The numbers and the rows of a warehouse between the slices of any command.
use Rattle.std.proofs.Common.{◌≡◌, ℕ, zero, suc, ◌+◌, ◌-◌, ◌*◌, ◌≤◌, true, List, length, slice_get, Option, Some, None, refl, sym, subst, arith}
use Rattle.std.specs.Prelude.{All}
use Rattle.std.specs.Option.{IfSome}
use Rattle.std.proofs.lemmas.Bool.{and_parts}
use Rattle.std.proofs.lemmas.List.Sums.{AllPass-from_list_all}
use Rattle.std.proofs.lemmas.Option.{IfSome_then, get_or_from_slice_get, slice_get_within}
use Rattle.hy_rows.specs.Finding.{is_district}
use Rattle.hy_rows.specs.Tables.{Lists, Tables}
use Rattle.hy_rows.specs.declared.item.Item.{Item}
use Rattle.hy_rows.proofs.BetweenLaws.{bounds}
use Rattle.hy_rows.proofs.RangeLaws.{allowed-at}
use Rattle.hy_rows.specs.Catalogue.{columns_of}
use Rattle.hy_rows.specs.Rows.{item_values, warehouse_values}
use Rattle.hy_rows.specs.declared.catalogue.Table.TheVariants as table
use Rattle.hy_schema.specs.Loads.{IsItemAt, IsLoad, IsWarehouseAt}
use Rattle.hy_commands.specs.declared.command.Command.{Command}
use Rattle.hy_commands.specs.declared.command.Command.TheVariants as commands
use Rattle.hy_commands.specs.declared.command.Commit.{Commit}
use Rattle.hy_commands.specs.declared.command.Delivery.{Delivery}
use Rattle.hy_commands.specs.declared.command.Payment.{Payment}
use Rattle.hy_commands.specs.declared.command.Purchase.{Purchase}
use Rattle.hy_commands.specs.declared.command.PurchaseLine.{PurchaseLine}
use Rattle.hy_commands.specs.declared.edition.Edition.{Edition}
use Rattle.hy_commands.specs.Commands.{is_line_in_range, slice_count}
use Rattle.hy_commands.specs.Growth.{HasGrownBy, IsDistrictUpTo}
use Rattle.hy_commands.specs.Invariant.{IsSoundWarehouse}
use Rattle.hy_commands.specs.NewOrders.{order_number}
use Rattle.hy_commands.specs.Replay.{HasWarehouse, rows_after}
use Rattle.hy_commands.specs.Transactions.{begin_refusal_of, payer}
use Rattle.hy_commands.proofs.GrowthLaws.{ItemsFit, grown-later, grown-paid, payer-small}
use Rattle.hy_commands.proofs.Grown.{grown-rows}
use Rattle.hy_commands.proofs.Kept.{sound-rows}
use Rattle.hy_commands.proofs.ListLaws.{All-find}
use Rattle.hy_commands.proofs.SoundLoad.{all-by_place}
use Rattle.hy_slices.specs.Begun.{Begins}
use Rattle.hy_slices.specs.Between.{IsWholeWarehouse}
use Rattle.hy_slices.specs.Slices.{after_slices, has_item_at, has_items_before, headed_number, is_known, line_behind, lined, with_line}
use Rattle.hy_slices.proofs.BegunLaws.{alone, begun-delivery, begun-payment, begun-purchase, begun-suppliers}
use Rattle.hy_slices.proofs.BetweenSlices.{level-slices, number-slices, placing-slices, sound-slices, status-slices, whole-payment}
use Rattle.hy_slices.proofs.GrowingLaws.{IsGrowing, growing-delivered_in, growing-end, growing-headed, growing-later, growing-lined, growing-start}
use Rattle.hy_slices.proofs.SliceLaws.{take-more}
use Rattle.hy_slices.proofs.WholeLaws.{home-district, number-is, whole-sound}

-- what holds of all rows holds of the one at a place
All-at : {Row : Type 0} (P : Row → Type 0) (rows : List Row) (place : ℕ) (row : Row) → slice_get rows place ≡ Some row
    → All P rows → P row
All-at P rows place row is all =
    subst P (get_or_from_slice_get rows place row row is) (all place row (slice_get_within rows place row is))

module _ (items : List Item) (fits : ItemsFit items) (number : ℕ) (near : number ≤ 16) (n : ℕ) (tables : Tables) (sound : IsSoundWarehouse items number tables) (grown : HasGrownBy n tables) where
  -- ---- a purchase

  module _ (edition : Edition) (order : Purchase) (begins : Begins number (commands.NewOrder order) tables) where
    abbrev after : ℕ → Tables
    after done = after_slices items number edition (commands.NewOrder order) done tables

    number-small : order_number order tables ≤ 1_000_000_000 + n
    number-small =
        let passed = begun-purchase number order tables begins in
        let whole = whole-sound items number tables sound in
        let home = home-district items number order tables passed.0 passed.1 whole in
        let next = (All-find (IsDistrictUpTo n) (is_district order.warehouse order.district) tables.districts home.0
        grown.districts home.1).next_order in
        let is = number-is items number order tables passed.0 passed.1 whole home.0 home.1 in
        omega (arith, is, next)

    -- the next line
    growing-line : (done : ℕ) (state : Tables) (line : Option PurchaseLine) → done + 1 ≤ 15
        → slice_get order.lines done ≡ line → is_known items line ≡ true
        → headed_number order state ≤ 1_000_000_000 + (n + 1)
        → IsGrowing (n + 1) (10 * n) (15 * n + done) state
        → IsGrowing (n + 1) (10 * n) (15 * n + suc done) (with_line items number order (done + 1) state line)
    growing-line done state None within is known low growing =
        growing-later (n + 1) (10 * n) (10 * n) (15 * n + done) (15 * n + suc done) state (omega arith) (omega arith)
        growing
    growing-line done state (Some line) within is known low growing =
        let passed = begun-purchase number order tables begins in
        let in_range = All-at (λ line. is_line_in_range line ≡ true) order.lines done line is
        (AllPass-from_list_all is_line_in_range order.lines (passed.0).in_range) in
        let near_line = All-at (λ line. line.supply_warehouse ≤ 16) order.lines done line is
        (begun-suppliers number order tables near begins) in
        let taken : ℕ = headed_number order state in
        growing-later (n + 1) (10 * n) (10 * n) (15 * n + done + 1) (15 * n + suc done)
        (lined items number order taken (done + 1) state line) (omega arith) (omega arith)
        (growing-lined items fits number order taken (done + 1) line (n + 1) low within
        (bounds 1 10 line.quantity in_range).1 near_line known (10 * n) (15 * n + done) state growing)

    growing-purchase : (done : ℕ) → done ≤ length order.lines
        → has_items_before items (commands.NewOrder order) (suc done) ≡ true
        → IsGrowing (n + 1) (10 * n) (15 * n + done) (after (suc done))
    growing-purchase zero within known =
        let passed = begun-purchase number order tables begins in
        growing-later (n + 1) (10 * n) (10 * n) (15 * n) (15 * n + 0) (after 1) (omega arith) (omega arith)
        (growing-headed number order tables n number-small (passed.0).count (passed.0).moment passed.1 grown)
    growing-purchase (suc done) within known =
        let both = and_parts (has_items_before items (commands.NewOrder order) (suc done))
        (has_item_at items (commands.NewOrder order) (suc done)) known in
        let few = (bounds 5 15 (length order.lines) ((begun-purchase number order tables begins).0).count).1 in
        let next = number-slices items number edition order tables sound begins done in
        growing-line done (after (suc done)) (line_behind order done) (omega (arith, few)) refl both.1
        (omega (arith, next, number-small)) (growing-purchase done (omega arith) both.0)

    grown-purchase : (done : ℕ) → done ≤ length order.lines + 1
        → has_items_before items (commands.NewOrder order) done ≡ true → HasGrownBy (n + 1) (after done)
    grown-purchase zero within known = grown-later n tables grown
    grown-purchase (suc done) within known =
        let few = (bounds 5 15 (length order.lines) ((begun-purchase number order tables begins).0).count).1 in
        growing-end (n + 1) (10 * n) (15 * n + done) (after (suc done)) (omega arith) (omega (arith, few, within))
        (growing-purchase done (omega (arith, within)) known)

  -- ---- a payment

  grown-payment : (edition : Edition) (payment : Payment) (done : ℕ)
      → begin_refusal_of number (commands.Payment payment) tables ≡ None
      → done ≤ 2 → HasGrownBy (n + 1) (after_slices items number edition (commands.Payment payment) done tables)
  grown-payment edition payment zero begins within = grown-later n tables grown
  grown-payment edition payment (suc done) begins within =
      let passed = begun-payment number payment tables begins in
      let customer : ℕ = (payer payment tables).id in
      let paid = grown-paid edition payment (payer payment tables).id tables n passed.amount passed.moment
      (payer-small payment tables n (10 * n) grown.customers) grown in
      let later = grown-later n tables grown in
      rest done (omega (arith, within)) paid record {
        warehouses = paid.warehouses;
        districts = paid.districts;
        customers = later.customers;
        history = paid.history;
        orders = paid.orders;
        new_orders = paid.new_orders;
        order_lines = paid.order_lines;
        stock = paid.stock;
      }
    where
      rest : (done : ℕ) → done ≤ 1
          → HasGrownBy (n + 1) (after_slices items number edition (commands.Payment payment) 2 tables)
          → HasGrownBy (n + 1) (after_slices items number edition (commands.Payment payment) 1 tables)
          → HasGrownBy (n + 1) (after_slices items number edition (commands.Payment payment) (suc done) tables)
      rest zero within all first = first
      rest (suc zero) within all first = all
      rest (suc (suc done)) within all first = absurd (omega arith)

  -- ---- a delivery

  module _ (edition : Edition) (delivery : Delivery)
      (begins : begin_refusal_of number (commands.Delivery delivery) tables ≡ None) where
    growing-delivery : (done : ℕ)
        → IsGrowing (n + 1) (10 * n + done) (15 * n)
        (after_slices items number edition (commands.Delivery delivery) done tables)
    growing-delivery zero =
        growing-later (n + 1) (10 * n) (10 * n + 0) (15 * n) (15 * n) tables (omega arith) (omega arith)
        (growing-start n tables grown)
    growing-delivery (suc done) =
        let passed = begun-delivery number delivery tables begins in
        let before : Tables = after_slices items number edition (commands.Delivery delivery) done tables in
        growing-later (n + 1) (10 * n + done + 1) (10 * n + suc done) (15 * n) (15 * n)
        (after_slices items number edition (commands.Delivery delivery) (suc done) tables) (omega arith) (omega arith)
        (growing-delivered_in items number delivery passed.carrier passed.moment (n + 1) (10 * n + done) (15 * n) before
        (done + 1) (sound-slices items number edition delivery tables sound begins done) (growing-delivery done))

    grown-delivery : (done : ℕ) → done ≤ 10
        → HasGrownBy (n + 1) (after_slices items number edition (commands.Delivery delivery) done tables)
    grown-delivery done within =
        growing-end (n + 1) (10 * n + done) (15 * n)
        (after_slices items number edition (commands.Delivery delivery) done tables)
        (omega (arith, within)) (omega arith) (growing-delivery done)

  -- ---- all commands

  pub grown-slices : (edition : Edition) (command : Command) (done : ℕ) → Begins number command tables
      → done ≤ slice_count command → has_items_before items command done ≡ true
      → HasGrownBy (n + 1) (after_slices items number edition command done tables)
  grown-slices edition (commands.NewOrder order) done begins within known =
      grown-purchase edition order begins done within known
  grown-slices edition (commands.Payment payment) done begins within known =
      grown-payment edition payment done (alone number (commands.Payment payment) tables (λ never. never) begins) within
  grown-slices edition (commands.OrderStatus status) done begins within known =
      subst (HasGrownBy (n + 1)) (sym (status-slices items number edition status tables done))
      (grown-later n tables grown)
  grown-slices edition (commands.Delivery delivery) done begins within known =
      grown-delivery edition delivery (alone number (commands.Delivery delivery) tables (λ never. never) begins) done within
  grown-slices edition (commands.StockLevel level) done begins within known =
      subst (HasGrownBy (n + 1)) (sym (level-slices items number edition level tables done))
      (grown-later n tables grown)

-- ---- the rows of any command

pub whole-slices : (items : List Item) (number : ℕ) (edition : Edition) (command : Command) (tables : Tables) (done : ℕ)
    → IsSoundWarehouse items number tables → Begins number command tables
    → done ≤ slice_count command → has_items_before items command done ≡ true
    → IsWholeWarehouse items number (after_slices items number edition command done tables)
whole-slices items number edition (commands.NewOrder order) tables zero sound begins within known =
    whole-sound items number tables sound
whole-slices items number edition (commands.NewOrder order) tables (suc done) sound begins within known =
    (placing-slices items number edition order tables sound begins done known).whole
whole-slices items number edition (commands.Payment payment) tables done sound begins within known =
    whole-payment items number edition payment tables done sound (alone number (commands.Payment payment) tables (λ never. never) begins) within
whole-slices items number edition (commands.OrderStatus status) tables done sound begins within known =
    subst (IsWholeWarehouse items number) (sym (status-slices items number edition status tables done))
    (whole-sound items number tables sound)
whole-slices items number edition (commands.Delivery delivery) tables done sound begins within known =
    whole-sound items number (after_slices items number edition (commands.Delivery delivery) done tables)
    (sound-slices items number edition delivery tables sound (alone number (commands.Delivery delivery) tables (λ never. never) begins) done)
whole-slices items number edition (commands.StockLevel level) tables done sound begins within known =
    subst (IsWholeWarehouse items number) (sym (level-slices items number edition level tables done))
    (whole-sound items number tables sound)

-- ---- loads

-- the items of a load are small
pub items-fit : (load : Lists) → IsLoad load → ItemsFit load.items
items-fit load is_load =
    all-by_place (λ row. (row.id ≤ 100_000) × (row.price ≤ 1_000_000)) load.items
    (λ place. IfSome_then (slice_get load.items place) {P = IsItemAt place}
    {Q = λ row. (row.id ≤ 100_000) × (row.price ≤ 1_000_000)} (is_load.items.each place)
    (λ row right.
    let ranges = allowed-at (columns_of table.Item) (item_values row) right.0 in
    ((bounds 1 100_000 row.id (ranges 0)).1, (bounds 1 1_000_000 row.price (ranges 3)).1)))

-- the number of a warehouse is that of its row
pub number-near : (load : Lists) → IsLoad load → (number : ℕ) → HasWarehouse load number → number ≤ 16
number-near load is_load number between =
    let ends = bounds 1 (length load.tables.warehouses) number between in
    let row = take-more load.tables.warehouses (number - 1) (omega (arith, ends.0, ends.1)) in
    let right : IsWarehouseAt (number - 1) row.0 = subst (λ row. IfSome row (IsWarehouseAt (number - 1))) row.1
    (is_load.warehouses.each (number - 1)) in
    omega (arith, ends.0, (bounds 1 16 (row.0).id (allowed-at (columns_of table.Warehouse) (warehouse_values row.0) right.0 0)).1, right.1)

pub grown-between : (load : Lists) → IsLoad load → (number : ℕ) (commits : List Commit) (edition : Edition)
    (command : Command) (done : ℕ) → HasWarehouse load number → Begins number command (rows_after load number commits)
    → done ≤ slice_count command → has_items_before load.items command done ≡ true
    → HasGrownBy (length commits + 1)
    (after_slices load.items number edition command done (rows_after load number commits))
grown-between load is_load number commits edition command done between begins within known =
    grown-slices load.items (items-fit load is_load) number (number-near load is_load number between) (length commits)
    (rows_after load number commits) (sound-rows load number commits is_load between)
    (grown-rows load number commits is_load between) edition command done begins within known
