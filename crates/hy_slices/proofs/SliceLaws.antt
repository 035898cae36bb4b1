-- The slices of a command together are the command.
use Rattle.std.proofs.Common.{◌≡◌, ◌≢◌, ℕ, zero, suc, ◌+◌, ◌-◌, ◌≤◌, ◌<◌, ◌==◌, ◌&&◌, Bool, true, false, cond, List, [], ◌∷◌, ◌++◌, filter, length, slice_get, take, Option, Some, None, refl, sym, ap, ap₂, ◌∙◌, arith, append_assoc, lit<}
use Rattle.std.specs.Prelude.{fold, unwrap_or}
use Rattle.std.specs.List.{find, list_all}
use Rattle.std.specs.Option.{option_map}
use Rattle.std.proofs.Math.Bool.{and-true}
use Rattle.std.proofs.lemmas.List.Folds.{list_all-append}
use Rattle.std.proofs.Math.Seq.{take-length}
use Rattle.std.proofs.lemmas.Bool.{and_parts, eq-eqb, false_from_ne_true}
use Rattle.std.proofs.lemmas.List.{append-nil, length-take-le}
use Rattle.hy_rows.specs.Finding.{is_district, with_changed}
use Rattle.hy_rows.specs.Rows.{district_of}
use Rattle.hy_rows.specs.Tables.{Tables}
use Rattle.hy_rows.specs.declared.district.District.{District}
use Rattle.hy_rows.specs.declared.item.Item.{Item}
use Rattle.hy_rows.specs.declared.order_line.OrderLine.{OrderLine}
use Rattle.hy_rows.specs.declared.stock.Stock.{Stock}
use Rattle.hy_schema.specs.declared.refusal.Refusal.TheVariants as refusals
use Rattle.hy_commands.specs.declared.command.Command.{Command}
use Rattle.hy_commands.specs.declared.command.Command.TheVariants as commands
use Rattle.hy_commands.specs.declared.command.Purchase.{Purchase}
use Rattle.hy_commands.specs.declared.command.PurchaseLine.{PurchaseLine}
use Rattle.hy_commands.specs.declared.edition.Edition.{Edition}
use Rattle.hy_commands.specs.NewOrders.{has_item, line_row, line_rows, order_number, ordered, sold_line, supplied, with_next_order}
use Rattle.hy_commands.specs.Parts.{part}
use Rattle.hy_commands.specs.Transactions.{accepted, act, begin_refusal_of, has_items, outcome_of, refusal_of}
use Rattle.hy_slices.specs.Begun.{BeginsPart}
use Rattle.hy_commands.specs.Commands.{slice_count}
use Rattle.hy_slices.specs.Slices.{after_slices, has_item_at, has_items_before, headed, headed_number, is_known, lined, with_line}
use Rattle.hy_slices.proofs.BegunLaws.{refusal-begun}

-- ---- lists

-- the row at a place behind those before it
pub take-more : {Row : Type 0} (rows : List Row) (place : ℕ) → place < length rows
    → (row : Row) × (slice_get rows place ≡ Some row) × (take (suc place) rows ≡ take place rows ++ row ∷ [])
take-more [] place within = absurd (omega arith)
take-more (row ∷ rows) zero within = (row, refl, refl)
take-more (row ∷ rows) (suc place) within =
    let later = take-more rows place (omega arith) in
    (later.0, later.1, ap (λ rows. row ∷ rows) later.2)

-- one row more for a fold over the rows that pass a test
fold-filter-push : {Row State : Type 0} (step : State → Row → State) (keep : Row → Bool) (start : State)
    (rows : List Row) (row : Row)
    → fold step start (filter keep (rows ++ row ∷ []))
    ≡ cond (keep row) (step (fold step start (filter keep rows)) row) (fold step start (filter keep rows))
fold-filter-push step keep start [] row =
    elim (keep row) as (λ b. fold step start (cond b (row ∷ []) []) ≡ cond b (step start row) start) [
      | true ↦ refl
      | false ↦ refl
    ]
fold-filter-push step keep start (first ∷ rows) row =
    elim (keep first) as (λ b. fold step start (cond b (first ∷ filter keep (rows ++ row ∷ [])) (filter keep (rows ++
    row ∷ [])))
    ≡ cond (keep row) (step (fold step start (cond b (first ∷ filter keep rows) (filter keep rows))) row)
    (fold step start (cond b (first ∷ filter keep rows) (filter keep rows)))) [
      | true ↦ fold-filter-push step keep (step start first) rows row
      | false ↦ fold-filter-push step keep start rows row
    ]

-- a row that was changed is found by a test that doesn't see the change
pub find-with_changed : {Row : Type 0} (test : Row → Bool) (change : Row → Row)
    → ((row : Row) → test (change row) ≡ test row) → (rows : List Row)
    → find test (with_changed test change rows) ≡ option_map change (find test rows)
find-with_changed test change same [] = refl
find-with_changed test change same (row ∷ rows) =
    elim (test row) as (λ b. test row ≡ b
    → find test (cond b (change row ∷ rows) (row ∷ with_changed test change rows))
    ≡ option_map change (cond b (Some row) (find test rows))) [
      | true ↦ λ passes. ap (λ b. cond b (Some (change row)) (find test rows)) (same row ∙ passes)
      | false ↦ λ fails.
          ap (λ b. cond b (Some row) (find test (with_changed test change rows))) fails
          ∙ find-with_changed test change same rows
    ] refl

-- ---- a purchase

line_rows-push : (items : List Item) (order : Purchase) (number place behind : ℕ) (lines : List PurchaseLine)
    (line : PurchaseLine) → place + length lines ≡ behind
    → line_rows items order number place (lines ++ line ∷ [])
    ≡ line_rows items order number place lines ++ line_row items order number behind line ∷ []
line_rows-push items order number place behind [] line is =
    let same : place ≡ behind = omega (arith, is) in
    ap (λ place. line_row items order number place line ∷ []) same
line_rows-push items order number place behind (first ∷ lines) line is =
    ap (λ rows. line_row items order number place first ∷ rows)
    (line_rows-push items order number (place + 1) behind lines line (omega (arith, is)))

-- the number that the head has taken; both are 0 where the district isn't there
number-headed : (order : Purchase) (tables : Tables) → headed_number order (headed order tables) ≡ order_number order
    tables
number-headed order tables =
    ap (λ row. (unwrap_or row (district_of [])).next_order - 1)
    (find-with_changed (is_district order.warehouse order.district) with_next_order (λ row. refl) tables.districts)
    ∙ taken (find (is_district order.warehouse order.district) tables.districts)
  where
    taken : (row : Option District) → (unwrap_or (option_map with_next_order row) (district_of [])).next_order - 1
        ≡ (unwrap_or row (district_of [])).next_order
    taken None = refl
    taken (Some row) = omega arith

module _ (items : List Item) (number : ℕ) (order : Purchase) (tables : Tables) where
  -- the rows after the head and some lines
  abbrev with_lines : List PurchaseLine → Tables
  with_lines lines = record (headed order tables) {
    order_lines = tables.order_lines ++ line_rows items order (order_number order tables) 1 lines;
    stock = fold (sold_line number order) tables.stock (filter (λ line. line.supply_warehouse == number) lines);
  }

  with_lines-push : (lines : List PurchaseLine) (line : PurchaseLine) (place : ℕ) → 1 + length lines ≡ place
      → lined items number order (order_number order tables) place (with_lines lines) line
      ≡ with_lines (lines ++ line ∷ [])
  with_lines-push lines line place is =
      let rows : List OrderLine = line_rows items order (order_number order tables) 1 lines in
      let row : OrderLine = line_row items order (order_number order tables) place line in
      ap₂ (λ (order_lines : List OrderLine) (stock : List Stock). record (headed order tables) {
        order_lines = order_lines;
        stock = stock;
      })
      (append_assoc tables.order_lines rows (row ∷ [])
      ∙ ap (λ rows. tables.order_lines ++ rows)
      (sym (line_rows-push items order (order_number order tables) 1 place lines line is)))
      (sym (fold-filter-push (sold_line number order) (λ line. line.supply_warehouse == number) tables.stock lines line))

  pub with_lines-slices : (edition : Edition) (done : ℕ) → done ≤ length order.lines
      → after_slices items number edition (commands.NewOrder order) (suc done) tables
      ≡ with_lines (take done order.lines)
  with_lines-slices edition zero within =
      ap (λ (order_lines : List OrderLine). record (headed order tables) { order_lines = order_lines })
      (sym (append-nil tables.order_lines))
  with_lines-slices edition (suc done) within =
      let more = take-more order.lines done (omega arith) in
      let line : PurchaseLine = more.0 in
      let before : List PurchaseLine = take done order.lines in
      let place : 1 + length before ≡ done + 1 = omega (arith, length-take-le done order.lines (omega arith)) in
      ap₂ (λ (tables : Tables) (line : Option PurchaseLine). with_line items number order (done + 1) tables line)
      (with_lines-slices edition done (omega arith)) more.1
      ∙ ap (λ taken. lined items number order taken (done + 1) (with_lines before) line)
      (number-headed order tables)
      ∙ with_lines-push before line (done + 1) place
      ∙ ap with_lines (sym more.2)

  -- the items that its slices have asked for are those of these lines
  known-slices : (done : ℕ) → done ≤ length order.lines
      → has_items_before items (commands.NewOrder order) (suc done) ≡ list_all (has_item items) (take done order.lines)
  known-slices zero within = refl
  known-slices (suc done) within =
      let more = take-more order.lines done (omega arith) in
      let before : List PurchaseLine = take done order.lines in
      ap₂ (λ (known : Bool) (line : Option PurchaseLine). known && is_known items line) (known-slices done (omega arith))
      more.1
      ∙ ap (λ known. list_all (has_item items) before && known) (sym (and-true (has_item items more.0)))
      ∙ sym (list_all-append (has_item items) before (more.0 ∷ []))
      ∙ ap (list_all (has_item items)) (sym more.2)

  pub purchase-slices : (edition : Edition)
      → after_slices items number edition (commands.NewOrder order) (length order.lines + 1) tables
      ≡ (accepted items number edition (commands.NewOrder order) tables).tables
  purchase-slices edition =
      let last : length order.lines + 1 ≡ suc (length order.lines) = omega arith in
      ap (λ done. after_slices items number edition (commands.NewOrder order) done tables) last
      ∙ with_lines-slices edition (length order.lines) (omega arith)
      ∙ ap with_lines (take-length order.lines)

  pub purchase-known : has_items_before items (commands.NewOrder order) (length order.lines + 1)
      ≡ has_items items (commands.NewOrder order)
  purchase-known =
      let last : length order.lines + 1 ≡ suc (length order.lines) = omega arith in
      ap (λ done. has_items_before items (commands.NewOrder order) done) last
      ∙ known-slices (length order.lines) (omega arith)
      ∙ ap (list_all (has_item items)) (take-length order.lines)

-- ---- all commands

pub slices-accepted : (items : List Item) (number : ℕ) (edition : Edition) (command : Command) (tables : Tables)
    → after_slices items number edition command (slice_count command) tables
    ≡ (accepted items number edition command tables).tables
slices-accepted items number edition (commands.NewOrder order) tables =
    purchase-slices items number order tables edition
slices-accepted items number edition (commands.Payment payment) tables = refl
slices-accepted items number edition (commands.OrderStatus status) tables = refl
slices-accepted items number edition (commands.Delivery delivery) tables = refl
slices-accepted items number edition (commands.StockLevel level) tables = refl

-- each command has a slice
pub first_slice : (command : Command) → 0 < slice_count command
first_slice (commands.NewOrder order) = omega arith
first_slice (commands.Payment payment) = lit< tt
first_slice (commands.OrderStatus status) = lit< tt
first_slice (commands.Delivery delivery) = lit< tt
first_slice (commands.StockLevel level) = lit< tt

slices-known : (items : List Item) (number : ℕ) (command : Command) (tables : Tables)
    → has_items_before items command (slice_count command) ≡ has_items items command
slices-known items number (commands.NewOrder order) tables = purchase-known items number order tables
slices-known items number (commands.Payment payment) tables = refl
slices-known items number (commands.OrderStatus status) tables = refl
slices-known items number (commands.Delivery delivery) tables = refl
slices-known items number (commands.StockLevel level) tables = refl

-- where all items are there, each line's is
known-at : (items : List Item) (lines : List PurchaseLine) (place : ℕ) → list_all (has_item items) lines ≡ true
    → is_known items (slice_get lines place) ≡ true
known-at items [] place known = refl
known-at items (line ∷ lines) zero known = (and_parts (has_item items line) (list_all (has_item items) lines) known).0
known-at items (line ∷ lines) (suc place) known =
    known-at items lines place (and_parts (has_item items line) (list_all (has_item items) lines) known).1

pub slice-known : (items : List Item) (command : Command) (done : ℕ) → has_items items command ≡ true
    → has_item_at items command done ≡ true
slice-known items (commands.NewOrder order) zero known = refl
slice-known items (commands.NewOrder order) (suc done) known = known-at items order.lines done known
slice-known items (commands.Payment payment) done known = refl
slice-known items (commands.OrderStatus status) done known = refl
slice-known items (commands.Delivery delivery) done known = refl
slice-known items (commands.StockLevel level) done known = refl

pub slices-not_refused : (items : List Item) (number : ℕ) (command : Command) (tables : Tables)
    → begin_refusal_of number command tables ≡ None → has_items_before items command (slice_count command) ≡ true
    → refusal_of items number command tables ≡ None
slices-not_refused items number command tables begins known =
    refusal-begun items number command tables true begins (sym (slices-known items number command tables) ∙ known)

pub slices-refused : (items : List Item) (number : ℕ) (command : Command) (tables : Tables) (done : ℕ)
    → begin_refusal_of number command tables ≡ None → has_item_at items command done ≢ true
    → refusal_of items number command tables ≡ Some refusals.NoSuchItem
slices-refused items number command tables done begins unknown =
    refusal-begun items number command tables false begins
    (false_from_ne_true (has_items items command) (λ known. unknown (slice-known items command done known)))

pub slices-act : (items : List Item) (number : ℕ) (edition : Edition) (command : Command) (tables : Tables)
    → begin_refusal_of number command tables ≡ None → has_items_before items command (slice_count command) ≡ true
    → after_slices items number edition command (slice_count command) tables
    ≡ (act items number edition command tables).tables
slices-act items number edition command tables begins known =
    slices-accepted items number edition command tables
    ∙ ap (λ refusal. (outcome_of refusal items number edition command tables).tables)
    (sym (slices-not_refused items number command tables begins known))

-- at the home of a purchase they are the home's part of it
pub slices-part : (items : List Item) (number : ℕ) (edition : Edition) (command : Command) (tables : Tables)
    → BeginsPart number command tables
    → after_slices items number edition command (slice_count command) tables
    ≡ part items number edition command tables
slices-part items number edition (commands.NewOrder order) tables home =
    purchase-slices items number order tables edition
    ∙ ap (λ b. supplied number order (cond b (ordered items order tables) tables))
    (sym (eq-eqb order.warehouse number home.home))
slices-part items number edition (commands.Payment payment) tables never = absurd never
slices-part items number edition (commands.OrderStatus status) tables never = absurd never
slices-part items number edition (commands.Delivery delivery) tables never = absurd never
slices-part items number edition (commands.StockLevel level) tables never = absurd never
