-- The slices of a purchase.
use Rattle.std.proofs.Common.{◌≡◌, ◌&&◌, ◌≢◌, Bool, cond, false, ℕ, ◌<◌, ◌≤◌, ◌+◌, ◌*◌, ◌-◌, ◌^◌, ◌==◌, true, List, [], ◌∷◌, length, Option, Some, None, refl, sym, ap, ap₂, subst, ◌∙◌, zero, suc, arith}
use Rattle.std.specs.Prelude.{All, is_some, unwrap_or}
use Rattle.std.specs.List.{find, list_all, list_any}
use Rattle.std.specs.Option.{option_map}
use Rattle.std.proofs.lemmas.Bool.{and_parts, eqb-true}
use Rattle.std.proofs.lemmas.Bool.Decides.{nat_tests}
use Rattle.std.proofs.lemmas.List.Elements.{All-cons, All-head, All-nil, All-tail}
use Rattle.hy_rows.proofs.BetweenLaws.{bounds}
use Rattle.hy_rows.specs.Finding.{is_customer, is_district, is_warehouse}
use Rattle.hy_rows.specs.Ranges.{IsBetween}
use Rattle.hy_rows.specs.Rows.{district_of, warehouse_of}
use Rattle.hy_rows.specs.Tables.{Tables}
use Rattle.hy_rows.specs.declared.district.District.{District}
use Rattle.hy_rows.specs.declared.item.Item.{Item}
use Rattle.hy_rows.specs.declared.new_order.NewOrder.{NewOrder}
use Rattle.hy_rows.specs.declared.order.Order.{Order}
use Rattle.hy_rows.specs.Finding.{first_or}
use Rattle.hy_schema.specs.Keys.{IsOneWarehouse}
use Rattle.hy_schema.specs.Loads.{IsLoad}
use Rattle.hy_schema.specs.Related.{is_item, is_order, orders_of}
use Rattle.hy_rows.specs.Spelling.{live_rows}
use Rattle.hy_commands.specs.declared.command.Command.TheVariants as commands
use Rattle.hy_commands.specs.declared.command.Purchase.{Purchase}
use Rattle.hy_commands.specs.declared.command.PurchaseLine.{PurchaseLine}
use Rattle.hy_commands.specs.declared.edition.Edition.{Edition}
use Rattle.hy_commands.specs.declared.command.Who.TheVariants as who
use Rattle.hy_commands.specs.Commands.{is_line_in_range}
use Rattle.hy_commands.specs.Growth.{IsCustomerUpTo}
use Rattle.hy_commands.specs.Invariant.{HasOrder, IsBehindOrders, IsOwnOrder, IsSoundWarehouse}
use Rattle.hy_commands.specs.NewOrders.{buyer, district_of_purchase, has_item, order_number, purchase_cents, purchase_total, total_of, with_next_order}
use Rattle.hy_commands.specs.Replay.{HasWarehouse}
use Rattle.hy_commands.specs.declared.reply.Reply.TheVariants as replies
use Rattle.hy_commands.specs.Transactions.{accepted}
use Rattle.hy_commands.proofs.ListLaws.{All-find, find-passes, found-any}
use Rattle.hy_commands.proofs.OnceLaws.{tells-three, tells-two}
use Rattle.hy_layout.specs.Layout.{IsMeantAt, LayoutState}
use Rattle.hy_layout.specs.Finds.{IsIn}
use Rattle.hy_layout.proofs.MemberLaws.{in-filter, in-place}
use Rattle.hy_slices.specs.Between.{IsLineBefore}
use Rattle.hy_slices.specs.Slices.{after_slices, has_item_at, headed, headed_number, is_known, line_behind, lined, with_line}
use Rattle.hy_slices.specs.Begun.{Begins}
use Rattle.hy_slices.proofs.BegunLaws.{begun-purchase, begun-suppliers}
use Rattle.hy_slices.proofs.GrowingSlices.{items-fit, number-near}
use Rattle.hy_slices.proofs.BetweenSlices.{number-slices, placing-slices}
use Rattle.hy_slices.proofs.SliceLaws.{find-with_changed, purchase-known}
use Rattle.hy_slices.proofs.WholeLaws.{home-district, number-is, whole-sound}
use Rattle.hy_writers.specs.of_store.Stored.{Stored}
use Rattle.hy_writers.specs.of_indexes.Indexes.{HasIndexes}
use Rattle.hy_writers.specs.Begun.{IsBegunLine, IsBegunPurchase}
use Rattle.hy_writers.specs.Changes.{IsFoundAt}
use Rattle.hy_writers.specs.Limits.{most_applied}
use Rattle.hy_writers.specs.Purchases.{CanAddLine, with_order, with_order_line}
use Rattle.hy_writers.proofs.DeliverLaws.{any-place}
use Rattle.hy_writers.proofs.IndexedLaws.{AreBelow, NoLine, NoneWaits, indexes-line, indexes-order}
use Rattle.hy_writers.proofs.WaitingLaws.{in-all, live-in}
use Rattle.hy_writers.proofs.WritesLaws.{all-at}
use Rattle.hy_tpcc.proofs.SliceLaws.{bounds-done, places-done, whole-done}
use Rattle.hy_frames.specs.declared.errors.Shortage.{Shortage}
use Rattle.hy_frames.specs.declared.errors.Shortage.TheVariants as shortages
use Rattle.hy_schema.specs.declared.refusal.Refusal.TheVariants as refusals
use Rattle.hy_tpcc.specs.Shortages.{refusal_of_shortage}
use Rattle.hy_tpcc.specs.Executor.{HasDone, IsBegun, answer_of, rows_after}

-- ---- what a begun purchase has passed

lines-begun : (lines : List PurchaseLine) → list_all is_line_in_range lines ≡ true
    → All (λ line. line.supply_warehouse ≤ 16) lines → All IsBegunLine lines
lines-begun [] in_range near = All-nil IsBegunLine
lines-begun (line ∷ lines) in_range near =
    let parts = and_parts (is_line_in_range line) (list_all is_line_in_range lines) in_range in
    let supplier = All-head (λ (line : PurchaseLine). line.supply_warehouse ≤ 16) line lines near in
    let others = All-tail (λ (line : PurchaseLine). line.supply_warehouse ≤ 16) line lines near in
    All-cons IsBegunLine line lines (record { supplier = omega (arith, supplier); quantity = parts.0 })
    (lines-begun lines parts.1 others)

pub purchase-begun : (warehouse : ℕ) (order : Purchase) (tables : Tables) → warehouse ≤ 16
    → Begins warehouse (commands.NewOrder order) tables → IsBegunPurchase warehouse order
purchase-begun warehouse order tables near begins =
    let whole = (begun-purchase warehouse order tables begins).0 in
    record {
      home = whole.home;
      district = whole.district;
      moment = whole.moment;
      count = whole.count;
      lines = lines-begun order.lines whole.in_range (begun-suppliers warehouse order tables near begins);
    }

-- the number of its customer is that of a row
pub customer-small : (layout : LayoutState) (edition : Edition) (order : Purchase) (place : ℕ) (before : Tables)
    → IsBegun layout edition (commands.NewOrder order) place before → order.customer < 2 ^ 16
customer-small layout edition order place before begun =
    let meant = begun.customer before begun.places in
    let test = is_customer layout.warehouse order.district order.customer in
    let passes = tells-three (meant.row).warehouse (meant.row).district (meant.row).id layout.warehouse order.district
    order.customer (find-passes test before.customers meant.row meant.meant) in
    let bounds = begun.bounds 0 (omega arith) refl in
    let up = All-find (IsCustomerUpTo most_applied (10 * most_applied)) test before.customers meant.row bounds.customers
    meant.meant in
    omega (arith, passes.2, up.id)

-- ---- the head

module _ (items : List Item) (number : ℕ) (edition : Edition) (order : Purchase) (tables : Tables)
    (sound : IsSoundWarehouse items number tables)
    (begins : Begins number (commands.NewOrder order) tables) where
  orders-below : AreBelow order.district (order_number order tables) tables.orders
  orders-below place row here same =
      let passed = begun-purchase number order tables begins in
      let whole = whole-sound items number tables sound in
      let home = home-district items number order tables passed.0 passed.1 whole in
      let district : District = home.0 in
      let test = is_district order.warehouse order.district in
      let is = tells-two district.warehouse district.id order.warehouse order.district
      (find-passes test tables.districts district home.1) in
      let behind : All (λ (o : Order). o.id < district.next_order) (orders_of district.warehouse district.id tables.orders) =
      All-find (IsBehindOrders tables.orders) test tables.districts district sound.numbers home.1 in
      let own = all-at (IsOwnOrder number tables.customers) tables.orders place row sound.orders.orders here in
      let in_warehouse : row.warehouse ≡ district.warehouse = own.warehouse ∙ sym passed.0.home ∙ sym is.0 in
      let in_district : row.district ≡ district.id = same ∙ sym is.1 in
      let inside = in-filter (λ (o : Order). (o.warehouse == district.warehouse) && (o.district == district.id)) row
      tables.orders (in-place tables.orders place row here) (grind (arith, nat_tests, in_warehouse, in_district)) in
      let less : row.id < district.next_order = in-all (λ (o : Order). o.id < district.next_order)
      (orders_of district.warehouse district.id tables.orders) row behind inside in
      subst (λ n. row.id < n) (sym (number-is items number order tables passed.0 passed.1 whole district home.1)) less

  none-waits : (slots : List (Option NewOrder)) → tables.new_orders ≡ live_rows slots
      → NoneWaits order.district (order_number order tables) slots
  none-waits slots live slot row here same taken =
      let has = in-all (HasOrder tables.orders) tables.new_orders row sound.orders.new_orders
      (subst (λ rows. IsIn row rows) (sym live) (live-in slots slot row here)) in
      let one = any-place (is_order row.warehouse row.district row.order) tables.orders has in
      let columns = tells-three (one.1).warehouse (one.1).district (one.1).id row.warehouse row.district row.order one.3 in
      let less = orders-below one.0 one.1 one.2 (columns.1 ∙ same) in
      absurd (omega (arith, less, columns.2, taken))

  pub indexes-headed : (s : Stored) → s.tables ≡ tables → s.tables.new_orders ≡ live_rows s.new_order_slots
      → HasIndexes s → HasIndexes (with_order order s)
  indexes-headed s is live has =
      indexes-order order s has
      (subst (λ (t : Tables). AreBelow order.district (order_number order t) t.orders) (sym is) orders-below)
      (subst (λ (t : Tables). NoneWaits order.district (order_number order t) s.new_order_slots) (sym is)
      (none-waits s.new_order_slots (sym (ap (λ (t : Tables). t.new_orders) is) ∙ live)))

  -- the total of an order is the same behind its head and each of its lines
  abbrev behind : ℕ → Tables
  behind done = after_slices items number edition (commands.NewOrder order) done tables

  same-tax : (district_of_purchase order (headed order tables)).tax ≡ (district_of_purchase order tables).tax
  same-tax =
      let passed = begun-purchase number order tables begins in
      let home = home-district items number order tables passed.0 passed.1 (whole-sound items number tables sound) in
      let next = find-with_changed (is_district order.warehouse order.district) with_next_order (λ row. refl)
      tables.districts
      ∙ ap (option_map with_next_order) home.1 in
      ap (λ one. (unwrap_or one (district_of [])).tax) next
      ∙ sym (ap (λ one. (unwrap_or one (district_of [])).tax) home.1)

  pub same-total : (lines : ℕ) → purchase_total items order (behind (suc lines)) ≡ purchase_total items order tables
  same-total zero =
      ap (λ tax. total_of (purchase_cents items order.lines) (buyer order tables).discount
      (first_or (warehouse_of []) (is_warehouse order.warehouse) tables.warehouses).tax tax) same-tax
  same-total (suc lines) = stays (behind (suc lines)) (line_behind order lines) ∙ same-total lines
    where
      stays : (tables : Tables) (line : Option PurchaseLine)
          → purchase_total items order (with_line items number order (lines + 1) tables line) ≡ purchase_total items order tables
      stays tables None = refl
      stays tables (Some line) = refl

pub head-done : (layout : LayoutState) (edition : Edition) (order : Purchase) (place : ℕ) (before : Tables) (s s1 : Stored)
    → s.tables.new_orders ≡ live_rows s.new_order_slots → s1 ≡ with_order order s
    → HasDone layout edition (commands.NewOrder order) place 0 before s
    → HasDone layout edition (commands.NewOrder order) place 1 before s1
head-done layout edition order place before s s1 live placed now = record {
  begun = now.begun;
  rows = ap (λ (t : Stored). t.tables) placed ∙ ap (headed order) now.rows;
  known = refl;
  indexes = subst HasIndexes (sym placed)
      (indexes-headed layout.load.items layout.warehouse edition order before now.begun.sound now.begun.begun s now.rows live
      now.indexes);
}

-- ---- a line

no-line : (layout : LayoutState) (edition : Edition) (order : Purchase) (place lines : ℕ) (before : Tables) (s : Stored)
    → HasDone layout edition (commands.NewOrder order) place (suc lines) before s
    → NoLine order.district (headed_number order s.tables) (lines + 1) s.tables.order_lines
no-line layout edition order place lines before s now place_of row here same_district same_order same_number =
    let number : ℕ = order_number order before in
    let next = number-slices layout.load.items layout.warehouse edition order before now.begun.sound now.begun.begun lines in
    let taken : order_number order s.tables ≡ number + 1 = ap (order_number order) now.rows ∙ next in
    let order_is : row.order ≡ number = omega (arith, same_order, taken) in
    let placing = placing-slices layout.load.items layout.warehouse edition order before now.begun.sound now.begun.begun lines
    now.known in
    let all : All (IsLineBefore order number lines) s.tables.order_lines =
    subst (λ (t : Tables). All (IsLineBefore order number lines) t.order_lines) (sym now.rows) placing.lines in
    let less = all-at (IsLineBefore order number lines) s.tables.order_lines place_of row all here same_district order_is in
    absurd (omega (arith, less, same_number))

line-done : (layout : LayoutState) (edition : Edition) (order : Purchase) (place lines : ℕ) (before : Tables) (s s1 : Stored)
    (line : PurchaseLine) → line_behind order lines ≡ Some line → has_item layout.load.items line ≡ true
    → s1 ≡ with_order_line layout.load.items layout.warehouse order lines line s
    → HasDone layout edition (commands.NewOrder order) place (suc lines) before s
    → HasDone layout edition (commands.NewOrder order) place (suc (suc lines)) before s1
line-done layout edition order place lines before s s1 line is_line has added now =
    let items : List Item = layout.load.items in
    let command = commands.NewOrder order in
    record {
      begun = now.begun;
      rows =
          ap (λ (t : Stored). t.tables) added
          ∙ ap (λ (t : Tables). lined items layout.warehouse order (headed_number order t) (lines + 1) t line) now.rows
          ∙ ap (with_line items layout.warehouse order (lines + 1) (rows_after layout edition command (suc lines) before)) (sym is_line);
      known = ap₂ (λ a b. a && b) now.known (ap (is_known items) is_line ∙ has);
      indexes = subst HasIndexes (sym added)
          (indexes-line items layout.warehouse lines order line s now.indexes
          (no-line layout edition order place lines before s now));
    }

-- the next line, behind so many slices
pub line-next : (layout : LayoutState) (edition : Edition) (order : Purchase) (place done : ℕ) (before : Tables) (s s1 : Stored)
    (line : PurchaseLine) → 0 < done → line_behind order (done - 1) ≡ Some line
    → list_any (is_item line.item) layout.load.items ≡ true
    → s1 ≡ with_order_line layout.load.items layout.warehouse order (done - 1) line s
    → HasDone layout edition (commands.NewOrder order) place done before s
    → HasDone layout edition (commands.NewOrder order) place (done + 1) before s1
line-next layout edition order place zero before s s1 line head is_line has added now = absurd (omega (arith, head))
line-next layout edition order place (suc lines) before s s1 line head is_line has added now =
    let one_less : suc lines - 1 ≡ lines = omega arith in
    let one_more : suc (suc lines) ≡ suc lines + 1 = omega arith in
    subst (λ n. HasDone layout edition (commands.NewOrder order) place n before s1) one_more
    (line-done layout edition order place lines before s s1 line
    (subst (λ k. line_behind order k ≡ Some line) one_less is_line) has
    (subst (λ k. s1 ≡ with_order_line layout.load.items layout.warehouse order k line s) one_less added) now)

-- whether its item is there
pub item-next : (items : List Item) (order : Purchase) (done : ℕ) (line : PurchaseLine) → 0 < done
    → line_behind order (done - 1) ≡ Some line
    → has_item_at items (commands.NewOrder order) done ≡ list_any (is_item line.item) items
item-next items order zero line head is_line = absurd (omega (arith, head))
item-next items order (suc lines) line head is_line =
    let one_less : suc lines - 1 ≡ lines = omega arith in
    ap (is_known items) (subst (λ k. line_behind order k ≡ Some line) one_less is_line)

pub item-there : (items : List Item) (order : Purchase) (done : ℕ) (line : PurchaseLine) (item : Item) → 0 < done
    → line_behind order (done - 1) ≡ Some line → find (is_item line.item) items ≡ Some item
    → has_item_at items (commands.NewOrder order) done ≡ true
item-there items order done line item head is_line found =
    item-next items order done line head is_line
    ∙ sym (found-any (is_item line.item) items)
    ∙ ap is_some found

-- memory or a frame that lacks is no item that isn't there
pub not-no_item : (shortage : Shortage) → refusal_of_shortage shortage ≢ refusals.NoSuchItem
not-no_item shortages.NoMemory same = absurd (cc)
not-no_item shortages.NoFrame same = absurd (cc)

-- a store takes the line behind so many slices
pub can-add_line : (layout : LayoutState) (edition : Edition) (order : Purchase) (place done : ℕ) (before : Tables) (s : Stored)
    (line : PurchaseLine) (item : Item) → IsLoad layout.load → HasWarehouse layout.load layout.warehouse
    → 0 < done → done < length order.lines + 1
    → line_behind order (done - 1) ≡ Some line → find (is_item line.item) layout.load.items ≡ Some item
    → IsBetween 1 (length layout.load.items) line.item → HasDone layout edition (commands.NewOrder order) place done before s
    → CanAddLine layout order (done - 1) line item s
can-add_line layout edition order place done before s line item is_load there head next is_line is_item_of number now =
    let command = commands.NewOrder order in
    let within : done ≤ length order.lines + 1 = omega (arith, next) in
    let whole = whole-done layout edition command place done before s now within in
    let begun = purchase-begun layout.warehouse order before
    (number-near layout.load is_load layout.warehouse there) now.begun.begun in
    let few = (bounds 5 15 (length order.lines) begun.count).1 in
    let fits = All-find (λ (row : Item). (row.id ≤ 100_000) × (row.price ≤ 1_000_000)) (is_item line.item)
    layout.load.items item (items-fit layout.load is_load) is_item_of in
    let id_is : item.id ≡ line.item = eqb-true item.id line.item
    (find-passes (is_item line.item) layout.load.items item is_item_of) in
    record {
      rows = whole.rows;
      stock = whole.stock.unique;
      places = places-done layout edition command place done before s now within;
      bounds = bounds-done layout edition command place done before s now within;
      next = whole.orders.next_orders;
      begun = begun;
      few = omega (arith, few, next, head);
      passed = all-at IsBegunLine order.lines (done - 1) line begun.lines is_line;
      found = is_item_of;
      number = number;
      small = omega (arith, fits.0, id_is);
      price = fits.1;
    }

-- ---- the reply

-- a store that has all lines of an order
pub record CanReply (layout : LayoutState) (order : Purchase) (place : ℕ) (s : Stored) : Type 0 where
  pub rows : IsOneWarehouse layout.warehouse s.tables
  pub next : All (λ row. 0 < row.next_order) s.tables.districts
  pub begun : IsBegunPurchase layout.warehouse order
  pub known : All (λ line. has_item layout.load.items line ≡ true) order.lines
  pub buyer : IsMeantAt layout.warehouse order.district (who.Number order.customer) s.tables.customers place

all-true : {Row : Type 0} (test : Row → Bool) (rows : List Row) → list_all test rows ≡ true
    → All (λ row. test row ≡ true) rows
all-true test [] all = All-nil (λ row. test row ≡ true)
all-true test (row ∷ rows) all =
    let parts = and_parts (test row) (list_all test rows) all in
    All-cons (λ row. test row ≡ true) row rows parts.0 (all-true test rows parts.1)

pub can-reply : (layout : LayoutState) (edition : Edition) (order : Purchase) (place : ℕ) (before : Tables) (s : Stored)
    → layout.warehouse ≤ 16 → HasDone layout edition (commands.NewOrder order) place (length order.lines + 1) before s
    → CanReply layout order place s
can-reply layout edition order place before s near now =
    let command = commands.NewOrder order in
    let last : ℕ = length order.lines + 1 in
    let whole = whole-done layout edition command place last before s now (omega arith) in
    record {
      rows = whole.rows;
      next = whole.orders.next_orders;
      begun = purchase-begun layout.warehouse order before near now.begun.begun;
      known = all-true (has_item layout.load.items) order.lines
          (sym (purchase-known layout.load.items layout.warehouse order before) ∙ now.known);
      buyer = now.begun.customer s.tables (places-done layout edition command place last before s now (omega arith));
    }

pub reply-ordered : (layout : LayoutState) (edition : Edition) (order : Purchase) (place : ℕ) (before : Tables) (s : Stored) (row : District)
    (total : ℕ) → IsFoundAt (is_district layout.warehouse order.district) s.tables.districts (order.district - 1) row
    → total ≡ purchase_total layout.load.items order s.tables
    → HasDone layout edition (commands.NewOrder order) place (length order.lines + 1) before s
    → replies.NewOrder (row.next_order - 1) total
    ≡ (accepted layout.load.items layout.warehouse edition (commands.NewOrder order) before).reply
reply-ordered layout edition order place before s row total found is now =
    let items : List Item = layout.load.items in
    let lines : ℕ = length order.lines in
    let one_more : lines + 1 ≡ suc lines = omega arith in
    let rows : s.tables ≡ rows_after layout edition (commands.NewOrder order) (suc lines) before =
    subst (λ n. s.tables ≡ rows_after layout edition (commands.NewOrder order) n before) one_more now.rows in
    let home = ((begun-purchase layout.warehouse order before now.begun.begun).0).home in
    let read : order_number order s.tables ≡ row.next_order =
    ap (λ home. (first_or (district_of []) (is_district home order.district) s.tables.districts).next_order) home
    ∙ ap (λ one. (unwrap_or one (district_of [])).next_order) found.found in
    let next = number-slices items layout.warehouse edition order before now.begun.sound now.begun.begun lines in
    let after : order_number order s.tables ≡ order_number order before + 1 = ap (order_number order) rows ∙ next in
    let number : row.next_order - 1 ≡ order_number order before = omega (arith, read, after) in
    let whole : total ≡ purchase_total items order before =
    is ∙ ap (purchase_total items order) rows ∙ same-total items layout.warehouse edition order before now.begun.sound now.begun.begun lines in
    ap₂ (λ (n : ℕ) (cents : ℕ). replies.NewOrder n cents) number whole

-- what a purchase answers behind so many slices
pub answer-before : (layout : LayoutState) (edition : Edition) (order : Purchase) (done : ℕ) (before : Tables) → done < length order.lines
    → answer_of layout edition (commands.NewOrder order) done before ≡ None
answer-before layout edition order done before more =
    let other : (done + 1 == length order.lines + 1) ≡ false = grind (arith, nat_tests, more) in
    ap (λ b. cond b (Some (accepted layout.load.items layout.warehouse edition (commands.NewOrder order) before).reply) None) other

pub answer-last : (layout : LayoutState) (edition : Edition) (order : Purchase) (done : ℕ) (before : Tables) → done ≡ length order.lines
    → answer_of layout edition (commands.NewOrder order) done before
    ≡ Some (accepted layout.load.items layout.warehouse edition (commands.NewOrder order) before).reply
answer-last layout edition order done before last =
    let same : (done + 1 == length order.lines + 1) ≡ true = grind (arith, nat_tests, last) in
    ap (λ b. cond b (Some (accepted layout.load.items layout.warehouse edition (commands.NewOrder order) before).reply) None) same
