-- The slices of a purchase, write by write.
use Rattle.std.proofs.Common.{◌≡◌, Bool, ℕ, ◌+◌, ◌-◌, ◌*◌, false, not, List, ◌++◌, ◌∷◌, [], length, Some, refl, sym, ap, ap₂, ◌∙◌}
use Rattle.std.proofs.lemmas.Bool.{eq-eqb}
use Rattle.std.specs.Prelude.{slice_get, slice_set, unwrap_or, find}
use Rattle.hy_rows.specs.declared.district.District.{District}
use Rattle.hy_rows.specs.declared.order.Order.{Order}
use Rattle.hy_rows.specs.declared.item.Item.{Item}
use Rattle.hy_rows.specs.declared.order_line.OrderLine.{OrderLine}
use Rattle.hy_rows.specs.declared.customer.Customer.{Customer}
use Rattle.hy_rows.specs.declared.warehouse.Warehouse.{Warehouse}
use Rattle.hy_rows.specs.Finding.{first_or, is_district, is_warehouse}
use Rattle.hy_rows.specs.Rows.{customer_of, district_of, warehouse_of}
use Rattle.hy_rows.specs.Tables.{Tables}
use Rattle.hy_schema.specs.Related.{is_item}
use Rattle.hy_indexes.specs.of_index.Index.{with_entry}
use Rattle.hy_commands.specs.declared.command.PurchaseLine.{PurchaseLine}
use Rattle.hy_commands.specs.declared.command.Purchase.{Purchase}
use Rattle.hy_commands.specs.NewOrders.{buyer, purchase_cents, purchase_total, total_of, line_cents, line_row, no_item, order_number, order_row, with_next_order}
use Rattle.hy_commands.specs.declared.command.Who.TheVariants as who
use Rattle.hy_layout.specs.Layout.{IsMeantAt}
use Rattle.hy_slices.specs.Slices.{headed_number}
use Rattle.hy_indexes.specs.of_store.Keys.{is_lesser_line}
use Rattle.hy_indexes.specs.of_store.Stored.{Stored}
use Rattle.hy_writers.specs.Begun.{IsBegunPurchase}
use Rattle.hy_writers.specs.Changes.{IsFoundAt}
use Rattle.hy_writers.specs.Purchases.{line_for, with_line_sold, with_order, with_order_entries, with_order_line, with_waiting}

-- the number of a purchase is the next one of its district
pub number-found : (warehouse place : ℕ) (order : Purchase) (tables : Tables) (district : District)
    → order.warehouse ≡ warehouse → IsFoundAt (is_district warehouse order.district) tables.districts place district
    → order_number order tables ≡ district.next_order
number-found warehouse place order tables district home found =
    let own : first_or (district_of []) (is_district order.warehouse order.district) tables.districts ≡ district =
    rw home (ap (λ found. unwrap_or found (district_of [])) found.found) in
    ap (λ (row : District). row.next_order) own

module _ (warehouse district_place place : ℕ) (order : Purchase) (begun : IsBegunPurchase warehouse order)
    (s s1 s2 s3 s4 : Stored) (district district_row : District) (row : Order) where
  abbrev with_row : Stored → Stored
  with_row t = record t { tables = record t.tables { orders = t.tables.orders ++ row ∷ [] } }

  pub order-added : IsFoundAt (is_district warehouse order.district) s.tables.districts district_place district
      → district_row ≡ with_next_order district → row ≡ order_row order district.next_order
      → place ≡ length s1.tables.orders
      → s1 ≡ record s { tables = record s.tables { districts = slice_set s.tables.districts district_place district_row } }
      → s2 ≡ record s1 { tables = record s1.tables { orders = s1.tables.orders ++ row ∷ [] } }
      → s3 ≡ with_order_entries order district.next_order place s2 → s4 ≡ with_waiting order district.next_order s3
      → s4 ≡ with_order order s
  order-added found is_district_row is_row is_place first second third fourth =
      let at : place ≡ length s.tables.orders = is_place ∙ ap (λ (t : Stored). length t.tables.orders) first in
      fourth
      ∙ ap (with_waiting order district.next_order)
      (third ∙ ap (with_order_entries order district.next_order place) (second ∙ ap with_row first))
      ∙ rw (
        is_row,
        at,
        is_district_row,
        sym (found.changed with_next_order),
        sym (number-found warehouse district_place order s.tables district begun.home found),
        sym begun.home,
      ) refl

-- a line, write by write
module _ (items : List Item) (warehouse district_place place number lines cents : ℕ) (order : Purchase)
    (line : PurchaseLine) (item : Item) (s s1 s2 s3 : Stored) (district : District) (row : OrderLine) where
  abbrev with_line_row : Stored → Stored
  with_line_row t = record t { tables = record t.tables { order_lines = t.tables.order_lines ++ row ∷ [] } }

  abbrev with_line_entry : Stored → Stored
  with_line_entry t = record t {
    lines =
        with_entry is_lesser_line (record { order = number; district = order.district; number = lines + 1 }) place t.lines;
  }

  pub line-added : order.warehouse ≡ warehouse
      → IsFoundAt (is_district warehouse order.district) s.tables.districts district_place district
      → number ≡ district.next_order - 1
      → find (is_item line.item) items ≡ Some item → cents ≡ line.quantity * item.price
      → row ≡ line_for order number (lines + 1) line cents
      → place ≡ length s1.tables.order_lines
      → s1 ≡ with_line_sold warehouse false line s
      → s2 ≡ record s1 { tables = record s1.tables { order_lines = s1.tables.order_lines ++ row ∷ [] } }
      → s3 ≡ with_line_entry s2 → s3 ≡ with_order_line items warehouse order lines line s
  line-added home found is_number is_item is_cents is_row is_place first second third =
      let at : place ≡ length s.tables.order_lines = is_place ∙ ap (λ (t : Stored). length t.tables.order_lines) first in
      let next : number ≡ headed_number order s.tables =
      is_number ∙ ap (λ n. n - 1) (sym (number-found warehouse district_place order s.tables district home found)) in
      let costs : cents ≡ line_cents items line =
      is_cents ∙ ap (λ found. line.quantity * (unwrap_or found no_item).price) (sym is_item) in
      let row_is : row ≡ line_row items order (headed_number order s.tables) (lines + 1) line =
      is_row ∙ ap₂ (λ (n : ℕ) (c : ℕ). line_for order n (lines + 1) line c) next costs in
      third ∙ ap with_line_entry (second ∙ ap with_line_row first)
      ∙ ap₂ (λ (p : ℕ) (n : ℕ). record (with_line_sold warehouse false line s) {
        tables = record (with_line_sold warehouse false line s).tables {
          order_lines = s.tables.order_lines ++ row ∷ [];
        };
        lines = with_entry is_lesser_line (record { order = n; district = order.district; number = lines + 1 }) p s.lines;
      }) at next
      ∙ ap₂ (λ (r : OrderLine) (is_remote : Bool). record (with_line_sold warehouse is_remote line s) {
        tables = record (with_line_sold warehouse is_remote line s).tables {
          order_lines = s.tables.order_lines ++ r ∷ [];
        };
        lines =
            with_entry is_lesser_line
            (record { order = headed_number order s.tables; district = order.district; number = lines + 1 })
            (length s.tables.order_lines) s.lines;
      }) row_is (ap not (sym (eq-eqb order.warehouse warehouse home)))

-- the total, from the rows that it reads
pub total-found : (items : List Item) (warehouse district_place place cents : ℕ) (order : Purchase) (tables : Tables)
    (home : Warehouse) (district : District) (row : Customer) → IsBegunPurchase warehouse order
    → IsFoundAt (is_warehouse warehouse) tables.warehouses 0 home
    → IsFoundAt (is_district warehouse order.district) tables.districts district_place district
    → IsMeantAt warehouse order.district (who.Number order.customer) tables.customers place
    → slice_get tables.customers place ≡ Some row → cents ≡ purchase_cents items order.lines
    → total_of cents row.discount home.tax district.tax ≡ purchase_total items order tables
total-found items warehouse district_place place cents order tables home district row begun found found_district meant here is =
    let rows : Some meant.row ≡ Some row = sym meant.here ∙ here in
    let same : meant.row ≡ row = cc in
    let buyer_is : buyer order tables ≡ row =
    rw (begun.home) (ap (λ found. unwrap_or found (customer_of [])) meant.meant ∙ same) in
    let home_is : first_or (warehouse_of []) (is_warehouse order.warehouse) tables.warehouses ≡ home =
    rw (begun.home) (ap (λ found. unwrap_or found (warehouse_of [])) found.found) in
    let district_is : first_or (district_of []) (is_district order.warehouse order.district) tables.districts ≡ district =
    rw (begun.home) (ap (λ found. unwrap_or found (district_of [])) found_district.found) in
    ap (λ n. total_of n row.discount home.tax district.tax) is
    ∙ ap (λ (r : Customer). total_of (purchase_cents items order.lines) r.discount home.tax district.tax) (sym buyer_is)
    ∙ ap₂ (λ (w : Warehouse) (d : District). total_of (purchase_cents items order.lines) (buyer order tables).discount w.tax d.tax)
    (sym home_is) (sym district_is)
