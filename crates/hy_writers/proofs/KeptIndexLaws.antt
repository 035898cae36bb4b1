-- Indexes of rows that changed without their keys.
use Rattle.std.proofs.Common.{◌≡◌, ◌≢◌, ℕ, zero, suc, Bool, true, false, cond, List, [], ◌∷◌, map, Option, Some, None, refl, sym, ap, ap₂, subst, ◌∙◌, arith}
use Rattle.std.specs.Prelude.{slice_get, slice_set}
use Rattle.hy_rows.specs.declared.new_order.NewOrder.{NewOrder}
use Rattle.hy_rows.specs.declared.order.Order.{Order}
use Rattle.hy_rows.specs.Finding.{with_changed}
use Rattle.hy_indexes.specs.of_index.declared.key.Entry.{Entry}
use Rattle.hy_indexes.specs.of_index.Index.{IsInOrder, without}
use Rattle.hy_relation.specs.Relation.{row_in}
use Rattle.hy_commands.specs.Sorting.{with_all_changed}
use Rattle.hy_commands.specs.declared.command.Delivery.{Delivery}
use Rattle.hy_commands.specs.Deliveries.{carried, delivered_line}
use Rattle.hy_schema.specs.Related.{is_line_of, is_order}
use Rattle.hy_indexes.specs.of_store.declared.keys.CustomerKey.{CustomerKey}
use Rattle.hy_indexes.specs.of_store.declared.keys.WaitingKey.{WaitingKey}
use Rattle.hy_indexes.specs.of_store.Keys.{is_lesser_waiting}
use Rattle.hy_indexes.specs.of_store.Stored.{Stored}
use Rattle.hy_layout.specs.Finds.{IsIn}
use Rattle.hy_indexes.specs.Finds.{IsIndexOf}
use Rattle.hy_indexes.specs.Indexes.{AreLastOrders, HasIndexes, buyer_key_at, line_key_at, order_key_at, waiting_key_at}
use Rattle.hy_indexes.proofs.IndexLaws.{index-erased}
use Rattle.hy_indexes.proofs.KeyOrders.{order-of_waiting}
use Rattle.hy_layout.proofs.PlaceLaws.{get-map, map-get}
use Rattle.hy_writers.specs.Deliveries.{with_delivery}

pub index-same_keys : {Key Row : Type 0} (key_of : Row → Key) (rows others : List Row) (entries : List (Entry Key))
    → map key_of others ≡ map key_of rows → IsIndexOf key_of (slice_get rows) entries
    → IsIndexOf key_of (slice_get others) entries
index-same_keys {Key = Key} key_of rows others entries same index = record {
  there = λ entry there.
      let row = index.there entry there in
      let other = map-get key_of others entry.slot (key_of row.0)
      (ap (λ keys. slice_get keys entry.slot) same ∙ get-map key_of rows entry.slot row.0 row.1) in
      (other.0, other.1, other.2 ∙ row.2);
  all = λ slot other here.
      let row = map-get key_of rows slot (key_of other)
      (ap (λ keys. slice_get keys slot) (sym same) ∙ get-map key_of others slot other here) in
      subst (λ (k : Key). IsIn (record { key = k; slot = slot }) entries) row.2 (index.all slot row.0 row.1);
}

-- the customer and the number of an order
abbrev pub buyer_and_number : Order → CustomerKey × ℕ
buyer_and_number row = (buyer_key_at row, row.id)

pub last_orders-same : (rows others : List Order) (entries : List (Entry CustomerKey))
    → map buyer_and_number others ≡ map buyer_and_number rows → AreLastOrders rows entries → AreLastOrders others entries
last_orders-same rows others entries same last = record {
  there = λ entry there.
      let row = last.there entry there in
      let other = map-get buyer_and_number others entry.slot (buyer_and_number row.0)
      (ap (λ keys. slice_get keys entry.slot) same ∙ get-map buyer_and_number rows entry.slot row.0 row.1) in (
        other.0,
        other.1,
        ap (λ k. k.0) other.2 ∙ row.2,
        λ place another here key.
            let before = map-get buyer_and_number rows place (buyer_and_number another)
            (ap (λ keys. slice_get keys place) (sym same) ∙ get-map buyer_and_number others place another here) in
            let less = row.3 place before.0 before.1 (ap (λ k. k.0) before.2 ∙ key) in
            let one : (before.0).id ≡ another.id = ap (λ k. k.1) before.2 in
            let two : (other.0).id ≡ (row.0).id = ap (λ k. k.1) other.2 in
            omega (arith, less, one, two),
      );
  all = λ place other here.
      let row = map-get buyer_and_number rows place (buyer_and_number other)
      (ap (λ keys. slice_get keys place) (sym same) ∙ get-map buyer_and_number others place other here) in
      let was = last.all place row.0 row.1 in
      (was.0, subst (λ (k : CustomerKey). IsIn (record { key = k; slot = was.0 }) entries) (ap (λ k. k.0) row.2) was.1);
}

map-changed : {Row Key : Type 0} (key : Row → Key) (test : Row → Bool) (change : Row → Row)
    → ((row : Row) → key (change row) ≡ key row) → (rows : List Row)
    → map key (with_changed test change rows) ≡ map key rows
map-changed key test change same [] = refl
map-changed key test change same (row ∷ rows) =
    elim (test row) as (λ b. map key (cond b (change row ∷ rows) (row ∷ with_changed test change rows)) ≡ key row ∷ map key rows) [
      | true ↦ ap (λ k. k ∷ map key rows) (same row)
      | false ↦ ap (λ keys. key row ∷ keys) (map-changed key test change same rows)
    ]

map-all_changed : {Row Key : Type 0} (key : Row → Key) (test : Row → Bool) (change : Row → Row)
    → ((row : Row) → key (change row) ≡ key row) → (rows : List Row)
    → map key (with_all_changed test change rows) ≡ map key rows
map-all_changed key test change same [] = refl
map-all_changed {Key = Key} key test change same (row ∷ rows) =
    ap₂ (λ (k : Key) (keys : List Key). k ∷ keys)
    (elim (test row) as (λ b. key (cond b (change row) row) ≡ key row) [
      | true ↦ same row
      | false ↦ refl
    ])
    (map-all_changed key test change same rows)

slot-set_same : (slots : List (Option NewOrder)) (slot : ℕ) → row_in (slice_set slots slot None) slot ≡ None
slot-set_same [] slot = refl
slot-set_same (first ∷ slots) zero = refl
slot-set_same (first ∷ slots) (suc slot) = slot-set_same slots slot

slot-set_other : (slots : List (Option NewOrder)) (slot other : ℕ) → other ≢ slot
    → row_in (slice_set slots slot None) other ≡ row_in slots other
slot-set_other [] slot other differs = refl
slot-set_other (first ∷ slots) zero zero differs = absurd (differs refl)
slot-set_other (first ∷ slots) zero (suc other) differs = refl
slot-set_other (first ∷ slots) (suc slot) zero differs = refl
slot-set_other (first ∷ slots) (suc slot) (suc other) differs =
    slot-set_other slots slot other (λ same. differs (ap suc same))

-- the indexes after a delivery
pub indexes-delivered : (delivery : Delivery) (order : Order) (slot : ℕ) (row : NewOrder) (s : Stored) → HasIndexes s
    → IsInOrder is_lesser_waiting s.waiting → row_in s.new_order_slots slot ≡ Some row
    → waiting_key_at row ≡ record { district = order.district; order = order.id }
    → HasIndexes (with_delivery delivery order slot s)
indexes-delivered delivery order slot row s has in_order here key = record {
  orders = index-same_keys order_key_at s.tables.orders
      (with_changed (is_order order.warehouse order.district order.id) (carried delivery.carrier) s.tables.orders) s.orders
      (map-changed order_key_at (is_order order.warehouse order.district order.id) (carried delivery.carrier)
      (λ row. refl) s.tables.orders) has.orders;
  last_orders = last_orders-same s.tables.orders
      (with_changed (is_order order.warehouse order.district order.id) (carried delivery.carrier) s.tables.orders)
      s.last_orders
      (map-changed buyer_and_number (is_order order.warehouse order.district order.id) (carried delivery.carrier)
      (λ row. refl) s.tables.orders) has.last_orders;
  waiting = subst (λ (k : WaitingKey). IsIndexOf waiting_key_at (row_in (slice_set s.new_order_slots slot None))
      (without is_lesser_waiting k s.waiting)) key
      (index-erased is_lesser_waiting order-of_waiting waiting_key_at (row_in s.new_order_slots)
      (row_in (slice_set s.new_order_slots slot None)) s.waiting slot row in_order has.waiting here
      (slot-set_same s.new_order_slots slot) (slot-set_other s.new_order_slots slot));
  lines = index-same_keys line_key_at s.tables.order_lines
      (with_all_changed (is_line_of order) (delivered_line delivery.at) s.tables.order_lines) s.lines
      (map-all_changed line_key_at (is_line_of order) (delivered_line delivery.at) (λ row. refl) s.tables.order_lines)
      has.lines;
}
