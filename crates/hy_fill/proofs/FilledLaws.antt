-- The indexes of a store, filled one after another.
use Rattle.std.proofs.Common.{◌≡◌, List, Option, Some, map, sym, ap, subst, ◌∙◌}
use Rattle.std.specs.Prelude.{slice_get}
use Rattle.hy_rows.specs.declared.new_order.NewOrder.{NewOrder}
use Rattle.hy_rows.specs.Tables.{Tables}
use Rattle.hy_relation.specs.Relation.{row_in}
use Rattle.hy_indexes.specs.of_index.declared.key.Entry.{Entry}
use Rattle.hy_indexes.specs.of_store.declared.keys.OrderKey.{OrderKey}
use Rattle.hy_indexes.specs.of_store.declared.keys.WaitingKey.{WaitingKey}
use Rattle.hy_indexes.specs.of_store.Stored.{Stored}
use Rattle.hy_indexes.specs.Finds.{IsIndexOf}
use Rattle.hy_indexes.specs.Indexes.{AreLastOrders, HasIndexes, line_key_at, order_key_at, waiting_key_at}
use Rattle.hy_fill.specs.inside.Filling.{without_indexes}
use Rattle.hy_fill.proofs.EntryLaws.{index-at, slots-rows}

-- each step changes the entries of one index
pub record AreFilled (own : Tables) (none orders last_orders waiting all : Stored) : Type 0 where
  pub begin : none ≡ without_indexes own
  pub only_orders : orders ≡ record none { orders = orders.orders }
  pub only_last_orders : last_orders ≡ record orders { last_orders = last_orders.last_orders }
  pub only_waiting : waiting ≡ record last_orders { waiting = waiting.waiting }
  pub only_lines : all ≡ record waiting { lines = all.lines }

module _ (own : Tables) (none orders last_orders waiting all : Stored)
    (filled : AreFilled own none orders last_orders waiting all) where
  -- the rows stay those that were there
  pub rows-stay : all.tables ≡ own
  rows-stay =
      ap (λ (s : Stored). s.tables) filled.only_lines ∙ ap (λ (s : Stored). s.tables) filled.only_waiting
      ∙ ap (λ (s : Stored). s.tables) filled.only_last_orders ∙ ap (λ (s : Stored). s.tables) filled.only_orders
      ∙ ap (λ (s : Stored). s.tables) filled.begin

  slots-stay : all.new_order_slots ≡ map Some own.new_orders
  slots-stay =
      ap (λ (s : Stored). s.new_order_slots) filled.only_lines ∙ ap (λ (s : Stored). s.new_order_slots) filled.only_waiting
      ∙ ap (λ (s : Stored). s.new_order_slots) filled.only_last_orders
      ∙ ap (λ (s : Stored). s.new_order_slots) filled.only_orders ∙ ap (λ (s : Stored). s.new_order_slots) filled.begin

  orders-stay : all.orders ≡ orders.orders
  orders-stay =
      ap (λ (s : Stored). s.orders) filled.only_lines ∙ ap (λ (s : Stored). s.orders) filled.only_waiting
      ∙ ap (λ (s : Stored). s.orders) filled.only_last_orders

  last_orders-stay : all.last_orders ≡ last_orders.last_orders
  last_orders-stay =
      ap (λ (s : Stored). s.last_orders) filled.only_lines ∙ ap (λ (s : Stored). s.last_orders) filled.only_waiting

  last_rows-stay : last_orders.tables ≡ all.tables
  last_rows-stay =
      sym (ap (λ (s : Stored). s.tables) filled.only_lines ∙ ap (λ (s : Stored). s.tables) filled.only_waiting)

  pub has_indexes : IsIndexOf order_key_at (slice_get own.orders) orders.orders
      → AreLastOrders last_orders.tables.orders last_orders.last_orders
      → IsIndexOf waiting_key_at (slice_get own.new_orders) waiting.waiting
      → IsIndexOf line_key_at (slice_get own.order_lines) all.lines → HasIndexes all
  has_indexes of_orders of_last of_waiting of_lines = record {
    orders = subst (λ (entries : List (Entry OrderKey)). IsIndexOf order_key_at (slice_get all.tables.orders) entries)
        (sym orders-stay)
        (subst (λ (tables : Tables). IsIndexOf order_key_at (slice_get tables.orders) orders.orders) (sym rows-stay) of_orders);
    last_orders = subst (AreLastOrders all.tables.orders) (sym last_orders-stay)
        (subst (λ (tables : Tables). AreLastOrders tables.orders last_orders.last_orders) last_rows-stay of_last);
    waiting = subst (λ (entries : List (Entry WaitingKey)). IsIndexOf waiting_key_at (row_in all.new_order_slots) entries)
        (sym (ap (λ (s : Stored). s.waiting) filled.only_lines))
        (subst (λ (slots : List (Option NewOrder)). IsIndexOf waiting_key_at (row_in slots) waiting.waiting) (sym slots-stay)
        (index-at waiting_key_at (slice_get own.new_orders) (row_in (map Some own.new_orders)) waiting.waiting
        (slots-rows own.new_orders) of_waiting));
    lines = subst (λ (tables : Tables). IsIndexOf line_key_at (slice_get tables.order_lines) all.lines) (sym rows-stay) of_lines;
  }
