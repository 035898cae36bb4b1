-- What a store is after a change of its slots of NEW-ORDER.
use Rattle.std.specs.Prelude.{ℕ, None, Some, [], ◌∷◌, ◌++◌, slice_set}
use Rattle.hy_rows.specs.declared.new_order.NewOrder.{NewOrder}
use Rattle.hy_rows.specs.Spelling.{live_rows}
use Rattle.hy_store.specs.Stored.{Stored}

-- a row more, in a slot behind the others
abbrev pub with_new_order : NewOrder → Stored → Stored
with_new_order row s = record s {
  tables = record s.tables { new_orders = s.tables.new_orders ++ row ∷ [] };
  new_order_slots = s.new_order_slots ++ Some row ∷ [];
}

-- a slot has no row any more
abbrev pub without_new_order : ℕ → Stored → Stored
without_new_order slot s = record s {
  tables = record s.tables { new_orders = live_rows (slice_set s.new_order_slots slot None) };
  new_order_slots = slice_set s.new_order_slots slot None;
}
