use Rattle.std.proofs.Common.{◌≡◌, ◌==◌, ◌+◌, take, filter, length}
use Rattle.hy_indexes.specs.of_store.Stored.{new_order_segment}
use Rattle.hy_indexes.specs.of_store.Pages.{KeepsPagesUpTo}
use Rattle.hy_indexes.specs.of_store.Writes.{IsWritableStore, stored_in}
use Rattle.hy_fill.specs.inside.Filling.{StaysOpen, with_new_orders}
use Rattle.hy_fill.proofs.rows.push_new_orders.Given as goal

-- those of the rows so far that belong to the warehouse stand behind those of NEW-ORDER
abbrev pub invariant-loop-row : goal.invariant-loop-row
invariant-loop-row g l = record {
  writable : IsWritableStore g.row.N l.space l.undo;
  rows : stored_in g.row.N l.space ≡ with_new_orders
      (filter (λ row. row.warehouse == l.warehouse) (take l.row-index l.rows)) (stored_in g.row.N l.fn.space);
  stays : StaysOpen l.fn.space l.space;
  pages : KeepsPagesUpTo g.row.N new_order_segment (length (stored_in g.row.N l.fn.space).new_order_slots
      + length (filter (λ row. row.warehouse == l.warehouse) l.rows)) l.fn.space l.space;
}
