use Rattle.std.proofs.Common.{◌≡◌, ◌≤◌, length, take}
use Rattle.hy_indexes.specs.of_store.Pages.{KeepsPagesUpTo}
use Rattle.hy_indexes.specs.of_store.Stored.{last_order_index}
use Rattle.hy_indexes.specs.of_store.Writes.{IsWritableStore, stored_in}
use Rattle.hy_fill.specs.inside.Filling.{StaysOpen}
use Rattle.hy_fill.specs.inside.LastOrders.{AreLastOf}
use Rattle.hy_fill.proofs.last_orders.give_orders.Given as goal

-- of the orders so far, each customer has one with the greatest number
abbrev pub invariant-loop-entry : goal.invariant-loop-entry
invariant-loop-entry g l = record {
  writable : IsWritableStore g.row.N l.space l.undo;
  last_orders : AreLastOf (stored_in g.row.N l.fn.space).tables.orders (take l.entry-index l.entries)
      (stored_in g.row.N l.space).last_orders;
  count : length (stored_in g.row.N l.space).last_orders ≤ l.entry-index;
  only : stored_in g.row.N l.space ≡ record (stored_in g.row.N l.fn.space) {
    last_orders = (stored_in g.row.N l.space).last_orders;
  };
  stays : StaysOpen l.fn.space l.space;
  pages : KeepsPagesUpTo g.row.N last_order_index (length l.entries) l.fn.space l.space;
}
