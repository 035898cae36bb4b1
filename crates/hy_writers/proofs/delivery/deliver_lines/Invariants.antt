-- The lines of the entries so far are delivered, and those of the others are still to be.
use Rattle.std.proofs.Common.{◌≡◌, ◌*◌, pos, ◌≤ℤ◌, drop, length}
use Rattle.std.specs.Prelude.{All}
use Rattle.hy_rows.specs.declared.order_line.OrderLine.{OrderLine}
use Rattle.hy_rows.specs.Limits.{max_line_cents}
use Rattle.hy_commands.specs.Growth.{IsLineAmount}
use Rattle.hy_space.specs.Space.{owner_bytes}
use Rattle.hy_indexes.specs.of_store.Stored.{HasStore}
use Rattle.hy_indexes.specs.of_store.Writes.{WritesStore, stored_in}
use Rattle.hy_writers.specs.Deliveries.{places_of, walk_over, walked, with_lines}
use Rattle.hy_writers.proofs.delivery.deliver_lines.Given as goal

abbrev pub invariant-loop-entry : goal.invariant-loop-entry
invariant-loop-entry g l = record {
  store : HasStore g.row.N (owner_bytes l.space);
  writes : WritesStore g.row.N l.initial.space l.space l.initial.undo l.undo;
  stored : stored_in g.row.N l.space
      ≡ with_lines (stored_in g.row.N l.initial.space) (stored_in g.row.N l.space).tables.order_lines;
  walk : walked l.moment (places_of (drop l.entry-index l.entries))
      (record { rows = (stored_in g.row.N l.space).tables.order_lines; cents = l.cents })
      ≡ walk_over l.moment (places_of l.entries) (stored_in g.row.N l.initial.space);
  many : length (stored_in g.row.N l.space).tables.order_lines
      ≡ length (stored_in g.row.N l.initial.space).tables.order_lines;
  amounts : All (λ (row : OrderLine). IsLineAmount row.amount) (stored_in g.row.N l.space).tables.order_lines;
  low : pos 0 ≤ℤ l.cents;
  high : l.cents ≤ℤ pos (max_line_cents * l.entry-index);
}
