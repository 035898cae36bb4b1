-- The lines so far are sold, and the others are still to be.
use Rattle.hy_writers.specs.of_store.Writes.{IsWritableStore, WritesStore, stored_in}
use Rattle.hy_tpcc.proofs.PartLaws.{SellsLines}
use Rattle.hy_tpcc.proofs.parts.sell_lines.Given as goal

abbrev pub invariant-loop-place : goal.invariant-loop-place
invariant-loop-place g l = record {
  writable : IsWritableStore g.row.N l.space l.undo;
  writes : WritesStore g.row.N l.initial.space l.space l.initial.undo l.undo;
  sells : SellsLines l.layout l.order l.place (stored_in g.row.N l.initial.space) (stored_in g.row.N l.space);
}
