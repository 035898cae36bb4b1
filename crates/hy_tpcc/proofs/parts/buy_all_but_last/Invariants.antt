-- So many slices are done.
use Rattle.hy_commands.specs.declared.command.Command.TheVariants as commands
use Rattle.hy_writers.specs.of_store.Writes.{IsWritableStore, WritesStore, stored_in}
use Rattle.hy_tpcc.specs.Executor.{DoesSlices}
use Rattle.hy_tpcc.proofs.parts.buy_all_but_last.Given as goal

abbrev pub invariant-loop-done : goal.invariant-loop-done
invariant-loop-done g l = record {
  writable : IsWritableStore g.row.N l.space l.undo;
  writes : WritesStore g.row.N l.initial.space l.space l.initial.undo l.undo;
  slices : DoesSlices l.layout (commands.NewOrder l.order) l.place l.done (stored_in g.row.N l.initial.space)
      (stored_in g.row.N l.space);
}
