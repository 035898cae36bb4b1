use Rattle.std.proofs.Common.{◌≡◌, ◌≤◌, length, take}
use Rattle.hy_indexes.specs.of_store.Pages.{KeepsPagesUpTo}
use Rattle.hy_indexes.specs.of_store.Writes.{IsWritableStore, stored_in}
use Rattle.hy_fill.specs.inside.Filling.{HasSameEntries, StaysOpen}
use Rattle.hy_fill.proofs.entries.insert_entries.Given as goal

-- the index has the entries so far
abbrev pub invariant-loop-entry : goal.invariant-loop-entry
invariant-loop-entry g l = record {
  writable : IsWritableStore g.row.N l.space l.undo;
  same : HasSameEntries (take l.entry-index l.entries) (g.K.Indexed.entries_in (stored_in g.row.N l.space));
  count : length (g.K.Indexed.entries_in (stored_in g.row.N l.space)) ≤ l.entry-index;
  only : stored_in g.row.N l.space ≡ g.K.Indexed.with_entries (stored_in g.row.N l.fn.space)
      (g.K.Indexed.entries_in (stored_in g.row.N l.space));
  stays : StaysOpen l.fn.space l.space;
  pages : KeepsPagesUpTo g.row.N g.K.Indexed.SEGMENT (length l.entries) l.fn.space l.space;
}
