use Rattle.std.proofs.Common.{◌≡◌, ◌+◌, take, filter, length}
use Rattle.hy_indexes.specs.of_store.Pages.{KeepsPagesUpTo}
use Rattle.hy_indexes.specs.of_store.Writes.{IsWritableStore, stored_in}
use Rattle.hy_fill.specs.inside.Filling.{StaysOpen, with_more}
use Rattle.hy_fill.proofs.rows.push_rows.Given as goal

-- those of the rows so far that belong to the warehouse stand behind those of the table
abbrev pub invariant-loop-row : goal.invariant-loop-row
invariant-loop-row g l = record {
  writable : IsWritableStore g.row.N l.space l.undo;
  rows : stored_in g.row.N l.space ≡ with_more g.R.Row.rows_in g.R.Row.with_rows
      (filter (g.R.Row.is_of l.warehouse) (take l.row-index l.rows)) (stored_in g.row.N l.fn.space);
  stays : StaysOpen l.fn.space l.space;
  pages : KeepsPagesUpTo g.row.N g.R.Row.SEGMENT (length (g.R.Row.rows_in (stored_in g.row.N l.fn.space).tables)
      + length (filter (g.R.Row.is_of l.warehouse) l.rows)) l.fn.space l.space;
}
