use Rattle.std.proofs.Common.{◌≡◌, ◌*◌, ◌≤◌, length}
use Rattle.hy_rows.specs.Spelling.{slot_width}
use Rattle.hy_columns.specs.inside.Pages.{rows_on, whole_row}
use Rattle.hy_columns.proofs.pages.count_page.Given as goal

-- the rows of the slots so far, which are no more than these
abbrev pub invariant-loop : goal.invariant-loop
invariant-loop l = record {
  at : l.at ≡ l.counter * slot_width l.row_bytes;
  rows : l.rows ≡ length (rows_on l.row_bytes whole_row l.page l.counter);
  most : l.rows ≤ l.counter;
}
