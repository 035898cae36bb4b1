use Rattle.std.proofs.Common.{◌≡◌, ◌≤◌, length}
use Rattle.hy_columns.specs.inside.Pages.{rows_from, whole_row}
use Rattle.hy_columns.proofs.spanned.count_spanned.Given as goal

-- the rows of the slots so far, which are no more than these
abbrev pub invariant-loop-place : goal.invariant-loop-place
invariant-loop-place g l = record {
  rows : l.rows ≡ length (rows_from g.row.N l.row_bytes whole_row l.pages l.first l.place);
  most : l.rows ≤ l.place;
}
