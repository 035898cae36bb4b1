use Rattle.std.proofs.Common.{◌≡◌, ◌-◌, ◌≤◌, length}
use Rattle.hy_columns.specs.inside.Pages.{rows_from, whole_row}
use Rattle.hy_columns.proofs.pages.count_slots.Given as goal

-- the slots that are left
abbrev pub decreases-loop-done : goal.decreases-loop-done
decreases-loop-done g l = l.count - l.done

-- the rows of the slots so far, which are no more than these
abbrev pub invariant-loop-done : goal.invariant-loop-done
invariant-loop-done g l = record {
  within : l.done ≤ l.count;
  rows : l.rows ≡ length (rows_from g.row.N l.row_bytes whole_row l.pages l.first l.done);
  most : l.rows ≤ l.done;
}
