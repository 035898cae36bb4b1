use Rattle.std.proofs.Common.{◌≡◌, filter, take}
use Rattle.hy_rows.proofs.tables.rows_of_one.Given as goal

-- those of the rows up to here
abbrev pub invariant-loop-row : goal.invariant-loop-row
invariant-loop-row g l = l.found.items ≡ filter (g.R.Row.is_of l.warehouse) (take l.row-index l.rows)
