use Rattle.std.proofs.Common.{◌≡◌, ◌+◌, drop, map}
use Rattle.hy_rows.specs.Columns.{defined, row_width}
use Rattle.hy_rows.proofs.column.row_width.Given as goal

-- the width of the columns so far, and that of those to come
abbrev pub invariant-loop-column : goal.invariant-loop-column
invariant-loop-column l =
    l.width + row_width (map defined (drop l.column-index l.columns)) ≡ row_width (map defined l.columns)
