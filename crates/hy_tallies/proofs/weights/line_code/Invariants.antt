use Rattle.std.proofs.Common.{◌≡◌, drop, map}
use Rattle.hy_tallies.specs.Lines.{column_in, row_at}
use Rattle.hy_tallies.specs.inside.Keys.{code_from}
use Rattle.hy_tallies.proofs.weights.line_code.Given as goal

-- the columns that are left lead to the whole
abbrev pub invariant-loop-column : goal.invariant-loop-column
invariant-loop-column l =
    code_from l.code (row_at (map column_in (drop l.column-index l.columns)) l.line)
    ≡ code_from 0 (row_at (map column_in l.columns) l.line)
