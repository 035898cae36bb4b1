use Rattle.std.proofs.Common.{◌≡◌, length, map, take}
use Rattle.hy_columns.specs.Scans.{lists_in_scan}
use Rattle.hy_query.specs.Rows.{rows_of}
use Rattle.hy_answers.proofs.reading.read_counts.Given as goal

-- the tables so far
abbrev pub invariant-loop-table : goal.invariant-loop-table
invariant-loop-table g l =
    l.counts.items ≡ map (λ table. length (rows_of (lists_in_scan g.row.N l.scan) table)) (take l.table-index l.tables)
