use Rattle.std.proofs.Common.{take}
use Rattle.hy_columns.specs.Scans.{lists_in_scan}
use Rattle.hy_query.specs.Rows.{rows_of}
use Rattle.hy_answers.specs.inside.Reading.{AreLater}
use Rattle.hy_answers.proofs.reading.read_later.Given as goal

-- the columns so far
abbrev pub invariant-loop-column : goal.invariant-loop-column
invariant-loop-column g l = AreLater (rows_of (lists_in_scan g.row.N l.scan)) l.first (take l.column-index l.names) l.later.items
