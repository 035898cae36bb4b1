use Rattle.std.proofs.Common.{◌≡◌, drop}
use Rattle.hy_query.specs.Columns.{column_among}
use Rattle.hy_query.proofs.names.column_among.Given as goal

abbrev pub invariant-loop-table : goal.invariant-loop-table
invariant-loop-table l = column_among (drop l.table-index l.tables) l.word ≡ column_among l.tables l.word
