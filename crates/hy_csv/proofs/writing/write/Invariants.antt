use Rattle.std.proofs.Common.{drop}
use Rattle.hy_rows.specs.Catalogue.{names_of}
use Rattle.hy_csv.specs.Fields.{fields_of}
use Rattle.hy_csv.proofs.WritingLaws.{WritesRows}
use Rattle.hy_csv.proofs.writing.write.Given as goal

abbrev pub invariant-loop-row : goal.invariant-loop-row
invariant-loop-row g l =
    WritesRows (names_of g.R.Record.TABLE) (λ row. fields_of (g.R.Record.values_of row)) l.rows (drop l.row-index l.rows)
    l.records
