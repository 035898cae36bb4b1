use Rattle.std.proofs.Common.{◌∙◌, ap, rules}
use Rattle.hy_rows.specs.Catalogue.{columns_of}
use Rattle.hy_csv.specs.Fields.{fields_of}
use Rattle.hy_csv.proofs.WritingLaws.{names_written, row_written}
use Rattle.hy_csv.proofs.writing.write.Goals as goal

pub loop-row-init : goal.loop-row-init
loop-row-init g c =
    names_written g.R.Record.TABLE c.columns.result.now (λ row. fields_of (g.R.Record.values_of row)) c.args.rows.now
    c.new-records.result c.write_names.new.records (c.columns.ensures ∙ ap columns_of c.TABLE.ensures)
    c.new-records.ensures c.in_ok-write_names.ensures

pub loop-row-preserved : goal.loop-row-preserved
loop-row-preserved g c =
    row_written g.R.Record.TABLE g.R.Record.values_of c.args.rows.now c.loop-row.row-index c.row-item.result
    c.loop-row.records c.write_row.new.records (g.met.R.Record.has_all c.row-item.result) c.loop-row-test.true
    (search (rules, c.row-item.is)) c.loop-row.invariant c.in_ok-write_row.ensures
