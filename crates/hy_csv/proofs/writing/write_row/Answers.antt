use Rattle.hy_rows.specs.Catalogue.{columns_of}
use Rattle.hy_csv.proofs.WritingLaws.{row_ended}
use Rattle.hy_csv.proofs.writing.write_row.Goals as goal

pub returns : goal.returns
returns g c =
    let row = c.args.row.now in
    row_ended (columns_of g.R.Record.TABLE) (g.R.Record.values_of row) c.args.records.now c.put.new.sink c.end.new.self
    c.end.result (g.met.R.Record.has_all row) c.in_ok-put.ensures c.end.ensures
