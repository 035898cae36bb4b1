use Rattle.std.proofs.Common.{filter}
use Rattle.hy_rows.specs.Tables.{Tables}
use Rattle.hy_indexes.specs.of_store.Writes.{stored_in}
use Rattle.hy_layout.specs.Layout.{own_rows}
use Rattle.hy_fill.specs.Frames.{entry_counts}
use Rattle.hy_fill.proofs.CountLaws.{filled-within, own-passed}
use Rattle.hy_fill.proofs.rows.fill_table.Goals as goal

-- the table's pages are for the rows that it has at most
pub returns-clause-pages : goal.returns-clause-pages
returns-clause-pages g c =
    let layout = c.args.layout.now in
    let own : Tables = own_rows layout in
    let rows_in = g.R.Row.rows_in in
    filled-within g.row.N g.R.Row.SEGMENT own c.args.space.now c.push_rows.new.space
    (rows_in (stored_in g.row.N c.args.space.now).tables) (filter (g.R.Row.is_of c.warehouse.result) c.list-rows.result.now)
    (rows_in own)
    (own-passed rows_in g.R.Row.is_of g.R.Row.own_in layout c.load.result.now c.tables.result.now c.warehouse.result
    c.list-rows.result.now c.load.ensures c.tables.ensures c.warehouse.ensures c.list-rows.ensures)
    c.requires.empty (g.R.Row.counted own (entry_counts own)) c.push_rows.ensures.pages
