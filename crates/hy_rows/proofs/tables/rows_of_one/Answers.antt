use Rattle.hy_rows.proofs.ListLaws.{filter-more}
use Rattle.hy_rows.proofs.tables.rows_of_one.Goals as goal

-- a row more was tested
pub loop-row-preserved : goal.loop-row-preserved
loop-row-preserved g c =
    filter-more (g.R.Row.is_of c.args.warehouse) c.args.rows.now _ _ c.loop-row.row-index c.row-item.result c.loop-row-test.true c.row-item.is c.loop-row.invariant c.in_ok-push_own.ensures
