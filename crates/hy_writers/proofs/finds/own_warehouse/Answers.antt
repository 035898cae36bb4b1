use Rattle.hy_indexes.specs.of_store.Writes.{stored_in}
use Rattle.hy_writers.proofs.FindLaws.{found-warehouse}
use Rattle.hy_writers.proofs.finds.own_warehouse.Goals as goal

-- src/finds.rt:18:1
pub returns : goal.returns
returns g c =
    found-warehouse c.args.layout.now.warehouse (stored_in g.row.N c.args.space.now).tables c.row_at.result
    c.requires.rows c.row_at.ensures
