use Rattle.hy_writers.specs.of_store.Writes.{stored_in}
use Rattle.hy_tpcc.proofs.LevelLaws.{next-order}
use Rattle.hy_tpcc.proofs.level.next_order.Goals as goal

pub returns : goal.returns
returns g c =
    next-order c.args.level.now.warehouse c.args.layout.now.warehouse c.args.level.now.district
    (stored_in g.row.N c.args.space.now).tables c.row_at.result c.requires.home c.requires.rows c.requires.district
    c.row_at.ensures
