use Rattle.hy_indexes.specs.of_store.Writes.{stored_in}
use Rattle.hy_writers.proofs.FindLaws.{found-district}
use Rattle.hy_writers.proofs.finds.own_district.Goals as goal

-- src/finds.rt:38:1
pub returns : goal.returns
returns g c =
    found-district c.args.layout.now.warehouse c.args.district (stored_in g.row.N c.args.space.now).tables
    c.row_at.result c.requires.rows c.requires.district c.row_at.ensures
