use Rattle.hy_space.specs.Space.{owner_bytes}
use Rattle.hy_store.proofs.StoreLaws.{slots-lasting}
use Rattle.hy_store.proofs.rows.know_rows.Goals as goal

pub returns-clause-relation : goal.returns-clause-relation
returns-clause-relation g c = c.requires.tables.slots g.R.Row.SEGMENT g.R.Row.BYTES g.met.R.Row.is_table

pub returns-clause-slots : goal.returns-clause-slots
returns-clause-slots g c =
    slots-lasting g.row.N g.R.Row.SEGMENT g.R.Row.BYTES g.R.Row.row_of_bytes g.R.Row.rows_in g.R.Row.with_rows g.met.R.Row.is_table g.met.R.Lasting.lasts g.met.R.Row.spelled g.met.R.Row.respelled
    (owner_bytes c.args._space.now) c.requires
