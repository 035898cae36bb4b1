use Rattle.hy_store.proofs.rows.know_relation.Goals as goal

pub returns : goal.returns
returns g c = c.requires.tables.slots g.R.Row.SEGMENT g.R.Row.BYTES g.met.R.Row.is_table
