use Rattle.hy_relation.proofs.SpaceLaws.{ends_few, used_small}
use Rattle.hy_relation.proofs.slots.know_few.Goals as goal

pub returns-clause-used : goal.returns-clause-used
returns-clause-used g c = used_small g.row.N g.R.Row.SEGMENT c.args.space.now c.sound.ensures c.requires.first g.R.Row.BYTES c.requires

pub returns-clause-ends : goal.returns-clause-ends
returns-clause-ends g c = ends_few g.row.N g.R.Row.SEGMENT c.args.space.now c.sound.ensures c.requires.first g.R.Row.BYTES c.requires
