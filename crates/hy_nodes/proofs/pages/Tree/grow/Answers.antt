use Rattle.std.proofs.Common.{arith}
use Rattle.hy_nodes.proofs.FreeLaws.{nodes-grow}
use Rattle.hy_nodes.proofs.pages.Tree.grow.Goals as goal

pub returns-clause-nodes : goal.returns-clause-nodes
returns-clause-nodes g c = nodes-grow g.row.N c.args.self.key_bytes c.args.self.segment c.args.space.now c.grow.new.space c.grow.result c.requires.there (omega (arith, c.sound.ensures.size.smallest)) c.grow.ensures.grows
