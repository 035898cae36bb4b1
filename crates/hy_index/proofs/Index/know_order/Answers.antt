use Rattle.hy_joins.specs.of_nodes.Writes.{pages_of}
use Rattle.hy_joins.proofs.of_nodes.ReachLaws.{some_least}
use Rattle.hy_index.proofs.IndexLaws.{in_order}
use Rattle.hy_index.proofs.Index.know_order.Goals as goal

pub returns : goal.returns
returns g c = in_order g.row.N g.K.Key.BYTES g.K.Key.bytes_of_key g.K.Key.key_of_bytes g.K.Key.IsKey g.K.Key.is_less g.met.K.Key.ordered (pages_of c.args.space.now c.args.self.now) c.requires.index (some_least g.row.N g.K.Key.BYTES)
