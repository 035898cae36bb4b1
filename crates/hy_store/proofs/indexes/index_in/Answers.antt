use Rattle.std.proofs.Common.{◌≡◌, ℕ, sym, subst}
use Rattle.hy_index.specs.of_nodes.Writes.{pages_of}
use Rattle.hy_space.specs.Space.{owner_bytes}
use Rattle.hy_index.specs.Writes.{IsIndex}
use Rattle.hy_store.specs.Stored.{AreIndexes}
use Rattle.hy_store.proofs.indexes.index_in.Goals as goal

pub returns-clause-index : goal.returns-clause-index
unfolding AreIndexes
returns-clause-index g c =
    let at : c.new.result ≡ g.K.Indexed.SEGMENT = cc in
    subst (λ (segment : ℕ). IsIndex g.row.N g.K.Key.BYTES g.K.Key.bytes_of_key g.K.Key.key_of_bytes g.K.Key.IsKey (pages_of c.args._space.now segment))
    (sym at) (g.met.K.Indexed.is_index g.row.N (owner_bytes c.args._space.now) c.requires.indexes)
