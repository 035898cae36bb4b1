use Rattle.std.proofs.Common.{ℕ, List, ap, ◌∙◌, arith}
use Rattle.hy_joins.specs.of_nodes.declared.pages.Tree.{Tree}
use Rattle.hy_index.specs.Writes.{leaf_items}
use Rattle.hy_joins.specs.of_nodes.Writes.{pages_of}
use Rattle.hy_joins.specs.of_nodes.Nodes.{nodes_of}
use Rattle.hy_trees.specs.Trees.{height_of}
use Rattle.hy_index.specs.Searches.{found_in}
use Rattle.hy_index.proofs.IndexLaws.{found-index, height-entries}
use Rattle.hy_index.proofs.Index.find_counted.Goals as goal

pub returns-clause-value : goal.returns-clause-value
returns-clause-value g c =
    c.slot_of.ensures.value
    ∙ ap (λ (tree : Tree). found_in c.as_slice.result.now (leaf_items tree.key_bytes (pages_of c.args.space.now tree.segment))) c.tree.ensures
    ∙ ap (λ (bytes : List ℕ). found_in bytes (leaf_items g.K.Key.BYTES (pages_of c.args.space.now c.args.self.now))) (c.as_slice.ensures.value ∙ c.bytes_of-bytes.ensures.bytes)
    ∙ found-index g.row.N g.K.Key.BYTES g.K.Key.bytes_of_key g.K.Key.key_of_bytes g.K.Key.IsKey g.K.Key.is_less g.met.K.Key.ordered (pages_of c.args.space.now c.args.self.now) c.requires.index c.args.key.now c.bytes_of-bytes.ensures.is_key

pub returns-clause-counted : goal.returns-clause-counted
returns-clause-counted g c few =
    let same = ap (λ (tree : Tree). height_of (nodes_of tree.key_bytes (pages_of c.args.space.now tree.segment))) c.tree.ensures in
    omega (arith, same, c.slot_of.ensures.counted (omega (arith, same, few)))

pub returns-clause-reads : goal.returns-clause-reads
returns-clause-reads g c digits few =
    let height = height-entries g.row.N g.K.Key.BYTES g.K.Key.bytes_of_key g.K.Key.key_of_bytes g.K.Key.IsKey g.K.Key.is_less g.met.K.Key.ordered (pages_of c.args.space.now c.args.self.now) c.requires.index digits few in
    let same = ap (λ (tree : Tree). height_of (nodes_of tree.key_bytes (pages_of c.args.space.now tree.segment))) c.tree.ensures in
    omega (arith, height, same, c.slot_of.ensures.count)
