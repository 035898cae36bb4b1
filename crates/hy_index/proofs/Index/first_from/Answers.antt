use Rattle.std.proofs.Common.{ℕ, ◌<◌, length, ap, sym, subst, ◌∙◌, arith}
use Rattle.hy_joins.specs.of_nodes.declared.pages.Tree.{Tree}
use Rattle.hy_trees.specs.Trees.{entries_under}
use Rattle.hy_trees.specs.Searches.{first_from}
use Rattle.std.specs.Option.{option_map}
use Rattle.hy_joins.specs.of_nodes.Pages.{nodes_in}
use Rattle.hy_joins.specs.of_nodes.Ways.{HasTree}
use Rattle.hy_index.specs.Parts.{IsPartAt}
use Rattle.hy_index.specs.Writes.{entry_of}
use Rattle.hy_index.proofs.PartLaws.{whole-tree}
use Rattle.hy_index.proofs.CallLaws.{first-index}
use Rattle.hy_index.proofs.Index.first_from.Goals as goal

pub first_under-requires : goal.first_under-requires
first_under-requires g c =
    (omega arith, (subst (λ (t : Tree). t.segment < length c.args.space.now.owner) (sym c.tree-tree.ensures) c.requires.there, (ap (λ (t : Tree). t.key_bytes) c.tree-tree.ensures, (ap length (c.as_slice.ensures.value ∙ c.bytes_of-bytes.ensures.bytes) ∙ g.met.K.Key.width c.args.key.now c.bytes_of-bytes.ensures.is_key ∙ sym (ap (λ (t : Tree). t.key_bytes) c.tree-tree.ensures), subst (λ (d : ℕ). IsPartAt g.row.N c.args.space.now c.tree-tree.result d 0) (sym c.height.ensures) (whole-tree g.row.N c.args.space.now c.tree-tree.result (subst (λ (t : Tree). HasTree g.row.N c.args.space.now t) (sym c.tree-tree.ensures) c.requires.index.tree))))))

pub returns : goal.returns
returns g c =
    c.first_under.ensures
    ∙ ap (λ (d : ℕ). option_map (entry_of g.K.Key.key_of_bytes) (first_from c.as_slice.result.now (entries_under (nodes_in c.args.space.now c.tree-tree.result) d 0))) c.height.ensures
    ∙ first-index g.row.N g.K.Key.BYTES c.args.self.now g.K.Key.bytes_of_key g.K.Key.key_of_bytes g.K.Key.IsKey g.K.Key.is_less g.met.K.Key.ordered g.met.K.Key.reads_back c.args.space.now c.requires.index c.tree-tree.result c.tree-tree.ensures c.args.key.now c.bytes_of-bytes.ensures.is_key c.as_slice.result.now (c.as_slice.ensures.value ∙ c.bytes_of-bytes.ensures.bytes)
