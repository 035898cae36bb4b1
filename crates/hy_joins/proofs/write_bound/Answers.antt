use Rattle.std.proofs.Common.{ℕ, List, length, ◌+◌, ap, ◌∙◌, arith}
use Rattle.std.proofs.lemmas.Result.{on_ok_weaker}
use Rattle.hy_trees.specs.Nodes.{node_at, with_key, with_node}
use Rattle.hy_nodes.specs.Nodes.{key_at}
use Rattle.hy_nodes.specs.Pages.{nodes_in}
use Rattle.hy_joins.proofs.PageLaws.{count-items, key-first, offset-page}
use Rattle.hy_joins.proofs.write_bound.Goals as goal

pub write_key-requires : goal.write_key-requires
write_key-requires g c = (
  omega arith,
  (
    omega arith,
    (
      c.requires.width,
      (
        c.requires.above.there,
        (
          omega (arith, c.requires.within, count-items c.args.space.now c.args.tree c.args.pair.page c.requires.above.there),
          (
            offset-page c.args.space.now c.args.tree c.args.pair.page g.row.N (omega (arith, c.sound.ensures.size.smallest)) c.requires.above,
            (ap length (c.as_slice.ensures.value ∙ c.copied-bound.ensures) ∙ c.key.ensures.size, c.requires.undo_log),
          ),
        ),
      ),
    ),
  ),
)

pub returns-clause-nodes : goal.returns-clause-nodes
returns-clause-nodes g c = on_ok_weaker c.write_key.result (λ written.
    let nodes = nodes_in c.args.space.now c.args.tree in
    written
    ∙ ap (λ (key : List ℕ). with_node nodes c.args.pair.page (with_key (node_at nodes c.args.pair.page) (c.args.pair.left + 1) key))
    (c.as_slice.ensures.value ∙ c.copied-bound.ensures ∙ c.key.ensures.bytes
    ∙ ap (λ (bytes : List ℕ). key_at c.args.tree.key_bytes bytes 0) c.page.ensures.bytes
    ∙ key-first c.args.space.now c.args.tree c.args.pair.second c.requires.child.there c.requires.some)) c.write_key.ensures.nodes
