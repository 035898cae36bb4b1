use Rattle.std.proofs.Common.{◌≡◌, ℕ, ◌+◌, List, length, refl, ap, ◌∙◌, arith, length-append}
use Rattle.hy_page.specs.Bytes.{bytes_of}
use Rattle.hy_page.proofs.ByteLaws.{length-bytes_of}
use Rattle.std.proofs.lemmas.Result.{on_ok_weaker}
use Rattle.hy_trees.specs.Nodes.{Item, node_at, with_more, with_node}
use Rattle.hy_joins.specs.of_nodes.Pages.{items_in, nodes_in, page_in}
use Rattle.hy_joins.specs.of_nodes.Nodes.{item_count}
use Rattle.hy_trees.specs.Nodes.{item_width}
use Rattle.hy_joins.proofs.of_nodes.ReachLaws.{capacity_fits, reached-count, reached-page}
use Rattle.hy_index.proofs.LeafLaws.{item-made, put}
use Rattle.hy_index.proofs.edit.put_new.Goals as goal

pub put_item-requires : goal.put_item-requires
put_item-requires g c =
    let page = reached-page g.row.N c.args.space.now c.args.tree c.args.key.now c.requires.there c.sound.ensures c.requires.tree 0 c.args.leaf c.requires.leads in
    let whole = page_in c.args.space.now c.args.tree c.args.leaf in
    let count = reached-count g.row.N c.args.space.now c.args.tree c.args.key.now c.requires.there c.sound.ensures c.requires.tree 0 c.args.leaf c.requires.leads whole refl in
    let fits = capacity_fits g.row.N c.args.tree.key_bytes (item_count whole + 1) (omega (arith, c.sound.ensures.size.smallest)) (omega (arith, count, c.requires.room)) in
    let bytes = ap length (c.as_slice.ensures.value ∙ c.item_of-item.ensures) in
    let size : length c.as_slice.result.now ≡ item_width c.args.tree.key_bytes = omega (arith, bytes, c.requires.key, length-append c.args.key.now (bytes_of 8 c.args.slot), length-bytes_of 8 c.args.slot) in
    (omega arith, (omega arith, (c.requires.width, (page, (c.requires.sought.bound.within, (fits, (size, c.requires.undo_log)))))))

pub returns-clause-tree : goal.returns-clause-tree
returns-clause-tree g c = on_ok_weaker c.put_item.result (λ written.
    let nodes = nodes_in c.args.space.now c.args.tree in
    let kw : ℕ = c.args.tree.key_bytes in
    (put g.row.N c.args.space.now c.args.tree c.args.key.now c.requires.there c.sound.ensures c.requires.tree c.args.leaf c.requires.leads c.args.place c.requires.sought c.requires.room c.args.slot c.put_item.new.space
    (written
    ∙ ap (λ (items : List Item). with_node nodes c.args.leaf (with_more (node_at nodes c.args.leaf) c.args.place items))
    (ap (λ (bytes : List ℕ). items_in kw bytes 1) (c.as_slice.ensures.value ∙ c.item_of-item.ensures) ∙ item-made c.args.key.now c.args.slot kw c.requires.key (omega (arith, c.ranges.slot.fits))))).0) c.put_item.ensures.nodes

pub returns-clause-entries : goal.returns-clause-entries
returns-clause-entries g c = on_ok_weaker c.put_item.result (λ written.
    let nodes = nodes_in c.args.space.now c.args.tree in
    let kw : ℕ = c.args.tree.key_bytes in
    (put g.row.N c.args.space.now c.args.tree c.args.key.now c.requires.there c.sound.ensures c.requires.tree c.args.leaf c.requires.leads c.args.place c.requires.sought c.requires.room c.args.slot c.put_item.new.space
    (written
    ∙ ap (λ (items : List Item). with_node nodes c.args.leaf (with_more (node_at nodes c.args.leaf) c.args.place items))
    (ap (λ (bytes : List ℕ). items_in kw bytes 1) (c.as_slice.ensures.value ∙ c.item_of-item.ensures) ∙ item-made c.args.key.now c.args.slot kw c.requires.key (omega (arith, c.ranges.slot.fits))))).1) c.put_item.ensures.nodes
