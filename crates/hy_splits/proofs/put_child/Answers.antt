use Rattle.std.proofs.Common.{length, ap, ◌∙◌, arith}
use Rattle.std.proofs.lemmas.Result.{on_ok_weaker}
use Rattle.std.proofs.lemmas.List.{length-append}
use Rattle.hy_page.specs.Bytes.{bytes_of}
use Rattle.hy_page.proofs.ByteLaws.{length-bytes_of}
use Rattle.hy_nodes.specs.Pages.{nodes_in}
use Rattle.hy_splits.proofs.PageLaws.{SetsItems-with_more, fits-more, item_count-node, items_in-one, node_of-page}
use Rattle.hy_splits.proofs.put_child.Goals as goal

pub put_item-requires : goal.put_item-requires
put_item-requires g c =
    let here = item_count-node c.args.space.now c.args.tree c.args.page c.requires.page in
    let fits = fits-more c.args.space.now c.args.tree g.row.N c.args.page 1 c.sound.ensures.size.smallest c.requires.page (omega (arith, c.requires.room)) in
    let both = ap length c.as_slice.ensures.value ∙ ap length c.item_of-item.ensures ∙ length-append c.args.key.now (bytes_of 8 c.from.result) in
    let eight = length-bytes_of 8 c.from.result in
    (omega arith, (omega arith, (c.requires.width, (c.requires.page, (omega (arith, c.requires.place, here), (fits, (omega (arith, both, eight, c.requires.key), c.requires.undo_log)))))))

pub returns-clause-put : goal.returns-clause-put
returns-clause-put g c = on_ok_weaker c.put_item.result (λ put.
    SetsItems-with_more (nodes_in c.args.space.now c.args.tree) (nodes_in c.put_item.new.space c.args.tree) c.args.page c.args.place _ _
    (node_of-page c.args.space.now c.args.tree c.args.page c.requires.page)
    (items_in-one c.args.tree.key_bytes c.args.key.now c.as_slice.result.now c.from.result c.args.child c.requires.key c.ranges.child.fits c.from.ensures (c.as_slice.ensures.value ∙ c.item_of-item.ensures))
    put) c.put_item.ensures.nodes
