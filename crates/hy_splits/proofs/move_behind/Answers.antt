use Rattle.std.proofs.Common.{◌-◌, arith}
use Rattle.std.proofs.lemmas.Result.{on_ok_weaker}
use Rattle.hy_nodes.specs.Pages.{nodes_in}
use Rattle.hy_splits.proofs.MoveLaws.{MovesItems-written, kept-between}
use Rattle.hy_splits.proofs.PageLaws.{fits-more, fits-node, item_count-node, node_of-page, page-kept}
use Rattle.hy_splits.proofs.move_behind.Goals as goal

pub put_items-requires : goal.put_items-requires
put_items-requires g c =
    let space = c.args.space.now in
    let tree = c.args.tree in
    let page = c.requires.page in
    let right = c.requires.right in
    let size = c.count-count.ensures.items in
    let here = item_count-node space tree c.args.page page in
    let fits = fits-node space tree g.row.N c.args.page c.sound.ensures.size.smallest page c.requires.fits in
    let more = fits-more space tree g.row.N c.args.right (c.count-count.result - c.args.place) c.sound.ensures.size.smallest right (omega (arith, c.requires.empty, c.requires.fits, size)) in
    (omega arith, (omega arith, (c.requires.width, (page, (right, ((omega (arith, c.requires.place, size), omega (arith, here, size)), (fits, (omega arith, (more, c.requires.undo_log)))))))))

pub take_items-requires : goal.take_items-requires
take_items-requires g c =
    let tree = c.args.tree in
    let between = c.put_items.new.space in
    let size = c.count-count.ensures.items in
    let page = page-kept c.args.space.now between tree.segment c.args.page c.requires.page c.put_items.ensures.writes.segments c.put_items.ensures.pages in
    let same = kept-between (nodes_in c.args.space.now tree) (nodes_in between tree) c.args.page c.args.place c.args.right c.count-count.result size c.in_ok-put_items.ensures.nodes c.requires.differs in
    let here = item_count-node between tree c.args.page page in
    let fits = fits-node between tree g.row.N c.args.page c.sound.ensures.size.smallest page (omega (arith, same, c.requires.fits)) in
    (omega arith, (omega arith, (c.requires.width, (page, ((omega (arith, c.requires.place, size), omega (arith, here, same, size)), (fits, c.put_items.ensures.writes.undoes.undo_log))))))

pub returns-clause-moved : goal.returns-clause-moved
returns-clause-moved g c = on_ok_weaker c.take_items.result (λ cut.
    MovesItems-written (nodes_in c.args.space.now c.args.tree) (nodes_in c.put_items.new.space c.args.tree) c.args.page c.args.place c.args.right c.count-count.result c.count-count.ensures.items c.in_ok-put_items.ensures.nodes (nodes_in c.take_items.new.space c.args.tree)
    (node_of-page c.args.space.now c.args.tree c.args.page c.requires.page) (node_of-page c.args.space.now c.args.tree c.args.right c.requires.right) cut) c.take_items.ensures.nodes
