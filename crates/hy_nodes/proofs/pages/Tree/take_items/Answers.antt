use Rattle.std.proofs.lemmas.Result.{on_ok_weaker}
use Rattle.hy_nodes.specs.Writes.{pages_of}
use Rattle.hy_trees.specs.Nodes.{Item, node_at, with_node, with_tail}
use Rattle.hy_nodes.specs.Pages.{nodes_in}
use Rattle.hy_nodes.proofs.SpaceLaws.{page_full, page_there}
use Rattle.std.proofs.Common.{List, ap, ◌∙◌, arith}
use Rattle.hy_nodes.proofs.PlaceLaws.{item_offset-before}
use Rattle.hy_nodes.proofs.NodeLaws.{drop-all, nodes-fewer}
use Rattle.hy_nodes.proofs.pages.Tree.take_items.Goals as goal

pub returns-then-end-count-clause-nodes : goal.returns-then-end-count-clause-nodes
returns-then-end-count-clause-nodes g c = on_ok_weaker c.write_count.result (λ written.
    let nodes = nodes_in c.args.space.now c.args.self in
    let old = pages_of c.args.space.now c.args.self.segment in
    let earlier = item_offset-before c.args.self.key_bytes c.args.start c.args.end c.requires.part.0 in
    let later = item_offset-before c.args.self.key_bytes c.args.end _ c.requires.part.1 in
    nodes-fewer g.row.N c.args.self.key_bytes old (pages_of c.write_count.new.space c.args.self.segment) c.args.page c.args.start
    (page_there c.args.space.now c.args.self.segment c.args.page c.requires.page)
    (page_full g.row.N c.args.space.now c.args.self.segment c.args.page c.sound.ensures c.requires.page)
    (omega (arith, c.sound.ensures.size.smallest)) c.sound.ensures.size.largest
    (omega (arith, c.requires.part.0, c.requires.part.1)) (omega (arith, earlier, later, c.requires.items)) written
    ∙ ap (λ (tail : List Item). with_node nodes c.args.page (with_tail (node_at nodes c.args.page) c.args.start tail))
    (drop-all c.args.self.key_bytes old c.args.page c.args.end c.count.result c.if-end-count.true c.count.ensures.items)) c.write_count.ensures.bytes
