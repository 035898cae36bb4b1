use Rattle.std.proofs.lemmas.Result.{on_ok_weaker}
use Rattle.hy_nodes.specs.Writes.{pages_of}
use Rattle.hy_trees.specs.Nodes.{Item, node_at, with_node, with_tail}
use Rattle.hy_nodes.specs.Nodes.{item_count}
use Rattle.hy_nodes.specs.Pages.{items_in, nodes_in}
use Rattle.hy_nodes.proofs.SpaceLaws.{page_there}
use Rattle.std.proofs.Common.{ℕ, ◌+◌, ◌-◌, List, ◌++◌, length, take, ap, ap₂, ◌∙◌}
use Rattle.hy_nodes.proofs.NodeLaws.{items_in-joined, items_in-part, items_in-rest}
use Rattle.hy_nodes.proofs.pages.Tree.put_items.Goals as goal

pub returns-clause-nodes : goal.returns-clause-nodes
returns-clause-nodes g c = on_ok_weaker c.write_behind.result (λ written.
    let nodes = nodes_in c.args.space.now c.args.self in
    let kw : ℕ = c.args.self.key_bytes in
    let pages = pages_of c.args.space.now c.args.self.segment in
    let first = c.run-first.result.now in
    let behind = c.run-behind.result.now in
    let part = c.args.end - c.args.start in
    let rest = c.count-count.result - c.args.place in
    written
    ∙ ap (λ (tail : List Item). with_node nodes c.args.page (with_tail (node_at nodes c.args.page) c.args.place tail))
    (ap (λ (bytes : List ℕ). items_in kw bytes (part + rest)) (ap (take (length first + length behind)) c.bytes-3.ensures.bytes ∙ c.joined-items.ensures)
    ∙ items_in-joined kw first behind part rest c.run-first.ensures.size c.run-behind.ensures.size
    ∙ ap₂ (λ (one : List Item) (other : List Item). one ++ other)
    (items_in-part kw pages c.args.from c.args.start c.args.end c.page.result.now first
    (page_there c.args.space.now c.args.self.segment c.args.from c.requires.from) c.requires.part.0 c.requires.part.1 c.page.ensures.bytes c.run-first.ensures.bytes)
    (items_in-rest kw pages c.args.page c.args.place c.count-count.result c.bytes-2.result.now behind
    (page_there c.args.space.now c.args.self.segment c.args.page c.requires.page) c.requires.place
    (c.bytes-2.ensures.bytes ∙ c.page-whole.ensures.bytes)
    (c.count-count.ensures.value ∙ ap item_count (c.bytes.ensures.bytes ∙ c.page-whole.ensures.bytes))
    c.run-behind.ensures.bytes))) c.write_behind.ensures.nodes
