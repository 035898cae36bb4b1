use Rattle.std.proofs.Common.{ℕ, ◌<◌, length, sym, subst}
use Rattle.std.proofs.lemmas.List.{length-map}
use Rattle.std.proofs.lemmas.Result.{on_ok_weaker}
use Rattle.hy_nodes.specs.Writes.{pages_of}
use Rattle.hy_nodes.specs.Nodes.{node_of}
use Rattle.hy_nodes.specs.Pages.{nodes_in}
use Rattle.hy_nodes.proofs.SpaceLaws.{page_there}
use Rattle.hy_nodes.proofs.FreeLaws.{nodes-freed}
use Rattle.hy_nodes.proofs.pages.Tree.give_page.Goals as goal

pub returns-clause-nodes : goal.returns-clause-nodes
returns-clause-nodes g c = on_ok_weaker c.write_next-2.result (λ written.
    let old = nodes_in c.args.space.now c.args.self in
    let pages = pages_of c.args.space.now c.args.self.segment in
    let there : c.args.page < length old = subst (λ (n : ℕ). c.args.page < n) (sym (length-map pages (node_of c.args.self.key_bytes))) (page_there c.args.space.now c.args.self.segment c.args.page c.requires.page) in
    nodes-freed old (nodes_in c.take_items.new.space c.args.self) (nodes_in c.write_next.new.space c.args.self) (nodes_in c.write_next-2.new.space c.args.self) c.args.page c.count-count.result c.next_free-first.result there c.requires.differs c.count-count.ensures.items c.next_free-first.ensures
    c.in_ok-take_items.ensures.nodes c.in_ok-write_next.ensures.nodes written) c.write_next-2.ensures.nodes
