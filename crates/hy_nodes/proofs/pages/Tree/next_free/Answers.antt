use Rattle.std.proofs.Common.{sym, ap, ◌∙◌}
use Rattle.hy_nodes.specs.Writes.{pages_of}
use Rattle.hy_trees.specs.Nodes.{Node}
use Rattle.hy_nodes.specs.Nodes.{next_field}
use Rattle.hy_nodes.proofs.SpaceLaws.{page_there}
use Rattle.hy_nodes.proofs.NodeLaws.{node_at-nodes}
use Rattle.hy_nodes.proofs.pages.Tree.next_free.Goals as goal

pub returns : goal.returns
returns g c =
    c.next_free.ensures
    ∙ ap next_field c.page.ensures.bytes
    ∙ ap (λ (node : Node). node.next) (sym (node_at-nodes c.args.self.key_bytes (pages_of c.args.space.now c.args.self.segment) c.args.page (page_there c.args.space.now c.args.self.segment c.args.page c.requires.page)))
