use Rattle.std.proofs.Common.{sym, ap, ◌∙◌}
use Rattle.hy_nodes.specs.Writes.{pages_of}
use Rattle.hy_nodes.specs.Nodes.{item_count}
use Rattle.hy_nodes.proofs.SpaceLaws.{page_there}
use Rattle.hy_nodes.proofs.NodeLaws.{count-node}
use Rattle.hy_nodes.proofs.pages.Tree.count.Goals as goal

pub returns-clause-items : goal.returns-clause-items
returns-clause-items g c =
    c.count.ensures.value
    ∙ ap item_count c.page.ensures.bytes
    ∙ sym (count-node c.args.self.key_bytes (pages_of c.args.space.now c.args.self.segment) c.args.page (page_there c.args.space.now c.args.self.segment c.args.page c.requires.page))
