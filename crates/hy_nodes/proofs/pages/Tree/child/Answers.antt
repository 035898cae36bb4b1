use Rattle.std.proofs.Common.{sym, ap, ◌∙◌, ℕ, List}
use Rattle.hy_nodes.specs.Writes.{pages_of}
use Rattle.hy_nodes.specs.Nodes.{number_at}
use Rattle.hy_nodes.proofs.SpaceLaws.{page_there}
use Rattle.hy_nodes.proofs.NodeLaws.{number-node}
use Rattle.hy_nodes.proofs.pages.Tree.child.Goals as goal

pub returns : goal.returns
returns g c =
    c.child.ensures
    ∙ ap (λ (bytes : List ℕ). number_at c.args.self.key_bytes bytes c.args.place) c.page.ensures.bytes
    ∙ sym (number-node c.args.self.key_bytes (pages_of c.args.space.now c.args.self.segment) c.args.page c.args.place (page_there c.args.space.now c.args.self.segment c.args.page c.requires.page) c.requires.place)
