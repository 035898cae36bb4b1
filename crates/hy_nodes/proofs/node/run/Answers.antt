use Rattle.std.proofs.Common.{◌-◌, ◌*◌, length, take, drop, ap, ap₂, ◌∙◌, arith}
use Rattle.hy_page.proofs.ByteLaws.{length-bytes_at}
use Rattle.hy_nodes.specs.Nodes.{item_offset}
use Rattle.hy_trees.specs.Nodes.{item_width}
use Rattle.hy_nodes.proofs.PlaceLaws.{item_offset-before, item_offset-between}
use Rattle.hy_nodes.proofs.node.run.Goals as goal

pub returns-clause-bytes : goal.returns-clause-bytes
returns-clause-bytes c =
    ap₂ (λ from to. take (to - from) (drop from c.args.page.now)) c.offset.ensures c.offset-2.ensures
    ∙ ap (λ size. take size (drop (item_offset c.args.key_bytes c.args.start) c.args.page.now)) (item_offset-between c.args.key_bytes c.args.start c.args.end c.requires.ordered)

pub returns-clause-size : goal.returns-clause-size
returns-clause-size c =
    let between = item_offset-between c.args.key_bytes c.args.start c.args.end c.requires.ordered in
    let before = item_offset-before c.args.key_bytes c.args.start c.args.end c.requires.ordered in
    ap length (returns-clause-bytes c)
    ∙ length-bytes_at c.args.page.now (item_offset c.args.key_bytes c.args.start) ((c.args.end - c.args.start) * item_width c.args.key_bytes) (omega (arith, between, before, c.requires.within))
