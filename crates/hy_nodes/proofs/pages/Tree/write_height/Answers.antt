use Rattle.std.proofs.lemmas.Result.{on_ok_weaker}
use Rattle.hy_nodes.specs.Writes.{pages_of}
use Rattle.hy_nodes.proofs.SpaceLaws.{page_full, page_there}
use Rattle.std.proofs.Common.{ap, ◌∙◌, ℕ, List, arith}
use Rattle.hy_nodes.specs.Pages.{with_bytes}
use Rattle.hy_nodes.proofs.NodeLaws.{nodes-height}
use Rattle.hy_nodes.proofs.pages.Tree.write_height.Goals as goal

pub returns-clause-nodes : goal.returns-clause-nodes
returns-clause-nodes g c = on_ok_weaker c.write.result (λ written.
    nodes-height c.args.self.key_bytes (pages_of c.args.space.now c.args.self.segment) (pages_of c.write.new.space c.args.self.segment) 0 c.args.height
    (page_there c.args.space.now c.args.self.segment 0 c.requires.page)
    (omega (arith, page_full g.row.N c.args.space.now c.args.self.segment 0 c.sound.ensures c.requires.page, c.sound.ensures.size.smallest))
    c.requires.small (written ∙ ap (λ (digits : List ℕ). with_bytes (pages_of c.args.space.now c.args.self.segment) 0 2 digits) c.to_le_bytes-digits.ensures)) c.write.ensures.bytes
