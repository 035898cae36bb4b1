use Rattle.std.proofs.lemmas.Result.{on_ok_weaker}
use Rattle.hy_nodes.specs.Writes.{pages_of}
use Rattle.hy_nodes.proofs.SpaceLaws.{page_full, page_there}
use Rattle.std.proofs.Common.{ap, ◌∙◌, ℕ, arith}
use Rattle.hy_nodes.specs.Pages.{with_bytes}
use Rattle.hy_nodes.proofs.NodeLaws.{nodes-key}
use Rattle.hy_nodes.proofs.pages.Tree.write_key.Goals as goal

pub returns-clause-nodes : goal.returns-clause-nodes
returns-clause-nodes g c = on_ok_weaker c.write.result (λ written.
    let old = pages_of c.args.space.now c.args.self.segment in
    nodes-key c.args.self.key_bytes old (pages_of c.write.new.space c.args.self.segment) c.args.page c.args.place c.args.key.now
    (page_there c.args.space.now c.args.self.segment c.args.page c.requires.page) c.requires.place
    (omega (arith, page_full g.row.N c.args.space.now c.args.self.segment c.args.page c.sound.ensures c.requires.page, c.requires.items))
    c.requires.size
    (written ∙ ap (λ (begin : ℕ). with_bytes old c.args.page begin c.args.key.now) c.offset-begin.ensures)) c.write.ensures.bytes
