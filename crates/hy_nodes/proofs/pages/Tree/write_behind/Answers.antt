use Rattle.std.proofs.lemmas.Result.{on_ok_weaker}
use Rattle.hy_nodes.specs.Writes.{pages_of}
use Rattle.hy_nodes.proofs.SpaceLaws.{page_full, page_there}
use Rattle.std.proofs.Common.{ℕ, ap, ◌∙◌}
use Rattle.hy_nodes.specs.Pages.{with_bytes}
use Rattle.hy_nodes.proofs.NodeLaws.{nodes-tail}
use Rattle.hy_nodes.proofs.pages.Tree.write_behind.Goals as goal

pub returns-clause-nodes : goal.returns-clause-nodes
returns-clause-nodes g c = on_ok_weaker c.write_count.result (λ written.
    let old = pages_of c.args.space.now c.args.self.segment in
    nodes-tail g.row.N c.args.self.key_bytes old (pages_of c.write.new.space c.args.self.segment) (pages_of c.write_count.new.space c.args.self.segment) c.args.page c.args.place c.args.count c.args.items.now
    (page_there c.args.space.now c.args.self.segment c.args.page c.requires.page)
    (page_full g.row.N c.args.space.now c.args.self.segment c.args.page c.sound.ensures c.requires.page)
    c.sound.ensures.size.largest c.requires.place c.requires.fits c.requires.size
    (c.in_ok-write.ensures.bytes ∙ ap (λ (begin : ℕ). with_bytes old c.args.page begin c.args.items.now) c.offset-begin.ensures)
    written) c.write_count.ensures.bytes
