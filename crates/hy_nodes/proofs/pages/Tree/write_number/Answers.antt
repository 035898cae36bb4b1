use Rattle.std.proofs.lemmas.Result.{on_ok_weaker}
use Rattle.hy_nodes.specs.Writes.{pages_of}
use Rattle.hy_nodes.proofs.SpaceLaws.{page_full, page_there}
use Rattle.std.proofs.Common.{◌+◌, ap₂, ◌∙◌, ℕ, List, arith}
use Rattle.hy_page.proofs.ByteLaws.{to_le_bytes-bytes_of}
use Rattle.hy_nodes.specs.Pages.{with_bytes}
use Rattle.hy_nodes.proofs.NodeLaws.{nodes-number}
use Rattle.hy_nodes.proofs.pages.Tree.write_number.Goals as goal

pub returns-clause-nodes : goal.returns-clause-nodes
returns-clause-nodes g c = on_ok_weaker c.write.result (λ written.
    let old = pages_of c.args.space.now c.args.self.segment in
    nodes-number c.args.self.key_bytes old (pages_of c.write.new.space c.args.self.segment) c.args.page c.args.place c.args.number
    (page_there c.args.space.now c.args.self.segment c.args.page c.requires.page) c.requires.place
    (omega (arith, page_full g.row.N c.args.space.now c.args.self.segment c.args.page c.sound.ensures c.requires.page, c.requires.items))
    (omega (arith, c.ranges.number.fits))
    (written ∙ ap₂ (λ (begin : ℕ) (digits : List ℕ). with_bytes old c.args.page (begin + c.args.self.key_bytes) digits) c.offset.ensures (c.to_le_bytes-digits.ensures ∙ to_le_bytes-bytes_of c.args.number))) c.write.ensures.bytes
