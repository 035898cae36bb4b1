use Rattle.std.proofs.lemmas.Result.{on_ok_weaker}
use Rattle.hy_page.specs.Bytes.{bytes_at, bytes_of}
use Rattle.hy_nodes.specs.Writes.{pages_of}
use Rattle.hy_trees.specs.Nodes.{item_width}
use Rattle.hy_nodes.specs.Nodes.{item_count, item_offset}
use Rattle.hy_nodes.specs.Pages.{page_in, with_bytes}
use Rattle.hy_nodes.proofs.SpaceLaws.{page_full, page_there}
use Rattle.std.proofs.Common.{◌≡◌, ℕ, ◌+◌, ◌-◌, ◌*◌, ◌≤◌, [], ap, ap₂, ◌∙◌, arith}
use Rattle.hy_nodes.proofs.PlaceLaws.{item_offset-before, item_offset-between, item_offset-moved}
use Rattle.hy_nodes.proofs.NodeLaws.{nodes-moved}
use Rattle.hy_nodes.proofs.pages.Tree.close_gap.Goals as goal

pub splice-requires : goal.splice-requires
splice-requires g c =
    let kw : ℕ = c.args.self.key_bytes in
    let here = page_in c.args.space.now c.args.self c.args.page in
    let count : ℕ = c.count-count.result in
    let start : ℕ = c.args.start in
    let last : ℕ = c.args.end in
    let counted : count ≡ item_count here = c.count-count.ensures.value in
    let inside : last ≤ count = omega (arith, counted, c.requires.part.1) in
    let gap : (last - start) * c.item_bytes.result ≡ (last - start) * item_width kw = ap (λ width. (last - start) * width) c.item_bytes.ensures in
    let behind : (count - last) * c.item_bytes-2.result ≡ (count - last) * item_width kw = ap (λ width. (count - last) * width) c.item_bytes-2.ensures in
    let all : start + (last - start + (count - last)) ≡ item_count here = omega (arith, counted, inside, c.requires.part.0) in (
      omega arith,
      (
        omega arith,
        (
          c.requires.page,
          (
            omega (arith, gap, behind, c.offset-begin.ensures, item_offset-moved kw start (last - start) (count - last), ap (item_offset kw) all, c.requires.items),
            c.requires.undo_log,
          ),
        ),
      ),
    )

pub returns-clause-nodes : goal.returns-clause-nodes
returns-clause-nodes g c = on_ok_weaker c.write_count.result (λ written.
    let kw : ℕ = c.args.self.key_bytes in
    let pages = pages_of c.args.space.now c.args.self.segment in
    let here = page_in c.args.space.now c.args.self c.args.page in
    let count : ℕ = c.count-count.result in
    let start : ℕ = c.args.start in
    let last : ℕ = c.args.end in
    let counted : count ≡ item_count here = c.count-count.ensures.value in
    let inside : last ≤ count = omega (arith, counted, c.requires.part.1) in
    let next : count - (last - start) ≡ start + (0 + (count - last)) = omega (arith, inside, c.requires.part.0) in
    let fits : item_offset kw count ≤ g.row.N = omega (arith, ap (item_offset kw) counted, c.requires.items) in
    let behind : c.offset-begin.result + (last - start) * c.item_bytes.result ≡ item_offset kw last = omega (arith, c.offset-begin.ensures, ap (λ width. (last - start) * width) c.item_bytes.ensures, item_offset-between kw start last c.requires.part.0, item_offset-before kw start last c.requires.part.0) in
    nodes-moved g.row.N kw pages (pages_of c.splice.new.space c.args.self.segment) (pages_of c.write_count.new.space c.args.self.segment) c.args.page start last 0 count []
    (page_there c.args.space.now c.args.self.segment c.args.page c.requires.page)
    (page_full g.row.N c.args.space.now c.args.self.segment c.args.page c.sound.ensures c.requires.page)
    c.sound.ensures.size.largest c.requires.part.0 inside counted fits
    (omega (arith, ap (item_offset kw) next, item_offset-before kw (count - (last - start)) count (omega arith), fits))
    (omega arith)
    (c.in_ok-splice.ensures.bytes ∙ ap₂ (λ (from width : ℕ). with_bytes pages c.args.page c.offset-begin.result (bytes_at here from ((count - last) * width))) behind c.item_bytes-2.ensures
    ∙ ap (λ (begin : ℕ). with_bytes pages c.args.page begin (bytes_at here (item_offset kw last) ((count - last) * item_width kw))) c.offset-begin.ensures)
    (written ∙ ap (λ (n : ℕ). with_bytes (pages_of c.splice.new.space c.args.self.segment) c.args.page 0 (bytes_of 2 n)) next)) c.write_count.ensures.bytes
