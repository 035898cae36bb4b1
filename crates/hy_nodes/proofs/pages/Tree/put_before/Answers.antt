use Rattle.std.proofs.lemmas.Result.{on_ok_weaker}
use Rattle.hy_page.specs.Bytes.{bytes_at, bytes_of}
use Rattle.hy_nodes.specs.Writes.{pages_of}
use Rattle.hy_trees.specs.Nodes.{item_width}
use Rattle.hy_nodes.specs.Nodes.{item_count, item_offset}
use Rattle.hy_nodes.specs.Pages.{page_in, with_bytes}
use Rattle.hy_nodes.proofs.SpaceLaws.{page_full, page_there}
use Rattle.std.proofs.Common.{◌≡◌, ℕ, ◌+◌, ◌-◌, ◌*◌, ◌++◌, ap, ap₂, ◌∙◌, arith}
use Rattle.hy_nodes.proofs.PlaceLaws.{item_offset-before, item_offset-moved}
use Rattle.hy_nodes.proofs.NodeLaws.{nodes-moved}
use Rattle.hy_nodes.proofs.pages.Tree.put_before.Goals as goal

pub splice-requires : goal.splice-requires
splice-requires g c =
    let kw : ℕ = c.args.self.key_bytes in
    let here = page_in c.args.space.now c.args.self c.args.page in
    let count : ℕ = c.count-count.result in
    let rest : ℕ = count - c.args.place in
    let counted : count ≡ item_count here = c.count-count.ensures.value in
    let next : item_count here + 1 ≡ c.args.place + (1 + rest) = omega (arith, counted, c.requires.place) in
    let behind : rest * c.item_bytes.result ≡ rest * item_width kw = ap (λ width. rest * width) c.item_bytes.ensures in (
      omega arith,
      (
        omega arith,
        (
          c.requires.page,
          (
            omega (arith, behind, c.offset-begin.ensures, c.requires.size, item_offset-moved kw c.args.place 1 rest, ap (item_offset kw) next, c.requires.fits),
            c.requires.undo_log,
          ),
        ),
      ),
    )

pub returns-clause-nodes : goal.returns-clause-nodes
returns-clause-nodes g c = on_ok_weaker c.write_count.result (λ written.
    let kw : ℕ = c.args.self.key_bytes in
    let pages = pages_of c.args.space.now c.args.self.segment in
    let here = page_in c.args.space.now c.args.self c.args.page in
    let count : ℕ = c.count-count.result in
    let place : ℕ = c.args.place in
    let counted : count ≡ item_count here = c.count-count.ensures.value in
    let next : count + 1 ≡ place + (1 + (count - place)) = omega (arith, counted, c.requires.place) in
    nodes-moved g.row.N kw pages (pages_of c.splice.new.space c.args.self.segment) (pages_of c.write_count.new.space c.args.self.segment) c.args.page place place 1 count c.args.item.now
    (page_there c.args.space.now c.args.self.segment c.args.page c.requires.page)
    (page_full g.row.N c.args.space.now c.args.self.segment c.args.page c.sound.ensures c.requires.page)
    c.sound.ensures.size.largest (omega arith) (omega (arith, counted, c.requires.place)) counted
    (omega (arith, item_offset-before kw count (count + 1) (omega arith), ap (λ n. item_offset kw (n + 1)) counted, c.requires.fits))
    (omega (arith, ap (item_offset kw) next, ap (λ n. item_offset kw (n + 1)) counted, c.requires.fits))
    (omega (arith, c.requires.size))
    (c.in_ok-splice.ensures.bytes ∙ ap₂ (λ (begin width : ℕ). with_bytes pages c.args.page begin (c.args.item.now ++ bytes_at here (begin + 0) ((count - place) * width))) c.offset-begin.ensures c.item_bytes.ensures
    ∙ ap (λ (from : ℕ). with_bytes pages c.args.page (item_offset kw place) (c.args.item.now ++ bytes_at here from ((count - place) * item_width kw))) (let same : item_offset kw place + 0 ≡ item_offset kw place = omega arith in same))
    (written ∙ ap (λ (n : ℕ). with_bytes (pages_of c.splice.new.space c.args.self.segment) c.args.page 0 (bytes_of 2 n)) next)) c.write_count.ensures.bytes
