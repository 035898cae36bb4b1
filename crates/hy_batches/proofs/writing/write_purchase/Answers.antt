use Rattle.std.proofs.Common.{◌≡◌, [], ◌∷◌, ◌++◌, length, ap, sym, ◌∙◌}
use Rattle.std.specs.List.{flat_map}
use Rattle.hy_batches.specs.Encoding.{line_bytes, number_bytes}
use Rattle.hy_batches.proofs.NumberLaws.{spread_2, spread_8}
use Rattle.hy_batches.proofs.writing.write_purchase.Goals as goal

pub returns : goal.returns
returns g c =
    let order = c.args.order.now in
    let front = 1 ∷ (number_bytes 1 order.warehouse ++ number_bytes 1 order.district ++ number_bytes 2 order.customer
    ++ number_bytes 8 order.at ++ number_bytes 1 (length order.lines)) in
    let count : number_bytes 1 (length order.lines) ≡ c.low-count.result ∷ [] =
    ap (number_bytes 1) (sym c.len.ensures.count) ∙ sym c.low-count.ensures in
    let first : g.S.Sink.takes c.args.sink.now c.put.new.self front = rw (
      sym c.low-warehouse.ensures,
      sym c.low-district.ensures,
      spread_2 c.low_two.result order.customer c.low_two.ensures,
      spread_8 c.all_eight.result order.at c.all_eight.ensures,
      count,
    ) c.put.ensures in
    g.met.S.Sink.takes_both _ _ _ front (flat_map line_bytes order.lines) first c.write_lines.ensures
