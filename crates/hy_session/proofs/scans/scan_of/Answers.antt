use Rattle.std.proofs.Common.{◌<◌, length, ap, arith, length-append, ◌∷◌, []}
use Rattle.hy_session.proofs.ScanLaws.{tables-more}
use Rattle.hy_session.proofs.scans.scan_of.Goals as goal

pub loop-place-preserved : goal.loop-place-preserved
loop-place-preserved g c =
    let within : c.loop-place.place < length c.args.all.now = omega (arith, c.loop-place-test.true, c.loop-place.invariant.end) in
    record {
      tables = tables-more g.row.N c.loop-place.place c.args.all.now c.part.result.now c.loop-place.pages.items c.push.new.self.items
          c.pages_of.result within c.part.ensures c.in_ok-push.ensures.items c.pages_of.ensures c.loop-place.invariant.tables;
      count = omega (
        arith,
        ap length c.in_ok-push.ensures.items,
        length-append c.loop-place.pages.items (c.pages_of.result ∷ []),
        c.loop-place.invariant.count,
      );
      end = c.loop-place.invariant.end;
    }
