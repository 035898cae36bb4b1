use Rattle.std.proofs.Common.{◌≤◌, lit<, subst}
use Rattle.hy_schema.specs.Loads.{IsLoad}
use Rattle.hy_writers.specs.of_store.Writes.{stored_in}
use Rattle.hy_writers.proofs.WritesLaws.{writes-then}
use Rattle.hy_tpcc.proofs.PartLaws.{can-sell, sells-all, sells-more}
use Rattle.hy_tpcc.proofs.parts.sell_lines.Goals as goal

pub sell_line-requires : goal.sell_line-requires
sell_line-requires g c =
    let sells = c.loop-place.invariant.sells in
    let can = can-sell c.args.layout.now (subst IsLoad c.load.ensures c.sound.ensures) c.know_places.ensures.warehouse
    c.args.order.now c.requires.part c.loop-place.place c.line.result (stored_in g.row.N c.loop-place.space)
    c.line.ensures sells.unique sells.places sells.bounds in
    (lit< tt, (lit< tt, (c.loop-place.invariant.writable, can)))

pub loop-place-preserved : goal.loop-place-preserved
loop-place-preserved g c = record {
  writable = record {
    store = c.in_ok-sell_line.ensures.sold.store;
    undo_log = c.in_ok-sell_line.ensures.writes.undoes.undo_log;
  };
  writes = writes-then c.loop-place.invariant.writes c.sell_line.ensures.writes;
  sells =
      sells-more c.args.layout.now (subst IsLoad c.load.ensures c.sound.ensures) c.know_places.ensures.warehouse
      c.args.order.now c.requires.part c.requires.elsewhere c.loop-place.place c.line.result
      (stored_in g.row.N c.args.space.now) (stored_in g.row.N c.loop-place.space)
      (stored_in g.row.N c.sell_line.new.space) c.line.ensures c.in_ok-sell_line.ensures.sold.changed
      c.loop-place.invariant.sells;
}

pub returns-clause-done : goal.returns-clause-done
returns-clause-done g c = record {
  store = c.loop-place.invariant.writable.store;
  step =
      λ edition.
      sells-all c.args.layout.now (subst IsLoad c.load.ensures c.sound.ensures) c.know_places.ensures.warehouse
      c.args.order.now c.requires.part c.requires.elsewhere edition c.loop-place.place (stored_in g.row.N c.args.space.now)
      (stored_in g.row.N c.loop-place.space)
      (subst (λ count. count ≤ c.loop-place.place) c.len-place-end.ensures.count c.loop-place-test.false)
      c.loop-place.invariant.sells;
}
