use Rattle.std.proofs.Common.{◌≡◌, of_z, rules, to_z, w64, ◌∙◌, ap, arith, get_or}
use Rattle.std.proofs.lemmas.Int.{ints, to_z-of_z}
use Rattle.hy_rows.specs.declared.order_line.OrderLine.{OrderLine}
use Rattle.hy_commands.specs.Growth.{IsLineAmount}
use Rattle.hy_indexes.specs.of_index.declared.key.Entry.{Entry}
use Rattle.hy_indexes.specs.of_store.declared.keys.LineKey.{LineKey}
use Rattle.hy_indexes.specs.of_store.Stored.{Stored}
use Rattle.hy_indexes.specs.of_store.Writes.{stored_in}
use Rattle.hy_writers.specs.Deliveries.{places_of, walk_over, with_lines}
use Rattle.hy_writers.proofs.DeliveryLaws.{amounts-kept, lines-again, many-lines, walk-end, walk-on}
use Rattle.hy_writers.proofs.WritesLaws.{all-at, writes-then}
use Rattle.hy_writers.proofs.delivery.deliver_lines.Goals as goal

none : Entry LineKey
none = record { key = record { order = 0; district = 0; number = 0 }; slot = 0 }

pub sum_of-cents-requires-clause-amount : goal.sum_of-cents-requires-clause-amount
unfolding none
sum_of-cents-requires-clause-amount g c =
    let before : Stored = stored_in g.row.N c.loop-entry.space in
    let slot = (get_or c.args.entries.now c.loop-entry.entry-index none).slot in
    all-at (λ (row : OrderLine). IsLineAmount row.amount) before.tables.order_lines slot c.in_ok-row.row
    c.loop-entry.invariant.amounts c.in_ok-row.ensures.delivered.step.here

pub loop-entry-preserved : goal.loop-entry-preserved
unfolding none
loop-entry-preserved g c =
    let first : Stored = stored_in g.row.N c.args.space.now in
    let before : Stored = stored_in g.row.N c.loop-entry.space in
    let after : Stored = stored_in g.row.N c.deliver_line.new.space in
    let slot = (get_or c.args.entries.now c.loop-entry.entry-index none).slot in
    let moment = c.args.moment in
    let row = c.in_ok-row.row in
    let delivers = c.in_ok-row.ensures.delivered.step in
    let kept : to_z w64 (of_z w64 c.sum_of-cents.result) ≡ c.sum_of-cents.result =
    to_z-of_z w64 c.sum_of-cents.result (search rules) in
    let sum = kept ∙ c.sum_of-cents.ensures in
    let amount = all-at (λ (row : OrderLine). IsLineAmount row.amount) before.tables.order_lines slot row
    c.loop-entry.invariant.amounts delivers.here in
    record {
      store = c.in_ok-row.ensures.delivered.store;
      writes = writes-then c.loop-entry.invariant.writes c.deliver_line.ensures.writes;
      stored = lines-again first before after _ c.loop-entry.invariant.stored delivers.rows;
      walk = walk-on moment c.loop-entry.entry-index c.args.entries.now none before after row (to_z w64 c.loop-entry.cents-bits)
          (to_z w64 (of_z w64 c.sum_of-cents.result)) (walk_over moment (places_of c.args.entries.now) first)
          c.loop-entry-test.true delivers sum c.loop-entry.invariant.walk;
      many = many-lines moment slot before after row delivers ∙ c.loop-entry.invariant.many;
      amounts = amounts-kept moment slot before after row delivers c.loop-entry.invariant.amounts;
      low = omega (arith, ints, sum, c.loop-entry.invariant.low, amount.0);
      high = omega (arith, ints, sum, c.loop-entry.invariant.high, amount.1);
    }

pub returns-clause-delivered : goal.returns-clause-delivered
returns-clause-delivered g c =
    let first : Stored = stored_in g.row.N c.args.space.now in
    record {
      store = c.loop-entry.invariant.store;
      changed = c.loop-entry.invariant.stored
          ∙ ap (with_lines first) (walk-end c.args.moment c.loop-entry.entry-index c.args.entries.now
          (stored_in g.row.N c.loop-entry.space) (to_z w64 c.loop-entry.cents-bits)
          (walk_over c.args.moment (places_of c.args.entries.now) first)
          c.loop-entry-test.false c.loop-entry.invariant.walk);
    }
