use Rattle.std.proofs.Common.{◌≡◌, ◌==◌, ◌∙◌, ap, arith, filter, length, map, subst, sym}
use Rattle.std.specs.Prelude.{All}
use Rattle.std.specs.Set.{distinct_count}
use Rattle.hy_rows.specs.declared.order_line.OrderLine.{OrderLine}
use Rattle.hy_schema.specs.Related.{lines_of_district}
use Rattle.hy_writers.specs.of_store.Stored.{Stored}
use Rattle.hy_writers.specs.of_store.Writes.{stored_in}
use Rattle.hy_commands.specs.StockLevels.{is_low, is_recent}
use Rattle.hy_writers.proofs.DeliverLaws.{own-lines}
use Rattle.hy_tpcc.proofs.LevelLaws.{AreLow, low-counted, low-more}
use Rattle.hy_tpcc.proofs.level.stock_level.Goals as goal

pub loop-order-preserved : goal.loop-order-preserved
loop-order-preserved g c =
    let s : Stored = stored_in g.row.N c.args.space.now in
    let level = c.args.level.now in
    let from = c.loop-order.invariant.from in
    record {
      from = omega (arith, from);
      low = low-more (is_low level.warehouse level.threshold s.tables.stock) level.district c.first_recent-order.result
          c.loop-order.order s.tables.order_lines s.lines c.requires.sound.indexes.lines c.loop-order.low.items
          c.add_order.new.low.items from c.loop-order.invariant.low c.in_ok-add_order.ensures;
    }

pub returns : goal.returns
returns g c =
    let s : Stored = stored_in g.row.N c.args.space.now in
    let level = c.args.level.now in
    let layout = c.args.layout.now in
    let end = c.loop-order.auto.order-end in
    let past = c.loop-order-test.false in
    let first = c.first_recent-order.ensures in
    let last : c.loop-order.order ≡ c.next_order-next.result = omega (arith, end, past, first) in
    let own = subst (λ w. All (λ (row : OrderLine). row.warehouse ≡ w) s.tables.order_lines) (sym c.requires.home)
    (own-lines layout.load.items layout.warehouse s c.requires.sound.sound) in
    let test = is_low level.warehouse level.threshold s.tables.stock in
    let low = subst (λ to. AreLow test level.district c.first_recent-order.result to s.tables.order_lines c.loop-order.low.items)
    last c.loop-order.invariant.low in
    let from = subst (λ n. AreLow test level.district n c.next_order-next.result s.tables.order_lines c.loop-order.low.items)
    first low in
    let counted = low-counted level.warehouse level.district c.next_order-next.result test s.tables.order_lines
    c.loop-order.low.items own from in
    c.count.ensures
    ∙ ap length c.deref.ensures.value
    ∙ counted
    ∙ ap (λ next. distinct_count (λ one other. one == other) (filter test (map (λ (line : OrderLine). line.item)
    (filter (is_recent next) (lines_of_district level.warehouse level.district s.tables.order_lines)))))
    c.next_order-next.ensures
