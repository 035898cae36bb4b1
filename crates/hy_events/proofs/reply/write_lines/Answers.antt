use Rattle.std.specs.Prelude.{pos}
use Rattle.hy_rows.specs.declared.order_line.OrderLine.{OrderLine}
use Rattle.hy_events.specs.Replies.{line_text}
use Rattle.hy_events.proofs.WriterLaws.{appends-more}
use Rattle.hy_events.proofs.reply.write_lines.Goals as goal

pub loop-line-preserved : goal.loop-line-preserved
loop-line-preserved g c =
    let blank : OrderLine = record {
      order = 0;
      district = 0;
      warehouse = 0;
      number = 0;
      item = 0;
      supply_warehouse = 0;
      delivery_date = 0;
      quantity = 0;
      amount = pos 0;
    } in
    appends-more line_text c.args.lines.now c.loop-line.line-index blank (g.O.Output.contents c.args.out.now)
    (g.O.Output.contents c.loop-line.out) (g.O.Output.contents c.write_line.new.out) c.loop-line-test.true
    c.loop-line.invariant c.in_ok-write_line.ensures.written
