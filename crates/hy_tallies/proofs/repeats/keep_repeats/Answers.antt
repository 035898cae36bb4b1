use Rattle.std.proofs.Common.{◌∙◌}
use Rattle.hy_tallies.proofs.RepeatLaws.{row-same}
use Rattle.hy_tallies.proofs.repeats.keep_repeats.Goals as goal

pub loop-column-preserved : goal.loop-column-preserved
loop-column-preserved c = record {
  long = c.keep_column.ensures.long ∙ c.loop-column.invariant.long;
  left = λ line noted later.
      let here = c.keep_column.ensures.left line noted in
      c.loop-column.invariant.left line here.0
      (row-same c.args.columns.now c.loop-column.column-index line c.column-item.result c.loop-column-test.true
      c.column-item.is here.1 later);
}
