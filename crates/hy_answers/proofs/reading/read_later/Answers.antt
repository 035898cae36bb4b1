use Rattle.hy_columns.specs.Scans.{lists_in_scan}
use Rattle.hy_query.specs.Rows.{rows_of}
use Rattle.hy_answers.proofs.ReadingLaws.{later-more}
use Rattle.hy_answers.proofs.reading.read_later.Goals as goal

pub loop-column-preserved : goal.loop-column-preserved
loop-column-preserved g c =
    later-more (rows_of (lists_in_scan g.row.N c.args.scan.now)) c.args.first c.args.names.now c.loop-column.later.items
    c.push.new.self.items c.loop-column.column-index _ c.in_ok-later_column.field-0 c.loop-column-test.true
    c.in_ok-push.ensures.items c.loop-column.invariant c.in_ok-later_column.ensures
