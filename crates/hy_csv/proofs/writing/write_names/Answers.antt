use Rattle.hy_csv.proofs.WritingLaws.{name_written}
use Rattle.hy_csv.proofs.writing.write_names.Goals as goal

pub loop-column-preserved : goal.loop-column-preserved
loop-column-preserved c =
    name_written c.args.columns.now c.loop-column.column-index _ c.loop-column.records c.field.new.self _
    c.loop-column-test.true c.in_ok-field.ensures c.loop-column.invariant
