use Rattle.std.proofs.Common.{◌∙◌}
use Rattle.std.proofs.lemmas.List.{length-set}
use Rattle.hy_columns.specs.Blocks.{rows_in_block}
use Rattle.hy_answers.proofs.ReadingLaws.{here-more}
use Rattle.hy_answers.proofs.reading.read_here.Goals as goal

pub loop-index-preserved : goal.loop-index-preserved
loop-index-preserved g c =
    record {
      long = length-set c.loop-index.buffers c.loop-index.index c.read_column.new.buffer ∙ c.loop-index.invariant.long;
      here =
          here-more (rows_in_block g.row.N c.args.scan.now c.args.first c.args.block) c.args.first c.args.names.now
          c.loop-index.buffers c.loop-index.index _ c.read_column.new.buffer c.loop-index-test.true
          c.loop-index.invariant.long c.loop-index.invariant.here c.in_ok-read_column.ensures;
    }
