use Rattle.std.proofs.Common.{◌≡◌, length, take}
use Rattle.hy_columns.specs.Blocks.{rows_in_block}
use Rattle.hy_answers.specs.inside.Reading.{AreHere}
use Rattle.hy_answers.proofs.reading.read_here.Given as goal

-- the columns so far
abbrev pub invariant-loop-index : goal.invariant-loop-index
invariant-loop-index g l = record {
  long : length l.buffers ≡ length l.names;
  here : AreHere (rows_in_block g.row.N l.scan l.first l.block) l.first (take l.index l.names) (take l.index l.buffers);
}
