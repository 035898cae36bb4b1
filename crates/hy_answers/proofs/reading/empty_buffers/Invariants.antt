use Rattle.std.proofs.Common.{◌≡◌, length}
use Rattle.hy_answers.proofs.reading.empty_buffers.Given as goal

-- one for each column so far
abbrev pub invariant-loop-column : goal.invariant-loop-column
invariant-loop-column l = length l.buffers.items ≡ l._column-index
