use Rattle.std.proofs.Common.{take}
use Rattle.std.specs.List.{flat_map}
use Rattle.hy_batches.specs.Encoding.{line_bytes}
use Rattle.hy_batches.proofs.writing.write_lines.Given as goal

-- the lines before this place were written
abbrev pub invariant-loop-place : goal.invariant-loop-place
invariant-loop-place g l = g.S.Sink.takes l.fn.sink l.sink (flat_map line_bytes (take l.place l.lines))
