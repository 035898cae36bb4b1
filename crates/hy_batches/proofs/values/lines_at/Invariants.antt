use Rattle.std.proofs.Common.{◌≡◌, ◌-◌, length, take}
use Rattle.hy_batches.specs.inside.Reading.{lines_at}
use Rattle.hy_batches.proofs.Fronts.{with_front}
use Rattle.hy_batches.proofs.values.lines_at.Given as goal

-- what was read, and what is still read, is what is read from the begin
abbrev pub invariant-loop-place : goal.invariant-loop-place
invariant-loop-place l =
    with_front (take l.place l.lines) (lines_at (length l.lines - l.place) l.rest) ≡ lines_at (length l.fn.lines) l.bytes
