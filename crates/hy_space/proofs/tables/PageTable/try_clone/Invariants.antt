use Rattle.std.proofs.Common.{◌≡◌, take}
use Rattle.hy_space.proofs.tables.PageTable.try_clone.Given as goal

-- the segments so far
abbrev pub invariant-loop-segment : goal.invariant-loop-segment
invariant-loop-segment l = l.segments.items ≡ take l.segment-index l.segment-items
