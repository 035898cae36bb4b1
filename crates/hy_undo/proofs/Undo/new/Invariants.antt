use Rattle.std.proofs.Common.{◌≡◌, take, map, length}
use Rattle.hy_undo.proofs.Undo.new.Given as goal

-- the counts of the segments so far
abbrev pub invariant-loop-segment : goal.invariant-loop-segment
invariant-loop-segment g l = l.counts.items ≡ take l.segment (map length l.space.owner)
