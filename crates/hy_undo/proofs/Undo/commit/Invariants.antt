use Rattle.std.proofs.Common.{◌≡◌, length, take, map}
use Rattle.hy_undo.proofs.Undo.commit.Given as goal

-- the counts of the segments so far
abbrev pub invariant-loop-segment : goal.invariant-loop-segment
invariant-loop-segment g l = record {
  counts : take l.segment l.self-inside.counts.items ≡ take l.segment (map length l.space.owner);
  segments : length l.self-inside.counts.items ≡ length l.space.owner;
}
