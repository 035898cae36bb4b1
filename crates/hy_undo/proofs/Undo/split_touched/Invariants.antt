use Rattle.hy_undo.proofs.SplitLaws.{IsSplitUpTo}
use Rattle.hy_undo.proofs.Undo.split_touched.Given as goal

-- the pages of the images so far have frames of their own, where no later image is of them
abbrev pub invariant-loop-i : goal.invariant-loop-i
invariant-loop-i g l = IsSplitUpTo l.self l.fn.space l.space l.child l.i
