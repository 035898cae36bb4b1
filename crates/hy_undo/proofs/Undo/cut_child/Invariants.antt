use Rattle.hy_undo.proofs.CutLaws.{IsCutUpTo}
use Rattle.hy_undo.proofs.Undo.cut_child.Given as goal

-- the segments so far have their first pages only
abbrev pub invariant-loop-segment : goal.invariant-loop-segment
invariant-loop-segment g l = IsCutUpTo l.self l.fn.space l.space l.child l.segment
