use Rattle.hy_events.specs.Lines.{lines, numbered}
use Rattle.hy_script.specs.inside.Held.{contents_behind}
use Rattle.hy_script.proofs.RunLaws.{SoFar}
use Rattle.hy_script.proofs.script.run_lines.Given as goal

abbrev pub invariant-loop-line : goal.invariant-loop-line
invariant-loop-line g l =
    (goal.iterator-loop-line g).can_next l.line-iterator × (goal.iterator-loop-line g).is_finite l.line-iterator
    × SoFar g.row.N (numbered 1 (lines l.fn.script)) l.fn.database
    (contents_behind g.O.Output.contents l.fn.held) l.line-iterator l.database
    (contents_behind g.O.Output.contents l.held)
