use Rattle.std.proofs.Common.{◌≡◌, ◌++◌}
use Rattle.std.specs.List.{filter_map}
use Rattle.hy_cli.specs.CommandLine.{texts_of}
use Rattle.hy_events.specs.Lines.{lines, numbered}
use Rattle.hy_scenarios.specs.Marks.{step_in, steps_of}
use Rattle.hy_scenarios.proofs.marks.steps_of.Given as goal

abbrev pub invariant-loop-line : goal.invariant-loop-line
invariant-loop-line l = goal.iterator-loop-line.can_next l.line-iterator × goal.iterator-loop-line.is_finite l.line-iterator
    × (texts_of l.steps.items ++ filter_map (λ line. step_in line.1) l.line-iterator
    ≡ filter_map (λ line. step_in line.1) (numbered 1 (lines l.text)))
