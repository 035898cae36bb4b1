use Rattle.std.proofs.Common.{◌≡◌, ◌++◌, drop}
use Rattle.hy_cli.specs.CommandLine.{texts_of}
use Rattle.hy_scenarios.specs.Marks.{text_behind}
use Rattle.hy_scenarios.proofs.marks.text_behind.Given as goal

abbrev pub invariant-loop-step : goal.invariant-loop-step
invariant-loop-step l = l.text.items ++ text_behind l.mark (texts_of (drop l.step-index l.steps)) ≡ text_behind l.mark (texts_of l.steps)
