use Rattle.std.proofs.Common.{◌≡◌, ◌++◌, drop}
use Rattle.hy_cli.specs.CommandLine.{texts_of}
use Rattle.hy_scenarios.specs.Marks.{output_of}
use Rattle.hy_scenarios.proofs.marks.output_of.Given as goal

abbrev pub invariant-loop-step : goal.invariant-loop-step
invariant-loop-step l = l.text.items ++ output_of (texts_of (drop l.step-index l.steps)) ≡ output_of (texts_of l.steps)
