use Rattle.std.proofs.Common.{◌≡◌, drop, is_some}
use Rattle.std.specs.List.{list_any}
use Rattle.hy_cli.specs.CommandLine.{texts_of}
use Rattle.hy_scenarios.specs.Marks.{behind}
use Rattle.hy_scenarios.proofs.marks.has_mark.Given as goal

abbrev pub invariant-loop-step : goal.invariant-loop-step
invariant-loop-step l = list_any (λ step. is_some (behind l.mark step)) (texts_of (drop l.step-index l.steps))
    ≡ list_any (λ step. is_some (behind l.mark step)) (texts_of l.steps)
