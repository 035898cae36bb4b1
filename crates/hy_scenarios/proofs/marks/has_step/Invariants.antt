use Rattle.std.proofs.Common.{◌≡◌, drop, bytes_eq}
use Rattle.std.specs.List.{list_any}
use Rattle.hy_cli.specs.CommandLine.{texts_of}
use Rattle.hy_scenarios.proofs.marks.has_step.Given as goal

abbrev pub invariant-loop-step : goal.invariant-loop-step
invariant-loop-step l = list_any (λ step. bytes_eq step l.wanted) (texts_of (drop l.step-index l.steps))
    ≡ list_any (λ step. bytes_eq step l.wanted) (texts_of l.steps)
