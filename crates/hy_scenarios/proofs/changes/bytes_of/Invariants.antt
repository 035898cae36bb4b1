use Rattle.std.proofs.Common.{◌≡◌, ◌++◌, drop, option_map}
use Rattle.hy_cli.specs.CommandLine.{texts_of}
use Rattle.hy_scenarios.specs.Changes.{bytes_of}
use Rattle.hy_scenarios.proofs.changes.bytes_of.Given as goal

abbrev pub invariant-loop-step : goal.invariant-loop-step
invariant-loop-step l = option_map (λ rest. l.bytes.items ++ rest) (bytes_of (texts_of (drop l.step-index l.steps)))
    ≡ bytes_of (texts_of l.steps)
