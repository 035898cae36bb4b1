use Rattle.std.proofs.Common.{◌≡◌, length}
use Rattle.hy_scenarios.specs.Reports.{first_other}
use Rattle.hy_scenarios.proofs.report.first_difference.Given as goal

abbrev pub invariant-loop-line : goal.invariant-loop-line
invariant-loop-line l = first_other l.printed l.wanted ≡ first_other l.initial.printed l.initial.wanted

abbrev pub decreases-loop-line : goal.decreases-loop-line
decreases-loop-line l = length l.printed
