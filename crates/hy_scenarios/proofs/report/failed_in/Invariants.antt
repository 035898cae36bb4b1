use Rattle.std.proofs.Common.{◌≡◌, ◌≤◌, filter, length, not, take}
use Rattle.hy_scenarios.proofs.report.failed_in.Given as goal

abbrev pub invariant-loop-holds : goal.invariant-loop-holds
invariant-loop-holds l = (l.failed ≡ length (filter not (take l.holds-index l.verdicts))) × (l.failed ≤ l.holds-index)
