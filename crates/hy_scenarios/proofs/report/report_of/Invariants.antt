use Rattle.std.proofs.Common.{take}
use Rattle.hy_scenarios.specs.Reports.{AreReported}
use Rattle.hy_scenarios.proofs.report.report_of.Given as goal

abbrev pub invariant-loop-scenario : goal.invariant-loop-scenario
invariant-loop-scenario g l = AreReported (take l.scenario-index l.scenarios) l.verdicts.items l.text.items
