use Rattle.std.proofs.Common.{is_none}
use Rattle.hy_scenarios.proofs.ReportLaws.{none-is, reported-more}
use Rattle.hy_scenarios.proofs.report.report_of.Goals as goal

pub loop-scenario-preserved : goal.loop-scenario-preserved
loop-scenario-preserved g c =
    let pushed = rw c.as_str.ensures.value at c.in_ok-push_verdict.ensures in
    let verdict = rw c.deref.ensures.value at c.in_ok-fault.ensures in
    rw (c.in_ok-push.ensures.items, pushed.2, none-is c.in_ok-fault.fault c.is_none.result c.is_none.ensures)
    (reported-more c.args.scenarios.now c.loop-scenario.scenario-index c.scenario-item.result c.loop-scenario-test.true
    c.scenario-item.is c.loop-scenario.verdicts.items c.loop-scenario.text.items c.loop-scenario.invariant
    (is_none c.in_ok-fault.fault) pushed.0 verdict pushed.1)
