use Rattle.hy_engine.proofs.working.goes_on.Goals as goal
use Rattle.hy_engine.proofs.RunLaws.{early_goes_on, early_more}

pub returns-clause-early : goal.returns-clause-early
returns-clause-early g c =
    λ first early. early_more first c.args.part.now c.step_early-outcome.new.self c.step_early-outcome.result c.requires.running c.step_early-outcome.ensures early

pub returns-clause-on : goal.returns-clause-on
returns-clause-on g c =
    early_goes_on c.args.part.now c.step_early-outcome.new.self c.step_early-outcome.result c.is_more.result c.is_more.ensures c.requires.running c.step_early-outcome.ensures
