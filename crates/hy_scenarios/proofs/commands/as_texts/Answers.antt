use Rattle.hy_scenarios.proofs.ScenarioLaws.{not-all}
use Rattle.hy_scenarios.proofs.commands.as_texts.Goals as goal

pub returns-in-Err : goal.returns-in-Err
returns-in-Err c = not-all c.args.words.now c.loop-word.word-index _ c.loop-word-test.true c.in-Err.ensures.cases.0
