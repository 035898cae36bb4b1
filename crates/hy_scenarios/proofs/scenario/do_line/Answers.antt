use Rattle.hy_cli.specs.CommandLine.{texts_of}
use Rattle.hy_files.specs.MemoryFiles.{files_on}
use Rattle.hy_scenarios.proofs.ScenarioLaws.{not-texts}
use Rattle.hy_scenarios.proofs.scenario.do_line.Goals as goal

pub returns-in_default-2 : goal.returns-in_default-2
returns-in_default-2 g c = not-texts c.args.line.now (texts_of c.in-Some.words.items) (texts_of c.args.body.now)
    (files_on c.args.stored.now) (files_on c.args.stored.now)
    (rw c.in-Some.is at c.in_ok-words.ensures) (rw (c.in_default-2.is, c.deref.ensures.value) at c.in_ok-texts.ensures)
