-- The program was run on the input and the files that stand behind the events.
use Rattle.std.proofs.Common.{◌∙◌}
use Rattle.hy_cli.specs.CommandLine.{texts_of}
use Rattle.hy_files.specs.MemoryFiles.{files_on}
use Rattle.hy_scenarios.specs.Commands.{printed_in}
use Rattle.hy_scenarios.proofs.ScenarioLaws.{ran-on, ran-other, ran-same}
use Rattle.hy_scenarios.proofs.scenario.do_command.Goals as goal

pub returns-then-is_same : goal.returns-then-is_same
returns-then-is_same g c =
    let words = texts_of c.args.words.now in
    let between = files_on c.put_events.new.stored in
    let new = files_on c.run.new.stored in
    let printed = printed_in c.in_ok-printed.printed in
    let ran = c.in_ok-printed.ensures in
    ran-same words (texts_of c.args.body.now) (files_on c.args.stored.now) between new printed
    (printed_in c.in_ok-wanted.wanted) ran.0 c.in_ok-put_events.ensures
    (ran-on words between (files_on c.input_in.new.stored) new c.deref.result.now printed ran.0
    (c.deref.ensures.value ∙ c.in_ok-input.ensures.input) c.input_in.ensures.stays ran.1)
    c.in_ok-wanted.ensures (c.is_same.ensures.0 c.if-is_same.true)

pub returns : goal.returns
returns g c =
    let words = texts_of c.args.words.now in
    let between = files_on c.put_events.new.stored in
    let new = files_on c.run.new.stored in
    let printed = printed_in c.in_ok-printed.printed in
    let ran = c.in_ok-printed.ensures in
    ran-other words (texts_of c.args.body.now) (files_on c.args.stored.now) between new printed
    (printed_in c.in_ok-wanted.wanted) ran.0 c.in_ok-put_events.ensures
    (ran-on words between (files_on c.input_in.new.stored) new c.deref.result.now printed ran.0
    (c.deref.ensures.value ∙ c.in_ok-input.ensures.input) c.input_in.ensures.stays ran.1)
    c.in_ok-wanted.ensures (λ same. absurd (cc (c.is_same.ensures.1 same, c.if-is_same.false)))
