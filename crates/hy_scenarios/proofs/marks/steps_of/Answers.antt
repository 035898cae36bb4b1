use Rattle.std.proofs.Common.{◌∙◌, append-nil, sym}
use Rattle.hy_cli.specs.CommandLine.{texts_of}
use Rattle.hy_events.specs.Lines.{lines}
use Rattle.hy_scenarios.proofs.MarkLaws.{filter_map-numbered}
use Rattle.hy_scenarios.proofs.marks.steps_of.Goals as goal

pub returns : goal.returns
returns c =
    let all = filter_map-numbered 1 (lines c.args.text.now) in
    let so_far = rw c.in-None.ensures.steps.0 at c.loop-line.invariant.2 in
    sym (append-nil (texts_of c.loop-line.steps.items)) ∙ so_far ∙ all
