-- The next commit isn't replayable.
use Rattle.std.proofs.Common.{Some, ap, ◌∙◌, sym}
use Rattle.hy_sound.specs.Merges.{left_of}
use Rattle.hy_sound.proofs.SoundLaws.{refused-next}
use Rattle.hy_sound.proofs.looking.pass_locals.Goals as goal

pub returns-then-not-accepts-clause-here : goal.returns-then-not-accepts-clause-here
returns-then-not-accepts-clause-here c =
    c.commits.invariant.replayable
    ∙ refused-next c.args.known.now (left_of c.commits.merge c.args.place) _ c.in-Some-Local.command
    (sym c.in-Some-Local.ensures ∙ ap Some c.in-Some-Local.field-0-is) (sym c.accepts.ensures ∙ c.if-not-accepts.true)
