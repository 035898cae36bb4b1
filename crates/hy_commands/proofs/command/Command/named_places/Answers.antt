-- The number at a place is marked beside those before it, and behind the last all are.
use Rattle.std.proofs.Common.{◌∙◌, ◌||◌, ◌==◌, ap, suc, sym}
use Rattle.hy_commands.specs.inside.Named.{numbers_in}
use Rattle.hy_commands.proofs.FirstLaws.{among-all, among-more}
use Rattle.hy_commands.proofs.NamedLaws.{named-numbers}
use Rattle.hy_commands.proofs.command.Command.named_places.Goals as goal

pub loop-number-preserved : goal.loop-number-preserved
loop-number-preserved c = λ at near.
    c.mark.ensures at near
    ∙ ap (λ b. b || (c.in-Some.number == suc at)) (c.loop-number.invariant at near)
    ∙ sym (among-more (numbers_in c.args.self.now) c.loop-number.place c.in-Some.number (suc at)
    (sym c.number_at.ensures.number ∙ c.in-Some.is))

pub returns : goal.returns
returns c = λ place near.
    c.loop-number.invariant place near
    ∙ among-all (numbers_in c.args.self.now) c.loop-number.place (suc place) (sym c.number_at.ensures.number ∙ c.in_default.is)
    ∙ named-numbers (suc place) c.args.self.now
