-- What stands before a place is among the first, and what isn't found there isn't.
use Rattle.std.proofs.Common.{◌∙◌, sym}
use Rattle.hy_commands.specs.inside.Named.{numbers_in}
use Rattle.hy_commands.proofs.FirstLaws.{others-in, there-in}
use Rattle.hy_commands.proofs.command.Command.has_before.Goals as goal

pub returns-then-eq : goal.returns-then-eq
returns-then-eq c =
    sym (there-in (numbers_in c.args.self.now) c.args.place c.loop-before.before c.args.number c.number_at.result
    c.loop-before-test.true c.number_at.ensures.number (sym c.eq.ensures ∙ c.if-eq.true))

pub loop-before-preserved : goal.loop-before-preserved
loop-before-preserved c =
    others-in (numbers_in c.args.self.now) c.loop-before.before c.args.number c.number_at.result c.number_at.ensures.number
    (sym c.eq.ensures ∙ c.if-eq.false) c.loop-before.invariant
