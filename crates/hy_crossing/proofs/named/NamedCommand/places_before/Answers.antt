use Rattle.std.proofs.Common.{ap, ◌∙◌, nat_lt}
use Rattle.std.specs.List.{take_while}
use Rattle.hy_commands.specs.declared.command.Command.{Command}
use Rattle.hy_commands.specs.Commands.{is_named_at}
use Rattle.hy_crossing.specs.Named.{places_before}
use Rattle.hy_crossing.proofs.WalkLaws.{passing-before}
use Rattle.hy_crossing.proofs.named.NamedCommand.places_before.Goals as goal

pub returns : goal.returns
returns c =
    c.before-2.ensures ∙ ap (take_while (λ place. nat_lt place c.args.end)) c.self.invariant
    ∙ passing-before (is_named_at c.self.inside.command.now) c.args.end 16 c.requires
    ∙ ap (λ (command : Command). places_before command c.args.end) c.self.view_is
