-- All that is named is looked at.
use Rattle.std.proofs.Common.{◌==◌, rules, tests}
use Rattle.std.proofs.lemmas.Iterator.Consumers.{YieldsList-from_first}
use Rattle.std.proofs.lemmas.Iterator.Search.{all_from_yields_List}
use Rattle.hy_commands.proofs.command.Command.names_only.Goals as goal

pub returns : goal.returns
returns c =
    all_from_yields_List (λ named. named == c.args.warehouse) _ _ c.all.result c.all.ensures.ran
    (YieldsList-from_first (λ named. named) (λ left. left) _ c.warehouses.ensures) (λ named b q k. search (rules, tests))
