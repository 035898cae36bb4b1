use Rattle.std.proofs.lemmas.Bool.{both_ways}
use Rattle.hy_commands.specs.declared.command.Command.TheVariants as commands
use Rattle.hy_slices.specs.Slices.{has_item_at}
use Rattle.hy_slices.proofs.SliceLaws.{slice-known}
use Rattle.hy_tpcc.proofs.PartLaws.{not-missing}
use Rattle.hy_tpcc.proofs.parts.buy_known.Goals as goal

pub returns-clause-refused : goal.returns-clause-refused
returns-clause-refused g c =
    let items = c.args.layout.now.load.items in
    let command = commands.NewOrder c.args.order.now in
    not-missing c.buy.result
    (λ missing. both_ways (has_item_at items command c.args.done) (c.buy.ensures.no_item.0 missing)
    (slice-known items command c.args.done c.requires.known)) c.buy.ensures.refused
