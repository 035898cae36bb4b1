use Rattle.std.proofs.Common.{lit<}
use Rattle.hy_commands.specs.declared.command.Command.TheVariants as commands
use Rattle.hy_writers.specs.of_store.Writes.{stored_in}
use Rattle.hy_slices.proofs.BegunLaws.{alone, home-begun}
use Rattle.hy_tpcc.proofs.SliceLaws.{districts-begun, sound-begun}
use Rattle.hy_tpcc.proofs.reading.answer_level.Goals as goal

pub stock_level-requires : goal.stock_level-requires
stock_level-requires g c =
    let edition = c.requires.done.0 in
    let before = c.requires.done.1 in
    let now = c.requires.done.2 in
    let layout = c.args.layout.now in
    let command = commands.StockLevel c.args.level.now in (
      lit< tt,
      (
        c.requires.store,
        (
          sound-begun layout edition command c.args.place before (stored_in g.row.N c.args.space.now) now,
          (
            home-begun layout.warehouse command before now.begun.begun,
            districts-begun layout.warehouse command before
                (alone layout.warehouse command before (λ never. never) now.begun.begun),
          ),
        ),
      ),
    )
