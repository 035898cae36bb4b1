use Rattle.std.proofs.Common.{lit<}
use Rattle.hy_commands.specs.declared.command.Command.TheVariants as commands
use Rattle.hy_writers.specs.of_store.Writes.{stored_in}
use Rattle.hy_slices.proofs.BegunLaws.{home-begun}
use Rattle.hy_tpcc.proofs.SliceLaws.{sound-begun}
use Rattle.hy_tpcc.proofs.reading.answer_status.Goals as goal

pub order_status-requires : goal.order_status-requires
order_status-requires g c =
    let edition = c.requires.done.0 in
    let before = c.requires.done.1 in
    let now = c.requires.done.2 in
    let layout = c.args.layout.now in
    let command = commands.OrderStatus c.args.status.now in
    let s = stored_in g.row.N c.args.space.now in
    let sound = sound-begun layout edition command c.args.place before s now in (
      lit< tt,
      (
        c.requires.store,
        (
          sound,
          (home-begun layout.warehouse command before now.begun.begun, now.begun.customer s.tables sound.places),
        ),
      ),
    )
