-- A client for each warehouse, one for snapshots and one more.
use Rattle.std.proofs.Common.{◌≡◌, ◌∙◌, ◌+◌, ap, length, sym}
use Rattle.hy_commands.specs.declared.command.Commit.{Commit}
use Rattle.hy_passes.specs.Worlds.{new_client}
use Rattle.hy_recovery.proofs.of_partition.SeatLaws.{length-numbered}
use Rattle.hy_hyper_life.proofs.opening.open_in.Goals as goal

pub returns-in_default-clause-refused : goal.returns-in_default-clause-refused
returns-in_default-clause-refused g c = c.shortage_on.ensures c.args.max_frames

pub open_database-requires-clause-passes : goal.open_database-requires-clause-passes
open_database-requires-clause-passes g c =
    let clients : g.K.World.passes.clients ≡ length c.args.load.now.tables.warehouses + 2 =
    ap (λ kit. kit.clients) (sym c.requires.kit) ∙ c.requires.clients in
    ap length c.in-Ok.ensures.clients ∙ length-numbered (new_client {C = Commit}) 0 g.K.World.passes.clients ∙ clients
