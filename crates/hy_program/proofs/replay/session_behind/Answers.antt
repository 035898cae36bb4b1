use Rattle.std.proofs.Common.{rules, ◌≡◌, ◌∙◌, List, ap, arith, length, subst, sym}
use Rattle.std.specs.Prelude.{vec_len}
use Rattle.hy_rows.specs.Tables.{Lists}
use Rattle.hy_commands.specs.declared.command.Commit.{Commit}
use Rattle.hy_passes.specs.Worlds.{new_client}
use Rattle.hy_recovery.specs.of_partition.Snapshots.{SnapshotState}
use Rattle.hy_recovery.proofs.of_partition.SeatLaws.{length-numbered}
use Rattle.hy_recovery.specs.of_crossing.Crossings.{database_behind}
use Rattle.hy_recovery.specs.of_forks.Forks.{SpellsDatabase}
use Rattle.hy_storm.specs.of_session.Snapshots.{lists_of_all}
use Rattle.hy_program.proofs.ReplayLaws.{history_of, lists_behind, some-behind}
use Rattle.hy_program.proofs.replay.session_behind.Goals as goal

-- one client
pub take_last-pass-requires : goal.take_last-pass-requires
take_last-pass-requires g c =
    let clients : g.K.World.passes.clients ≡ 1 = ap (λ kit. kit.clients) (sym c.requires.kit) ∙ c.requires.clients in
    let all : length c.in-Ok.clients.items ≡ 1 = ap length c.in-Ok.ensures.clients
    ∙ length-numbered (new_client {C = Commit}) 0 g.K.World.passes.clients ∙ clients in
    let count : vec_len c.in-Ok.clients ≡ 1 = search (rules, all) in
    omega (arith, count)

-- the snapshots spell the database behind the serial list
pub returns-clause-rows : goal.returns-clause-rows
returns-clause-rows g c =
    let lists = c.args.load.now in
    let batches = c.args.batches.now in
    let log = c.in_ok-partitions.journal.list.log in
    let taken = c.in_ok-fork_all.field-0 in
    let count : g.K.World.passes.partitions ≡ length lists.tables.warehouses =
    ap (λ kit. kit.partitions) (sym c.requires.kit) ∙ c.requires.partitions in
    let history = history_of lists c.args.limits.frames c.args.limits.kept g.K.World.passes.partitions batches log
    c.in_ok-partitions.partitions count c.in_ok-partitions.ensures.recovered c.in_ok-partitions.ensures.history in
    let load : SpellsDatabase 4_096 (database_behind lists log) taken =
    subst (λ (all : Lists). SpellsDatabase 4_096 (database_behind all log) taken) (sym c.requires.load)
    c.in_ok-fork_all.ensures.database in
    let spells : SpellsDatabase 4_096 (database_behind lists log) c.new-session.result =
    subst (λ (it : List SnapshotState). SpellsDatabase 4_096 (database_behind lists log) it) (sym c.new-session.ensures) load in
    lists_behind lists batches log (lists_of_all 4_096 c.new-session.result) history
    (c.shows.ensures (database_behind lists log) (some-behind lists log c.sound.ensures) spells)
    c.in_ok-partitions.ensures.consistent
