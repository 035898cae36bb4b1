use Rattle.std.proofs.Common.{◌≡◌, ◌∙◌, ◌≤◌, List, true, ap, arith, length, subst, sym}
use Rattle.hy_rows.specs.Tables.{Lists}
use Rattle.hy_schema.specs.Conditions.{first_broken}
use Rattle.hy_database.proofs.EachLaws.{count-after}
use Rattle.hy_session.specs.of_partition.Snapshots.{SnapshotState}
use Rattle.hy_session.specs.of_crossing.Crossings.{commits_in, database_behind}
use Rattle.hy_session.specs.of_forks.Forks.{SpellsDatabase, are_from}
use Rattle.hy_session.specs.Databases.{lists_of}
use Rattle.hy_session.specs.Reports.{broken_condition}
use Rattle.hy_session.specs.Snapshots.{lists_of_all}
use Rattle.hy_storm.proofs.ending.session_of.Goals as goal

pub returns-clause-consistent : goal.returns-clause-consistent
unfolding broken_condition
returns-clause-consistent g c =
    let lists = g.K.Loaded.load in
    let log = c.args.journal.now.list.log in
    let taken = c.in_ok-all.all in
    let count : length (database_behind lists log).warehouses ≡ length c.args.partitions.now =
    count-after lists (commits_in log) ∙ sym c.sound.ensures.partitions.count in
    let some : 1 ≤ length (database_behind lists log).warehouses = omega (arith, count, c.sound.ensures.some) in
    let spells : SpellsDatabase 4096 (database_behind lists log) c.new-session.result =
    subst (λ (it : List SnapshotState). SpellsDatabase 4096 (database_behind lists log) it) (sym c.new-session.ensures) c.in_ok-all.ensures.database in
    let rows : lists_of_all 4096 c.new-session.result ≡ lists_of (database_behind lists log) =
    c.shows.ensures (database_behind lists log) some spells in
    ap (λ (l : Lists). first_broken l.tables) rows ∙ c.in_ok-all.ensures.consistent

pub returns-clause-mine : goal.returns-clause-mine
returns-clause-mine g c =
    subst (λ (it : List SnapshotState). are_from g.K.World.passes it c.fork_all.new.self ≡ true) (sym c.new-session.ensures)
    c.in_ok-all.ensures.mine
