use Rattle.hy_storm.specs.of_session.Snapshots.{lists_of_all}
use Rattle.hy_program.proofs.ReplayLaws.{replayed_by}
use Rattle.hy_program.proofs.replay.tables_behind.Goals as goal

-- what the session lists
pub returns-clause-rows : goal.returns-clause-rows
returns-clause-rows g c =
    replayed_by c.args.load.now c.args.batches.now (lists_of_all 4_096 c.in_ok-partitions.session) c.in_ok-partitions.ensures.rows
    c.tables-tables.result c.tables-tables.ensures.tables
