-- The partitions are still on their way.
use Rattle.std.proofs.Common.{◌≡◌, ◌-◌, ◌^◌}
use Rattle.hy_recovery.specs.inside.Ways.{Aim, AreOnWay, crossings_in, untouched}
use Rattle.hy_recovery.proofs.replaying.run_batch.Given as goal

abbrev pub invariant-crossings : goal.invariant-crossings
invariant-crossings g l =
    record {
      way : (aim : Aim)
          → AreOnWay g.K.Loaded.load aim (untouched l.batch) l.initial.journal.list.log l.initial.parts.items
          → AreOnWay g.K.Loaded.load aim l.merge l.journal.list.log l.parts.items;
      client : l.pass.client ≡ l.fn.pass.client;
    }

abbrev pub decreases-crossings : goal.decreases-crossings
decreases-crossings g l = 2 ^ 64 - crossings_in l.journal.list.log
