-- The partitions are still on their way, and the other lists stay.
use Rattle.std.proofs.Common.{◌≡◌, ◌≢◌, ℕ, length}
use Rattle.hy_sound.specs.Merges.{count_of, left_of}
use Rattle.hy_recovery.specs.inside.Ways.{Aim, AreOnWay, crossings_in}
use Rattle.hy_recovery.proofs.replaying.run_locals.Given as goal

abbrev pub invariant-commits : goal.invariant-commits
invariant-commits g l =
    record {
      way : (aim : Aim)
          → AreOnWay g.K.Loaded.load aim l.initial.merge l.initial.journal.list.log l.initial.parts.items
          → AreOnWay g.K.Loaded.load aim l.merge l.journal.list.log l.parts.items;
      count : count_of l.merge ≡ count_of l.initial.merge;
      others : (other : ℕ) → other ≢ l.place → left_of l.merge other ≡ left_of l.initial.merge other;
      numbers : crossings_in l.journal.list.log ≡ crossings_in l.initial.journal.list.log;
      client : l.pass.client ≡ l.fn.pass.client;
    }

abbrev pub decreases-commits : goal.decreases-commits
decreases-commits g l = length (left_of l.merge l.place)
