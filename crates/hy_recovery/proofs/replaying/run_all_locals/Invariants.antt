-- The partitions are still on their way, and the lists before stop.
use Rattle.std.proofs.Common.{◌≡◌, ◌<◌, ℕ}
use Rattle.hy_sound.specs.Merges.{count_of, left_of}
use Rattle.hy_sound.specs.inside.Steps.{IsAtCrossing}
use Rattle.hy_recovery.specs.inside.Ways.{Aim, AreOnWay, crossings_in}
use Rattle.hy_recovery.proofs.replaying.run_all_locals.Given as goal

abbrev pub invariant-loop-place : goal.invariant-loop-place
invariant-loop-place g l =
    record {
      way : (aim : Aim)
          → AreOnWay g.K.Loaded.load aim l.initial.merge l.initial.journal.list.log l.initial.parts.items
          → AreOnWay g.K.Loaded.load aim l.merge l.journal.list.log l.parts.items;
      stops : (k : ℕ) → k < l.place → IsAtCrossing (left_of l.merge k);
      count : count_of l.merge ≡ count_of l.initial.merge;
      numbers : crossings_in l.journal.list.log ≡ crossings_in l.initial.journal.list.log;
      client : l.pass.client ≡ l.fn.pass.client;
    }
