-- Commits of one warehouse were passed, all of them replayable.
use Rattle.std.proofs.Common.{◌≡◌, ◌≢◌, ℕ, length}
use Rattle.hy_sound.specs.Merges.{count_of, left_of}
use Rattle.hy_sound.specs.Sound.{are_replayable, crossings_of}
use Rattle.hy_sound.proofs.looking.pass_locals.Given as goal

abbrev pub invariant-commits : goal.invariant-commits
invariant-commits l =
    record {
      count : count_of l.merge ≡ count_of l.initial.merge;
      crossings : crossings_of (left_of l.initial.merge l.place) ≡ crossings_of (left_of l.merge l.place);
      replayable : are_replayable l.known (left_of l.initial.merge l.place)
          ≡ are_replayable l.known (left_of l.merge l.place);
      others : (other : ℕ) → other ≢ l.place → left_of l.merge other ≡ left_of l.initial.merge other;
    }

abbrev pub decreases-commits : goal.decreases-commits
decreases-commits l = length (left_of l.merge l.place)
