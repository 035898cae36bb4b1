-- The lists so far were passed, and the others stay.
use Rattle.std.proofs.Common.{◌≡◌, ◌<◌, ◌≤◌, ℕ}
use Rattle.hy_sound.specs.Merges.{count_of, left_of}
use Rattle.hy_sound.specs.inside.Steps.{PassesLocals}
use Rattle.hy_sound.proofs.looking.pass_all_locals.Given as goal

abbrev pub invariant-loop-place : goal.invariant-loop-place
invariant-loop-place l =
    record {
      count : count_of l.merge ≡ count_of l.initial.merge;
      passed : (k : ℕ) → k < l.place → PassesLocals l.known (left_of l.initial.merge k) (left_of l.merge k);
      others : (k : ℕ) → l.place ≤ k → left_of l.merge k ≡ left_of l.initial.merge k;
    }
