-- The lists so far were passed, and the others stay.
use Rattle.std.proofs.Common.{◌≡◌, ◌<◌, ◌≤◌, ℕ}
use Rattle.hy_sound.specs.Merges.{count_of, left_of}
use Rattle.hy_sound.proofs.MergeLaws.{IsPassedAt}
use Rattle.hy_sound.proofs.merge.Merge.pass_crossing.Given as goal

abbrev pub invariant-loop-place : goal.invariant-loop-place
invariant-loop-place l =
    record {
      count : count_of l.self ≡ count_of l.initial.self;
      passed : (k : ℕ) → k < l.place
          → IsPassedAt l.edition l.number l.command k (left_of l.initial.self k) (left_of l.self k);
      others : (k : ℕ) → l.place ≤ k → left_of l.self k ≡ left_of l.initial.self k;
    }
