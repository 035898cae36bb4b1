-- Nothing is due between two drains.
use Rattle.std.proofs.Common.{◌≡◌, None}
use Rattle.hy_trials.proofs.writer_tests.hand_three.Given as goal

abbrev pub invariant-loop-turn : goal.invariant-loop-turn
invariant-loop-turn g l = l.drains.due ≡ None
