-- Nothing is due between two drains.
use Rattle.std.proofs.Common.{◌≡◌, None}
use Rattle.hy_trials.proofs.lives.rounds.Given as goal

abbrev pub invariant-loop : goal.invariant-loop
invariant-loop g l = l.drains.due ≡ None
