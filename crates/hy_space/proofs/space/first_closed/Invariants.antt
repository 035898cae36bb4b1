use Rattle.std.proofs.Common.{ℕ, ◌<◌, get_or, None, IsSome}
use Rattle.hy_space.proofs.space.first_closed.Given as goal

-- each place so far has an open child
abbrev pub invariant-loop-i : goal.invariant-loop-i
invariant-loop-i l = (k : ℕ) → k < l.i → IsSome (get_or l.children k None)
