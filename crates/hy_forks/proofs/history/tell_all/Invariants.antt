use Rattle.std.proofs.Common.{◌≡◌, length}
use Rattle.hy_crossing.specs.Lists.{IsDoneUpTo}
use Rattle.hy_forks.specs.Drains.{TellsHere}
use Rattle.hy_forks.proofs.history.tell_all.Given as goal

-- the partitions before the place were told
abbrev pub invariant-loop-place : goal.invariant-loop-place
invariant-loop-place g l =
    IsDoneUpTo (TellsHere l.fn.journal.list.log) l.place (g.P.Parts.states l.fn.parts) (g.P.Parts.states l.parts)
    × (l.journal.list.log ≡ l.fn.journal.list.log) × (l.place-end ≡ length (g.P.Parts.states l.fn.parts))
