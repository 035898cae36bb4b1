use Rattle.std.proofs.Common.{◌≡◌}
use Rattle.hy_crossing.specs.Crossings.{TellsIfNamed}
use Rattle.hy_crossing.specs.Lists.{IsDoneUpTo}
use Rattle.hy_crossing.proofs.WalkLaws.{start_of}
use Rattle.hy_crossing.proofs.before.tell_named.Given as goal

-- the partitions before the place were told, where the command names them
abbrev pub invariant-loop-place : goal.invariant-loop-place
invariant-loop-place g l =
    IsDoneUpTo (TellsIfNamed l.command l.fn.journal.list.log) (start_of l.places l.place-index)
    (g.P.Parts.states l.fn.parts) (g.P.Parts.states l.parts) × (l.journal.list.log ≡ l.fn.journal.list.log)
