use Rattle.hy_crossing.specs.Crossings.{EndsIfNamed}
use Rattle.hy_crossing.specs.Lists.{IsLedUpTo}
use Rattle.hy_crossing.proofs.WalkLaws.{start_of}
use Rattle.hy_crossing.proofs.before.end_jobs.Given as goal

-- what runs in the partitions before the place has ended, where the command names them
abbrev pub invariant-loop-place : goal.invariant-loop-place
invariant-loop-place g l =
    IsLedUpTo (EndsIfNamed l.command) (start_of l.places l.place-index) l.fn.journal.list.log l.journal.list.log
    (g.P.Parts.states l.fn.parts) (g.P.Parts.states l.parts)
