use Rattle.std.proofs.Common.{◌≡◌, ◌-◌}
use Rattle.hy_batches.specs.inside.Reading.{commits_at}
use Rattle.hy_batches.proofs.Fronts.{with_front}
use Rattle.hy_batches.proofs.reading.commits_at.Given as goal

-- what was read, and what is still read, is what is read from the begin
abbrev pub invariant-loop : goal.invariant-loop
invariant-loop l =
    with_front l.commits.items (commits_at l.edition l.warehouse (l.count - l.counter) l.rest) ≡ commits_at l.edition l.warehouse l.count l.bytes
