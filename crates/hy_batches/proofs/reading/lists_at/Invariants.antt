use Rattle.std.proofs.Common.{◌≡◌, ◌+◌, ◌-◌, map}
use Rattle.hy_batches.specs.inside.Reading.{lists_at}
use Rattle.hy_batches.proofs.Fronts.{with_front}
use Rattle.hy_batches.proofs.reading.lists_at.Given as goal

-- what was read, and what is still read, is what is read from the begin
abbrev pub invariant-loop-place : goal.invariant-loop-place
invariant-loop-place l =
    with_front (map (λ commits. commits.items) l.lists.items) (lists_at l.edition (l.place + 1) (l.count - l.place) l.rest)
    ≡ lists_at l.edition 1 l.count l.bytes
