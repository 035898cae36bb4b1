use Rattle.std.proofs.Common.{◌≡◌, ◌+◌, ◌-◌}
use Rattle.hy_commands.specs.declared.edition.Edition.{Edition}
use Rattle.hy_batches.specs.inside.Reading.{left, lists_at}
use Rattle.hy_batches.proofs.reading.skip_lists.Given as goal

-- what is left behind those that are still to come is what is left behind all
abbrev pub invariant-loop-place : goal.invariant-loop-place
invariant-loop-place l =
    (edition : Edition)
    → left (lists_at edition (l.place + 1) (l.count - l.place) l.rest) ≡ left (lists_at edition 1 l.count l.bytes)
