use Rattle.std.proofs.Common.{◌≡◌, ◌-◌}
use Rattle.hy_commands.specs.declared.edition.Edition.{Edition}
use Rattle.hy_batches.specs.inside.Reading.{commits_at, left}
use Rattle.hy_batches.proofs.reading.skip_commits.Given as goal

-- what is left behind those that are still to come is what is left behind all
abbrev pub invariant-loop : goal.invariant-loop
invariant-loop l =
    (edition : Edition)
    → left (commits_at edition l.warehouse (l.count - l.counter) l.rest) ≡ left (commits_at edition l.warehouse l.count l.bytes)
