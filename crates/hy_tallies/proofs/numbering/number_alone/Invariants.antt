use Rattle.std.proofs.Common.{◌≡◌}
use Rattle.hy_tallies.specs.inside.Keys.{rising}
use Rattle.hy_tallies.proofs.numbering.number_alone.Given as goal

-- the lines so far
abbrev pub invariant-loop-line : goal.invariant-loop-line
invariant-loop-line l = l.numbers.items ≡ rising l.fn.groups.count l.line
