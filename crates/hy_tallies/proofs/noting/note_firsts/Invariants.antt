use Rattle.std.proofs.Common.{◌≡◌}
use Rattle.hy_tallies.specs.declared.aggregate.Aggregate.TheVariants as aggregates
use Rattle.hy_tallies.specs.inside.Steps.{noted_upto}
use Rattle.hy_tallies.proofs.noting.note_firsts.Given as goal

-- the lines so far
abbrev pub invariant-loop-line : goal.invariant-loop-line
invariant-loop-line g l = l.column ≡ noted_upto aggregates.First l.fn.column l.numbers (g.V.ByPlace.values l.values) l.line
