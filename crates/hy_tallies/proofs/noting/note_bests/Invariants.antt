use Rattle.std.proofs.Common.{◌≡◌}
use Rattle.hy_tallies.specs.inside.Steps.{aggregate_of, noted_upto}
use Rattle.hy_tallies.proofs.noting.note_bests.Given as goal

-- the lines so far
abbrev pub invariant-loop-line : goal.invariant-loop-line
invariant-loop-line g l =
    l.column ≡ noted_upto (aggregate_of l.extreme) l.fn.column l.numbers (g.V.ByPlace.values l.values) l.line
