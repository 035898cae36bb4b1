use Rattle.hy_conditions.proofs.NumberLaws.{HasNumbers}
use Rattle.hy_conditions.proofs.numbers.numbers_by_key.Given as goal

-- the map has the numbers of the entries so far
abbrev pub invariant-loop-entry : goal.invariant-loop-entry
invariant-loop-entry g l = HasNumbers g.K.PartialEq.eq l.groups l.entries l.entry-index
