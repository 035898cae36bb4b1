use Rattle.std.proofs.Common.{◌≡◌, drop}
use Rattle.hy_tallies.specs.Lines.{row_at}
use Rattle.hy_tallies.specs.inside.Keys.{code_from}
use Rattle.hy_tallies.proofs.weights.group_code.Given as goal

-- the columns that are left lead to the whole
abbrev pub invariant-loop-values : goal.invariant-loop-values
invariant-loop-values l = code_from l.code (row_at (drop l.values-index l.keys) l.group) ≡ code_from 0 (row_at l.keys l.group)
