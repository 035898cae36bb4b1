use Rattle.std.proofs.Common.{◌≡◌, map, take}
use Rattle.hy_tallies.specs.Lines.{column_in}
use Rattle.hy_tallies.proofs.tallies.kept_columns.Given as goal

-- the columns so far
abbrev pub invariant-loop-column : goal.invariant-loop-column
invariant-loop-column l = map column_in l.made.items ≡ take l.column-index l.columns
