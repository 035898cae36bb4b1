use Rattle.std.proofs.Common.{◌≡◌, [], replicate}
use Rattle.hy_tallies.proofs.owned.empty_columns.Given as goal

-- the columns so far
abbrev pub invariant-loop-place : goal.invariant-loop-place
invariant-loop-place l = l.made.items ≡ replicate l._place []
