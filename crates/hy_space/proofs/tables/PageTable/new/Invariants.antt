use Rattle.std.proofs.Common.{◌≡◌, [], replicate}
use Rattle.hy_space.proofs.tables.PageTable.new.Given as goal

-- as many empty segments as turns
abbrev pub invariant-loop-i : goal.invariant-loop-i
invariant-loop-i l = l.segments.items ≡ replicate l._i []
