use Rattle.std.proofs.Common.{length}
use Rattle.hy_tallies.proofs.groups.+have_equal.Given as goal

-- the columns that are left
abbrev pub decreases-have_equal : goal.decreases-have_equal
decreases-have_equal l = length l.keys.now
