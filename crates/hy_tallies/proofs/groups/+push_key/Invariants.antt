use Rattle.std.proofs.Common.{length}
use Rattle.hy_tallies.proofs.groups.+push_key.Given as goal

-- the columns that are left
abbrev pub decreases-push_key : goal.decreases-push_key
decreases-push_key l = length l.keys.now
