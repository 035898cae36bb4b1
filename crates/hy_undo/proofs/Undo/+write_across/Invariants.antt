use Rattle.std.proofs.Common.{length}
use Rattle.hy_undo.proofs.Undo.+write_across.Given as goal

-- the bytes that are left
abbrev pub decreases-write_across : goal.decreases-write_across
decreases-write_across g l = length l.bytes.now
