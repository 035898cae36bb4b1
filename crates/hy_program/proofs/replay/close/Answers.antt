use Rattle.std.proofs.lemmas.Bool.{false≢true}
use Rattle.hy_program.proofs.replay.close.Goals as goal

-- the session is of these partitions
pub unreachable-requires : goal.unreachable-requires
unreachable-requires g c = false≢true (c.in-Err.ensures.mine.1 c.requires.mine)
