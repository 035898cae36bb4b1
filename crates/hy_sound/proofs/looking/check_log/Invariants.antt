-- The batches so far are sound.
use Rattle.std.proofs.Common.{take}
use Rattle.hy_sound.specs.Sound.{AreSound}
use Rattle.hy_sound.proofs.looking.check_log.Given as goal

abbrev pub invariant-loop-place : goal.invariant-loop-place
invariant-loop-place l = AreSound l.load 0 l.last (take l.place l.batches)
