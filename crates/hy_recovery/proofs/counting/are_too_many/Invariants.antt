-- So many commits of the batches before are within the room.
use Rattle.std.proofs.Common.{◌≡◌, ◌+◌, length, take}
use Rattle.hy_recovery.specs.Recovering.{joined}
use Rattle.hy_recovery.proofs.counting.are_too_many.Given as goal

abbrev pub invariant-loop-number : goal.invariant-loop-number
invariant-loop-number l = l.room + length (joined (take l.number l.batches) l.place) ≡ l.most
