use Rattle.std.proofs.Common.{take}
use Rattle.hy_space.proofs.UserLaws.{AreHeld}
use Rattle.hy_space.proofs.users.holds_of_each.Given as goal

-- the pages of the frames so far are held
abbrev pub invariant-loop-number : goal.invariant-loop-number
invariant-loop-number g l = AreHeld l.initial.frames l.frames l.holds.items (take l.number-index l.numbers)
