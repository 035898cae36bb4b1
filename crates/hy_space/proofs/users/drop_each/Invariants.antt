use Rattle.std.proofs.Common.{take}
use Rattle.hy_frames.specs.FrameTable.{occurrences}
use Rattle.hy_space.specs.Space.{DropsUsers}
use Rattle.hy_space.proofs.users.drop_each.Given as goal

-- the frames so far have one user less each
abbrev pub invariant-loop-number : goal.invariant-loop-number
invariant-loop-number g l = DropsUsers l.initial.frames l.frames (λ f. occurrences f (take l.number-index l.numbers))
