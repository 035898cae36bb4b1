use Rattle.std.proofs.Common.{take}
use Rattle.hy_frames.specs.FrameTable.{occurrences}
use Rattle.hy_space.specs.Space.{AddsUsers}
use Rattle.hy_space.proofs.users.share_each.Given as goal

-- the frames so far have one user more each
abbrev pub invariant-loop-number : goal.invariant-loop-number
invariant-loop-number g l = AddsUsers l.initial.frames l.frames (λ f. occurrences f (take l.number-index l.numbers))
