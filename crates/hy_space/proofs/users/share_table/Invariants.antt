use Rattle.std.proofs.Common.{take}
use Rattle.hy_space.specs.Space.{times}
use Rattle.hy_space.specs.Space.{AddsUsers}
use Rattle.hy_space.proofs.users.share_table.Given as goal

-- the frames of the segments so far have one user more each
abbrev pub invariant-loop-segment : goal.invariant-loop-segment
invariant-loop-segment g l = AddsUsers l.initial.frames l.frames (λ f. times f (take l.segment-index l.table))
