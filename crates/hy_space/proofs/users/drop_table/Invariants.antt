use Rattle.std.proofs.Common.{take}
use Rattle.hy_space.specs.Space.{times}
use Rattle.hy_space.specs.Space.{DropsUsers}
use Rattle.hy_space.proofs.users.drop_table.Given as goal

-- the frames of the segments so far have one user less each
abbrev pub invariant-loop-segment : goal.invariant-loop-segment
invariant-loop-segment g l = DropsUsers l.initial.frames l.frames (λ f. times f (take l.segment-index l.table))
