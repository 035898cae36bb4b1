use Rattle.std.proofs.Common.{take, map}
use Rattle.hy_space.proofs.UserLaws.{IsHeld}
use Rattle.hy_space.proofs.users.holds_of_table.Given as goal

-- the pages of the segments so far are held
abbrev pub invariant-loop-segment : goal.invariant-loop-segment
invariant-loop-segment g l = IsHeld l.initial.frames l.frames (map (λ segment. segment.items) l.holds.items) (take l.segment-index l.table)
