-- The lines so far are the same.
use Rattle.std.proofs.Common.{◌≡◌, take}
use Rattle.hy_commands.proofs.lines.PurchaseLines.are_same.Given as goal

abbrev pub invariant-loop-place : goal.invariant-loop-place
invariant-loop-place l = take l.place l.self ≡ take l.place l.other
