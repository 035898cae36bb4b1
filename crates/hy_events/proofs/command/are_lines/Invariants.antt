use Rattle.std.proofs.Common.{◌≡◌, is_some, length}
use Rattle.hy_events.specs.Events.{each_line}
use Rattle.hy_events.proofs.command.are_lines.Given as goal

abbrev pub invariant-loop-word : goal.invariant-loop-word
invariant-loop-word l = is_some (each_line l.initial.given) ≡ is_some (each_line l.given)

abbrev pub decreases-loop-word : goal.decreases-loop-word
decreases-loop-word l = length l.given
