use Rattle.std.proofs.Common.{◌≡◌, length}
use Rattle.hy_events.specs.Events.{each_line}
use Rattle.hy_events.proofs.PurchaseLaws.{and_later}
use Rattle.hy_events.proofs.command.read_lines.Given as goal

abbrev pub invariant-loop-word : goal.invariant-loop-word
invariant-loop-word l = each_line l.initial.given ≡ and_later l.lines.items (each_line l.given)

abbrev pub decreases-loop-word : goal.decreases-loop-word
decreases-loop-word l = length l.given
