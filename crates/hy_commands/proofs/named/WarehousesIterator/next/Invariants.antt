-- Numbers that stood before are passed over, and those that are left stay.
use Rattle.std.proofs.Common.{◌≡◌, ◌-◌, length}
use Rattle.hy_commands.specs.inside.Named.{named_from, numbers_in}
use Rattle.hy_commands.proofs.named.WarehousesIterator.next.Given as goal

abbrev pub invariant-loop-number : goal.invariant-loop-number
invariant-loop-number l = named_from l.self-inside.command.now l.self-inside.place ≡ l.fn.self

abbrev pub decreases-loop-number : goal.decreases-loop-number
decreases-loop-number l = length (numbers_in l.self-inside.command.now) - l.self-inside.place
