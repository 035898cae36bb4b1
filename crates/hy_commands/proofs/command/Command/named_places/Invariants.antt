-- Those that stand before the place are marked.
use Rattle.std.proofs.Common.{◌≡◌, ◌==◌, ◌<◌, ◌-◌, suc, ℕ, length, take}
use Rattle.std.specs.List.{list_any}
use Rattle.hy_commands.specs.Commands.{is_marked}
use Rattle.hy_commands.specs.inside.Named.{numbers_in}
use Rattle.hy_commands.proofs.command.Command.named_places.Given as goal

abbrev pub invariant-loop-number : goal.invariant-loop-number
invariant-loop-number l = (at : ℕ) → at < 16
    → is_marked l.places at ≡ list_any (λ number. number == suc at) (take l.place (numbers_in l.self))

abbrev pub decreases-loop-number : goal.decreases-loop-number
decreases-loop-number l = length (numbers_in l.self) - l.place
