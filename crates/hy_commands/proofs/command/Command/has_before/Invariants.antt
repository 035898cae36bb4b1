-- It isn't among those before.
use Rattle.std.proofs.Common.{◌≡◌, ◌==◌, false, take}
use Rattle.std.specs.List.{list_any}
use Rattle.hy_commands.specs.inside.Named.{numbers_in}
use Rattle.hy_commands.proofs.command.Command.has_before.Given as goal

abbrev pub invariant-loop-before : goal.invariant-loop-before
invariant-loop-before l = list_any (λ other. other == l.number) (take l.before (numbers_in l.self)) ≡ false
