-- The places of the warehouses that a command names.
use Rattle.std.specs.Prelude.{ℕ, List, filter}
use Rattle.std.specs.List.{range_with_len}
use Rattle.hy_commands.specs.declared.command.Command.{Command}
use Rattle.hy_commands.specs.Commands.{is_named_at}

-- those of the first warehouses, as many as `end` says, in rising order; that of the warehouse with number 1 is 0
abbrev pub places_before : Command → ℕ → List ℕ
places_before command end = filter (is_named_at command) (range_with_len 0 end)

-- those of the sixteen that there may be
abbrev pub places_of : Command → List ℕ
places_of command = places_before command 16
