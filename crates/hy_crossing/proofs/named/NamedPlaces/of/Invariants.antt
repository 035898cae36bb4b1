use Rattle.std.proofs.Common.{◌≡◌, filter}
use Rattle.std.specs.List.{range_with_len}
use Rattle.hy_commands.specs.Commands.{is_named_at}
use Rattle.hy_crossing.proofs.named.NamedPlaces.of.Given as goal

-- the list has the places before this one
abbrev pub invariant-loop-place : goal.invariant-loop-place
invariant-loop-place l = l.list.items ≡ filter (is_named_at l.command) (range_with_len 0 l.place)
