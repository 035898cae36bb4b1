-- The lines that are left decide.
use Rattle.std.proofs.Common.{◌≡◌, drop}
use Rattle.std.specs.List.{list_all}
use Rattle.hy_commands.specs.Commands.{is_line_in_range}
use Rattle.hy_batches.proofs.seen.SeenLines.are_in_range.Given as goal

abbrev pub invariant-loop-place : goal.invariant-loop-place
invariant-loop-place l = list_all is_line_in_range (drop l.place l.self) ≡ list_all is_line_in_range l.self
