-- A load is sound, and each commit keeps it so.
use Rattle.hy_commands.proofs.Kept.{sound-rows}
use Rattle.hy_commands.proofs.theorem.conditions_are_kept.Goals as goal

pub returns : goal.returns
returns c = sound-rows
