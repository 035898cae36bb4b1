-- No list so far goes on so.
use Rattle.std.proofs.Common.{ℕ, ◌<◌, suc}
use Rattle.hy_commands.specs.declared.command.Command.{Command}
use Rattle.hy_commands.specs.declared.edition.Edition.{Edition}
use Rattle.hy_sound.specs.Merges.{GoesOnAt}
use Rattle.hy_sound.proofs.merge.Merge.find_crossing.Given as goal

abbrev pub invariant-loop-place : goal.invariant-loop-place
invariant-loop-place l =
    (k : ℕ) (edition : Edition) (command : Command) → k < l.place → GoesOnAt l.self edition (suc l.last) command k → ⊥
