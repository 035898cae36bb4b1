use Rattle.std.proofs.Common.{take}
use Rattle.std.specs.List.{flat_map}
use Rattle.std.specs.Io.KnownBytes.{Appends}
use Rattle.hy_script.specs.Answers.{kept_text}
use Rattle.hy_script.proofs.database.write_kept.Given as goal

abbrev pub invariant-loop-place : goal.invariant-loop-place
invariant-loop-place g l =
    Appends (g.O.Output.contents l.initial.out) (g.O.Output.contents l.out)
    (flat_map kept_text (take l.place l.fn.partitions))
