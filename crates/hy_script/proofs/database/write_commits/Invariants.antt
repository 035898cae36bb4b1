use Rattle.std.proofs.Common.{take}
use Rattle.std.specs.List.{flat_map}
use Rattle.std.specs.Io.KnownBytes.{Appends}
use Rattle.hy_script.specs.Answers.{commits_text}
use Rattle.hy_script.proofs.database.write_commits.Given as goal

abbrev pub invariant-loop-part : goal.invariant-loop-part
invariant-loop-part g l =
    Appends (g.O.Output.contents l.initial.out) (g.O.Output.contents l.out)
    (flat_map commits_text (take l.part-index l.parts))
