use Rattle.std.proofs.Common.{Bool, drop}
use Rattle.hy_cli.specs.CommandLine.{texts_of}
use Rattle.hy_files.specs.Files.{no_files}
use Rattle.hy_files.specs.MemoryFiles.{files_on}
use Rattle.hy_scenarios.specs.Marks.{blocks_of}
use Rattle.hy_scenarios.specs.Scenarios.{AreDone}
use Rattle.hy_scenarios.proofs.scenario.run_steps.Given as goal

abbrev pub invariant-loop-place : goal.invariant-loop-place
invariant-loop-place g l = (holds : Bool) → AreDone (blocks_of (texts_of (drop l.place l.steps))) (files_on l.stored) holds
    → AreDone (blocks_of (texts_of l.steps)) no_files holds
