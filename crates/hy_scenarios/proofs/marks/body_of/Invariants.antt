use Rattle.std.proofs.Common.{◌≡◌, ◌++◌, drop, take}
use Rattle.hy_cli.specs.CommandLine.{texts_of}
use Rattle.hy_scenarios.specs.Marks.{body_of}
use Rattle.hy_scenarios.proofs.marks.body_of.Given as goal

abbrev pub invariant-loop-place : goal.invariant-loop-place
invariant-loop-place l = texts_of (take l.place l.later) ++ body_of (texts_of (drop l.place l.later)) ≡ body_of (texts_of l.later)
