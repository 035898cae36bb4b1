use Rattle.std.proofs.Common.{◌≡◌, ◌++◌, length}
use Rattle.hy_cli.specs.CommandLine.{texts_of}
use Rattle.hy_scenarios.specs.Commands.{words_between, words_of}
use Rattle.hy_scenarios.proofs.commands.words_of.Given as goal

abbrev pub invariant-loop-part : goal.invariant-loop-part
invariant-loop-part l = texts_of l.words.items ++ words_between l.parts ≡ words_of l.line

abbrev pub decreases-loop-part : goal.decreases-loop-part
decreases-loop-part l = length l.parts
