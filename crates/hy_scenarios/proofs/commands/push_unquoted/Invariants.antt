use Rattle.std.proofs.Common.{◌≡◌, ◌++◌, ◌==◌, filter, length, not}
use Rattle.hy_cli.specs.CommandLine.{texts_of}
use Rattle.hy_scenarios.specs.Commands.{unquoted_words}
use Rattle.hy_scenarios.proofs.commands.push_unquoted.Given as goal

abbrev pub invariant-loop-word : goal.invariant-loop-word
invariant-loop-word l = texts_of l.words.items ++ filter (λ word. not (length word == 0)) l.rest
    ≡ texts_of l.fn.words.items ++ unquoted_words l.part

abbrev pub decreases-loop-word : goal.decreases-loop-word
decreases-loop-word l = length l.rest
