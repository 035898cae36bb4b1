use Rattle.std.proofs.Common.{◌≡◌, take}
use Rattle.hy_cli.specs.CommandLine.{texts_of}
use Rattle.hy_scenarios.proofs.commands.as_texts.Given as goal

abbrev pub invariant-loop-word : goal.invariant-loop-word
invariant-loop-word l = texts_of l.texts.items ≡ texts_of (take l.word-index l.words)
