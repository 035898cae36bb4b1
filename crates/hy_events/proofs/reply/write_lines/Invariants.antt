use Rattle.std.proofs.Common.{take}
use Rattle.std.specs.List.{flat_map}
use Rattle.std.specs.Io.KnownBytes.{Appends}
use Rattle.hy_events.specs.Replies.{line_text}
use Rattle.hy_events.proofs.reply.write_lines.Given as goal

abbrev pub invariant-loop-line : goal.invariant-loop-line
invariant-loop-line g l =
    Appends (g.O.Output.contents l.initial.out) (g.O.Output.contents l.out) (flat_map line_text (take l.line-index l.lines))
