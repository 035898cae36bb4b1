-- A line out of range decides, and one in range leaves it to the others.
use Rattle.std.proofs.Common.{sym, ◌∙◌}
use Rattle.hy_commands.specs.Commands.{is_line_in_range}
use Rattle.hy_commands.proofs.LineLaws.{all-failed, all-passed}
use Rattle.hy_batches.proofs.seen.SeenLines.are_in_range.Goals as goal

pub returns-then-not-is_line_in_range : goal.returns-then-not-is_line_in_range
returns-then-not-is_line_in_range c =
    all-failed is_line_in_range c.args.self.now c.loop-place.place c.line.result c.line.ensures _
    c.loop-place.invariant (sym c.is_line_in_range.ensures ∙ c.if-not-is_line_in_range.true)

pub loop-place-preserved : goal.loop-place-preserved
loop-place-preserved c =
    all-passed is_line_in_range c.args.self.now c.loop-place.place c.line.result c.line.ensures _
    c.loop-place.invariant (sym c.is_line_in_range.ensures ∙ c.if-not-is_line_in_range.false)
