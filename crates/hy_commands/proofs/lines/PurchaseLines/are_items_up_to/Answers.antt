-- A line whose item is behind the last decides, and another leaves it to the others.
use Rattle.std.proofs.Common.{sym, ◌∙◌}
use Rattle.hy_rows.specs.Ranges.{is_between}
use Rattle.hy_commands.specs.declared.command.PurchaseLine.{PurchaseLine}
use Rattle.hy_commands.proofs.LineLaws.{all-failed, all-passed}
use Rattle.hy_commands.proofs.lines.PurchaseLines.are_items_up_to.Goals as goal

pub returns-then-not-is_item_up_to : goal.returns-then-not-is_item_up_to
returns-then-not-is_item_up_to c =
    all-failed (λ (line : PurchaseLine). is_between 1 c.args.last line.item) c.args.self.now c.loop-place.place
    c.line.result c.line.ensures _ c.loop-place.invariant
    (sym c.is_item_up_to.ensures ∙ c.if-not-is_item_up_to.true)

pub loop-place-preserved : goal.loop-place-preserved
loop-place-preserved c =
    all-passed (λ (line : PurchaseLine). is_between 1 c.args.last line.item) c.args.self.now c.loop-place.place
    c.line.result c.line.ensures _ c.loop-place.invariant
    (sym c.is_item_up_to.ensures ∙ c.if-not-is_item_up_to.false)
