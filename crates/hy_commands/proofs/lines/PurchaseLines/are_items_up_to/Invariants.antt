-- The lines that are left decide.
use Rattle.std.proofs.Common.{◌≡◌, drop}
use Rattle.std.specs.List.{list_all}
use Rattle.hy_rows.specs.Ranges.{is_between}
use Rattle.hy_commands.specs.declared.command.PurchaseLine.{PurchaseLine}
use Rattle.hy_commands.proofs.lines.PurchaseLines.are_items_up_to.Given as goal

abbrev pub invariant-loop-place : goal.invariant-loop-place
invariant-loop-place l = list_all (λ (line : PurchaseLine). is_between 1 l.last line.item) (drop l.place l.self)
    ≡ list_all (λ (line : PurchaseLine). is_between 1 l.last line.item) l.self
