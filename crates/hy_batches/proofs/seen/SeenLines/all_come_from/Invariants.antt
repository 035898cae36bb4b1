-- The lines that are left decide.
use Rattle.std.proofs.Common.{◌≡◌, ◌==◌, drop}
use Rattle.std.specs.List.{list_all}
use Rattle.hy_commands.specs.declared.command.PurchaseLine.{PurchaseLine}
use Rattle.hy_batches.proofs.seen.SeenLines.all_come_from.Given as goal

abbrev pub invariant-loop-place : goal.invariant-loop-place
invariant-loop-place l =
    list_all (λ (line : PurchaseLine). line.supply_warehouse == l.warehouse) (drop l.place l.self)
    ≡ list_all (λ (line : PurchaseLine). line.supply_warehouse == l.warehouse) l.self
