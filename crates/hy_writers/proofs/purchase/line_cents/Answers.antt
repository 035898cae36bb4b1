use Rattle.std.proofs.Common.{◌≤◌}
use Rattle.hy_rows.specs.declared.item.Item.{Item}
use Rattle.hy_schema.specs.Related.{is_item}
use Rattle.hy_commands.proofs.ListLaws.{All-find}
use Rattle.hy_writers.proofs.purchase.line_cents.Goals as goal

-- src/purchase.rt:322:23
pub cents_of-requires-clause-price : goal.cents_of-requires-clause-price
cents_of-requires-clause-price c =
    (All-find (λ (row : Item). (row.id ≤ 100_000) × (row.price ≤ 1_000_000)) (is_item c.args.line.now.item)
    c.args.layout.now.load.items c.in-Some.item.now c.requires.items c.in-Some.ensures.item).1
