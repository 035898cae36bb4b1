use Rattle.std.proofs.Common.{◌≡◌, map, take}
use Rattle.hy_conditions.specs.Delivered.{high_part}
use Rattle.hy_conditions.specs.Groups.{sum_at}
use Rattle.hy_conditions.specs.Keys.{customer_of_order, key_of_order, same_order}
use Rattle.hy_conditions.proofs.customers.high_entries.Given as goal

-- the entries of the orders so far
abbrev pub invariant-loop-row : goal.invariant-loop-row
invariant-loop-row l = l.entries.items
    ≡ map (λ row. (customer_of_order row, high_part (sum_at same_order l.delivered (key_of_order row))))
    (take l.row-index l.orders)
