-- What holds of the rows of a warehouse between two slices: all that holds between two commands but the consistency
-- conditions, which a purchase without its lines breaks.
use Rattle.std.specs.Prelude.{ℕ, ◌≡◌, ◌<◌, ◌+◌, List, All}
use Rattle.hy_rows.specs.declared.item.Item.{Item}
use Rattle.hy_rows.specs.declared.order_line.OrderLine.{OrderLine}
use Rattle.hy_rows.specs.Tables.{Tables}
use Rattle.hy_schema.specs.Keys.{IsOneWarehouse}
use Rattle.hy_commands.specs.declared.command.Purchase.{Purchase}
use Rattle.hy_commands.specs.Invariant.{HasOwnOrders, HasOwnStock, IsBehindOrders}

-- the rows are those of one warehouse, and its orders and its stock are complete
pub record IsWholeWarehouse (items : List Item) (number : ℕ) (tables : Tables) : Type 0 where
  pub rows : IsOneWarehouse number tables
  pub orders : HasOwnOrders items number tables
  pub numbers : All (IsBehindOrders tables.orders) tables.districts
  pub stock : HasOwnStock items number tables

-- an order line isn't one of a purchase behind so many: of the order with its number in its district, only the first
-- lines are there
abbrev pub IsLineBefore : Purchase → ℕ → ℕ → OrderLine → Type 0
IsLineBefore order number lines row =
    row.district ≡ order.district → row.order ≡ number → row.number < lines + 1
