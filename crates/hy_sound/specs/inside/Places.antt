-- The layouts of the warehouses of a load, and the places of its districts.
use Rattle.std.specs.Prelude.{◌≡◌, ℕ, suc, ◌+◌, ◌*◌, Bool, List, length, slice_get, IfSome}
use Rattle.hy_rows.specs.Tables.{Lists}
use Rattle.hy_rows.specs.declared.customer.Customer.{Customer}
use Rattle.hy_commands.specs.declared.command.Command.{Command}
use Rattle.hy_commands.specs.Commands.{customer_home_of}
use Rattle.hy_commands.specs.Parts.{database_of, rows_of}
use Rattle.hy_commands.specs.Transactions.{has_customer}
use Rattle.hy_layout.specs.Layout.{LayoutState}

-- one for each warehouse, in order
pub record AreLayouts (lists : Lists) (layouts : List LayoutState) : Type 0 where
  pub count : length layouts ≡ length lists.tables.warehouses
  pub each : (place : ℕ) → IfSome (slice_get layouts place) (λ layout.
      layout ≡ record { load = lists; warehouse = suc place })

-- whether the customer whom a command names is there
abbrev pub knows_customer : Lists → Command → Bool
knows_customer lists command = has_customer command (rows_of (customer_home_of command) (database_of lists))

-- where a district stands among those of all warehouses, of which none has 256; and where that of a customer does
abbrev pub district_place : ℕ → ℕ → ℕ
district_place warehouse district = warehouse * 256 + district

abbrev pub stands_at : Customer → ℕ
stands_at row = district_place row.warehouse row.district
