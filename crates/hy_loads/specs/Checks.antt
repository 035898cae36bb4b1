-- What testing a list may refuse.
use Rattle.std.specs.Prelude.{◌≡◌, ◌⊎◌, ℕ, List}
use Rattle.hy_schema.specs.declared.files.FileEnd.{FileEnd}
use Rattle.hy_schema.specs.declared.refusal.LoadFault.TheVariants as faults
use Rattle.hy_schema.specs.declared.refusal.Refusal.{Refusal}
use Rattle.hy_schema.specs.declared.refusal.Refusal.TheVariants as refusals
use Rattle.hy_rows.specs.declared.catalogue.Table.{Table}
use Rattle.hy_rows.specs.Tables.{Lists}
use Rattle.hy_schema.specs.declared.files.FileEnd.TheVariants as end
use Rattle.hy_rows.specs.declared.tables.PerTable.{PerTable}
use Rattle.hy_schema.specs.declared.refusal.LoadFault.{LoadFault}
use Rattle.hy_schema.specs.Loads.{AreCustomers, AreDistricts, AreItems, AreNewOrders, AreOrderLines, AreOrders, AreStock, AreWarehouses, HasFault, IsFaultOf}

-- the first fault of a list, or a refused growth
abbrev pub IsRowRefusal : {Row : Type 0} → Table → FileEnd → (ℕ → Row → Type 0) → Type 0 → List Row → Refusal → Type 0
IsRowRefusal table end right Whole rows refusal =
    (refusal ≡ refusals.NoMemory)
    ⊎ ((number : ℕ) × (refusal ≡ refusals.BadLoad (faults.Row table number)) × IsFaultOf end right Whole rows number)

-- the first fault of lists whose files were read so far, or a refused growth
abbrev pub IsRefusalOf : PerTable FileEnd → Lists → Refusal → Type 0
IsRefusalOf ends lists refusal =
    (refusal ≡ refusals.NoMemory)
    ⊎ ((fault : LoadFault) × (refusal ≡ refusals.BadLoad fault) × HasFault ends lists fault)

-- the files of the lists that never gain a row were read to their ends, and the lists are right
pub record AreBaseRight (ends : PerTable FileEnd) (lists : Lists) : Type 0 where
  pub warehouses_end : ends.warehouses ≡ end.Whole
  pub warehouses : AreWarehouses lists.tables
  pub districts_end : ends.districts ≡ end.Whole
  pub districts : AreDistricts lists.tables
  pub customers_end : ends.customers ≡ end.Whole
  pub customers : AreCustomers lists.tables
  pub items_end : ends.items ≡ end.Whole
  pub items : AreItems lists
  pub stock_end : ends.stock ≡ end.Whole
  pub stock : AreStock lists

-- and those of the orders
pub record AreOrdersRight (ends : PerTable FileEnd) (lists : Lists) : Type 0 where
  pub orders_end : ends.orders ≡ end.Whole
  pub orders : AreOrders lists.tables
  pub new_orders_end : ends.new_orders ≡ end.Whole
  pub new_orders : AreNewOrders lists.tables
  pub order_lines_end : ends.order_lines ≡ end.Whole
  pub order_lines : AreOrderLines lists
