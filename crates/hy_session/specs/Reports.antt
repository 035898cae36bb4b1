-- What a report says of the warehouses of a database, and which condition it breaks.
use Rattle.std.specs.Prelude.{ℕ, ◌==◌, List, Option, filter, length, map}
use Rattle.hy_rows.specs.Tables.{Tables}
use Rattle.hy_rows.specs.declared.new_order.NewOrder.{NewOrder}
use Rattle.hy_rows.specs.declared.warehouse.Warehouse.{Warehouse}
use Rattle.hy_schema.specs.Conditions.{first_broken}
use Rattle.hy_forks.specs.Snapshots.{SnapshotState}
use Rattle.hy_session.specs.Snapshots.{lists_of_all}
use Rattle.hy_session.specs.declared.session.WarehouseReport.{WarehouseReport}

-- a warehouse's number, its W_YTD, and how many rows of NEW-ORDER are its own
abbrev pub report_line : List NewOrder → Warehouse → WarehouseReport
report_line new_orders row = record {
  warehouse = row.id;
  ytd = row.ytd;
  undelivered = length (filter (λ new. new.warehouse == row.id) new_orders);
}

-- a line for each row of WAREHOUSE
abbrev pub report_of : Tables → List WarehouseReport
report_of tables = map (report_line tables.new_orders) tables.warehouses

-- the first of the consistency conditions that the rows of snapshots with pages of a size break
unfoldable pub broken_condition : ℕ → List SnapshotState → Option ℕ
broken_condition page_size snapshots = first_broken (lists_of_all page_size snapshots).tables
