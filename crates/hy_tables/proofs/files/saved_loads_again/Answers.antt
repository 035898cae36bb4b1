use Rattle.std.proofs.Common.{List, length}
use Rattle.hy_rows.specs.Catalogue.{columns_of}
use Rattle.hy_rows.specs.Rows.{customer_values, customer_with, district_values, district_with, history_values, history_with, item_values, item_with, new_order_values, new_order_with, order_line_values, order_line_with, order_values, order_with, stock_values, stock_with, warehouse_values, warehouse_with}
use Rattle.hy_rows.specs.declared.catalogue.Table.{Table}
use Rattle.hy_rows.specs.declared.catalogue.Table.TheVariants as tables
use Rattle.hy_rows.specs.declared.value.Value.{Value}
use Rattle.hy_csv.specs.Fields.{AllFitFields}
use Rattle.hy_csv.proofs.InRangeLaws.{row-fits}
use Rattle.hy_schema.specs.Loads.{IsCustomerAt, IsDistrictAt, IsHistoryAt, IsItemAt, IsNewOrderAt, IsOrderAt, IsOrderLineAt, IsStockAt, IsWarehouseAt}
use Rattle.hy_tables.proofs.FilesLaws.{All-each, AllReadBack, ends-read_back, lists-read_back, read_back-sound, reads-back}
use Rattle.hy_tables.proofs.files.saved_loads_again.Goals as goal

-- the values of a row fit its fields
abbrev Fits : {Row : Type 0} → Table → (Row → List Value) → Row → Type 0
Fits table values_of row = AllFitFields (columns_of table) (values_of row)

-- each text is read again, since the rows are in range
back : (c : goal.After-reads_back-9) → AllReadBack c.args.load.now
back c =
    let lists = c.args.load.now in
    let held = lists.tables in
    let count = length held.warehouses in
    record {
      warehouses =
          reads-back tables.Warehouse warehouse_values warehouse_with held.warehouses ((rw c.list.ensures at c.reads_back.ensures)
          (All-each IsWarehouseAt (Fits tables.Warehouse warehouse_values)
          (λ place row right. row-fits tables.Warehouse (warehouse_values row) right.0) held.warehouses c.sound.ensures.warehouses.each));
      districts =
          reads-back tables.District district_values district_with held.districts ((rw c.list-2.ensures at c.reads_back-2.ensures)
          (All-each (IsDistrictAt count) (Fits tables.District district_values)
          (λ place row right. row-fits tables.District (district_values row) right.0) held.districts c.sound.ensures.districts.each));
      customers =
          reads-back tables.Customer customer_values customer_with held.customers ((rw c.list-3.ensures at c.reads_back-3.ensures)
          (All-each (IsCustomerAt count held.customers) (Fits tables.Customer customer_values)
          (λ place row right. row-fits tables.Customer (customer_values row) right.0) held.customers c.sound.ensures.customers.each));
      items =
          reads-back tables.Item item_values item_with lists.items ((rw c.list-4.ensures at c.reads_back-4.ensures)
          (All-each IsItemAt (Fits tables.Item item_values)
          (λ place row right. row-fits tables.Item (item_values row) right.0) lists.items c.sound.ensures.items.each));
      stock =
          reads-back tables.Stock stock_values stock_with held.stock ((rw c.list-5.ensures at c.reads_back-5.ensures)
          (All-each (IsStockAt count (length lists.items)) (Fits tables.Stock stock_values)
          (λ place row right. row-fits tables.Stock (stock_values row) right.0) held.stock c.sound.ensures.stock.each));
      orders =
          reads-back tables.Order order_values order_with held.orders ((rw c.list-6.ensures at c.reads_back-6.ensures)
          (All-each (IsOrderAt held.districts held.customers held.orders) (Fits tables.Order order_values)
          (λ place row right. row-fits tables.Order (order_values row) right.0) held.orders c.sound.ensures.orders.each));
      new_orders =
          reads-back tables.NewOrder new_order_values new_order_with held.new_orders ((rw c.list-7.ensures at c.reads_back-7.ensures)
          (All-each (IsNewOrderAt held.orders held.new_orders) (Fits tables.NewOrder new_order_values)
          (λ place row right. row-fits tables.NewOrder (new_order_values row) right.0) held.new_orders c.sound.ensures.new_orders.each));
      order_lines =
          reads-back tables.OrderLine order_line_values order_line_with held.order_lines ((rw c.list-8.ensures at c.reads_back-8.ensures)
          (All-each (IsOrderLineAt held.warehouses lists.items held.orders held.order_lines) (Fits tables.OrderLine order_line_values)
          (λ place row right. row-fits tables.OrderLine (order_line_values row) right.0) held.order_lines c.sound.ensures.order_lines.each));
      history =
          reads-back tables.History history_values history_with held.history ((rw c.list-9.ensures at c.reads_back-9.ensures)
          (All-each (IsHistoryAt held.districts held.customers) (Fits tables.History history_values)
          (λ place row right. row-fits tables.History (history_values row) right.0) held.history c.sound.ensures.history.each));
    }

pub returns-clause-rows : goal.returns-clause-rows
returns-clause-rows c = lists-read_back c.args.load.now (back c)

pub returns-clause-whole : goal.returns-clause-whole
returns-clause-whole c = ends-read_back c.args.load.now (back c)

pub returns-clause-sound : goal.returns-clause-sound
returns-clause-sound c = read_back-sound c.args.load.now c.sound.ensures (back c)
