-- The nine files of a database: which texts are a load, and the texts that a load is written as. Their order is that of
-- `tables_by_file`.
use Rattle.std.specs.Prelude.{ℕ, suc, zero, List, [], map, Option, None, Some, get_or}
use Rattle.hy_rows.specs.declared.warehouse.Warehouse.{Warehouse}
use Rattle.hy_rows.specs.declared.district.District.{District}
use Rattle.hy_rows.specs.declared.customer.Customer.{Customer}
use Rattle.hy_rows.specs.declared.history.History.{History}
use Rattle.hy_rows.specs.declared.new_order.NewOrder.{NewOrder}
use Rattle.hy_rows.specs.declared.order.Order.{Order}
use Rattle.hy_rows.specs.declared.order_line.OrderLine.{OrderLine}
use Rattle.hy_rows.specs.declared.stock.Stock.{Stock}
use Rattle.hy_rows.specs.declared.item.Item.{Item}
use Rattle.hy_rows.specs.Catalogue.{tables_by_file}
use Rattle.hy_rows.specs.Rows.{customer_with, district_with, history_with, item_with, new_order_with, order_line_with, order_with, stock_with, warehouse_with}
use Rattle.hy_rows.specs.Tables.{Lists, values_of}
use Rattle.hy_rows.specs.declared.catalogue.Table.TheVariants as tables
use Rattle.hy_csv.specs.Texts.{Reading, table_reading, table_text}
use Rattle.hy_schema.specs.declared.files.FileEnd.{FileEnd}
use Rattle.hy_schema.specs.declared.files.FileEnd.TheVariants as end
use Rattle.hy_rows.specs.declared.tables.PerTable.{PerTable}

-- what each text says as rows of its table
pub record Readings : Type 0 where
  pub warehouses : Reading Warehouse
  pub districts : Reading District
  pub customers : Reading Customer
  pub items : Reading Item
  pub stock : Reading Stock
  pub orders : Reading Order
  pub new_orders : Reading NewOrder
  pub order_lines : Reading OrderLine
  pub history : Reading History

abbrev pub readings_of : List (List ℕ) → Readings
readings_of texts = record {
  warehouses = table_reading tables.Warehouse warehouse_with (get_or texts 0 []);
  districts = table_reading tables.District district_with (get_or texts 1 []);
  customers = table_reading tables.Customer customer_with (get_or texts 2 []);
  items = table_reading tables.Item item_with (get_or texts 3 []);
  stock = table_reading tables.Stock stock_with (get_or texts 4 []);
  orders = table_reading tables.Order order_with (get_or texts 5 []);
  new_orders = table_reading tables.NewOrder new_order_with (get_or texts 6 []);
  order_lines = table_reading tables.OrderLine order_line_with (get_or texts 7 []);
  history = table_reading tables.History history_with (get_or texts 8 []);
}

-- the rows that were read
abbrev pub lists_read : Readings → Lists
lists_read readings = record {
  items = readings.items.rows;
  tables = record {
    warehouses = readings.warehouses.rows;
    districts = readings.districts.rows;
    customers = readings.customers.rows;
    history = readings.history.rows;
    new_orders = readings.new_orders.rows;
    orders = readings.orders.rows;
    order_lines = readings.order_lines.rows;
    stock = readings.stock.rows;
  };
}

-- how far a text was read, by the number of the first record that is no row, where there is one
abbrev pub end_of : Option ℕ → FileEnd
end_of None = end.Whole
end_of (Some zero) = end.BadHeader
end_of (Some (suc number)) = end.BadRecord

abbrev pub ends_read : Readings → PerTable FileEnd
ends_read readings = record {
  warehouses = end_of readings.warehouses.unread;
  districts = end_of readings.districts.unread;
  customers = end_of readings.customers.unread;
  items = end_of readings.items.unread;
  stock = end_of readings.stock.unread;
  orders = end_of readings.orders.unread;
  new_orders = end_of readings.new_orders.unread;
  order_lines = end_of readings.order_lines.unread;
  history = end_of readings.history.unread;
}

-- the texts that lists are written as: one for each table, of its rows
abbrev pub texts_of : Lists → List (List ℕ)
texts_of lists = map (λ table. table_text table (λ row. row) (values_of lists table)) tables_by_file
