-- The rows of each table (TPC-C clause 1.2), as lists. A load is the lists of all its warehouses; a warehouse is its
-- own rows of each list, in their order.
use Rattle.std.specs.Prelude.{ℕ, ◌==◌, List, [], ◌∷◌, filter, length, map}
use Rattle.std.specs.List.{flat_map}
use Rattle.hy_rows.specs.Rows.{warehouse_values, district_values, customer_values, history_values, new_order_values, order_values, order_line_values, stock_values, item_values}
use Rattle.hy_rows.specs.declared.catalogue.Table.{Table}
use Rattle.hy_rows.specs.declared.catalogue.Table.TheVariants as tables
use Rattle.hy_rows.specs.declared.value.Value.{Value}
use Rattle.hy_rows.specs.declared.warehouse.Warehouse.{Warehouse}
use Rattle.hy_rows.specs.declared.district.District.{District}
use Rattle.hy_rows.specs.declared.customer.Customer.{Customer}
use Rattle.hy_rows.specs.declared.history.History.{History}
use Rattle.hy_rows.specs.declared.new_order.NewOrder.{NewOrder}
use Rattle.hy_rows.specs.declared.order.Order.{Order}
use Rattle.hy_rows.specs.declared.order_line.OrderLine.{OrderLine}
use Rattle.hy_rows.specs.declared.stock.Stock.{Stock}
use Rattle.hy_rows.specs.declared.item.Item.{Item}
use Rattle.hy_rows.specs.declared.tables.PerTable.{PerTable}

-- the rows of each table that lies on pages
pub record Tables : Type 0 where
  pub warehouses : List Warehouse
  pub districts : List District
  pub customers : List Customer
  pub history : List History
  pub new_orders : List NewOrder
  pub orders : List Order
  pub order_lines : List OrderLine
  pub stock : List Stock

-- the rows of all tables: those of ITEM lie on no pages
pub record Lists : Type 0 where
  pub items : List Item
  pub tables : Tables

-- no rows
abbrev pub no_rows : Tables
no_rows = record {
  warehouses = [];
  districts = [];
  customers = [];
  history = [];
  new_orders = [];
  orders = [];
  order_lines = [];
  stock = [];
}

-- the rows of one warehouse
abbrev pub of_warehouse : ℕ → Tables → Tables
of_warehouse number tables = record {
  warehouses = filter (λ row. row.id == number) tables.warehouses;
  districts = filter (λ row. row.warehouse == number) tables.districts;
  customers = filter (λ row. row.warehouse == number) tables.customers;
  history = filter (λ row. row.warehouse == number) tables.history;
  new_orders = filter (λ row. row.warehouse == number) tables.new_orders;
  orders = filter (λ row. row.warehouse == number) tables.orders;
  order_lines = filter (λ row. row.warehouse == number) tables.order_lines;
  stock = filter (λ row. row.warehouse == number) tables.stock;
}

-- the rows of several warehouses, those of each behind those of the one before
abbrev pub all_of : List Tables → Tables
all_of warehouses = record {
  warehouses = flat_map (λ tables. tables.warehouses) warehouses;
  districts = flat_map (λ tables. tables.districts) warehouses;
  customers = flat_map (λ tables. tables.customers) warehouses;
  history = flat_map (λ tables. tables.history) warehouses;
  new_orders = flat_map (λ tables. tables.new_orders) warehouses;
  orders = flat_map (λ tables. tables.orders) warehouses;
  order_lines = flat_map (λ tables. tables.order_lines) warehouses;
  stock = flat_map (λ tables. tables.stock) warehouses;
}

-- the same value for each table
abbrev pub same_for_all : {T : Type 0} → T → PerTable T
same_for_all value = record {
  warehouses = value;
  districts = value;
  customers = value;
  history = value;
  new_orders = value;
  orders = value;
  order_lines = value;
  stock = value;
  items = value;
}

-- how many rows each table has, by segment
abbrev pub row_counts : Tables → List ℕ
row_counts tables =
    length tables.warehouses ∷ length tables.districts ∷ length tables.customers ∷ length tables.history
    ∷ length tables.new_orders ∷ length tables.orders ∷ length tables.order_lines ∷ length tables.stock ∷ []

-- the rows of a table, each as its values, in the order of its list
abbrev pub values_of : Lists → Table → List (List Value)
values_of lists tables.Warehouse = map warehouse_values lists.tables.warehouses
values_of lists tables.District = map district_values lists.tables.districts
values_of lists tables.Customer = map customer_values lists.tables.customers
values_of lists tables.History = map history_values lists.tables.history
values_of lists tables.NewOrder = map new_order_values lists.tables.new_orders
values_of lists tables.Order = map order_values lists.tables.orders
values_of lists tables.OrderLine = map order_line_values lists.tables.order_lines
values_of lists tables.Stock = map stock_values lists.tables.stock
values_of lists tables.Item = map item_values lists.items
