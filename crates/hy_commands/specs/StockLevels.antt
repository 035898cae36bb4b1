-- Stock-Level (TPC-C clause 2.8.2.2): how many items of a district's last 20 orders are low in stock.
use Rattle.std.specs.Prelude.{ℕ, ◌-◌, nat_le, nat_lt, ◌==◌, ◌&&◌, Bool, List, [], filter, map}
use Rattle.std.specs.List.{list_any}
use Rattle.std.specs.Set.{distinct_count}
use Rattle.hy_rows.specs.declared.district.District.{District}
use Rattle.hy_rows.specs.declared.order_line.OrderLine.{OrderLine}
use Rattle.hy_rows.specs.declared.stock.Stock.{Stock}
use Rattle.hy_rows.specs.Finding.{first_or, is_district}
use Rattle.hy_rows.specs.Rows.{district_of}
use Rattle.hy_rows.specs.Tables.{Tables}
use Rattle.hy_schema.specs.Related.{lines_of_district}
use Rattle.hy_commands.specs.declared.command.StockLevel.{StockLevel}
use Rattle.hy_commands.specs.NewOrders.{is_stock}

-- whether a line belongs to one of the 20 orders before the next one
abbrev pub is_recent : ℕ → OrderLine → Bool
is_recent next_order row = nat_le (next_order - 20) row.order && nat_lt row.order next_order

-- whether a warehouse has less of an item than a threshold
abbrev pub is_low : ℕ → ℕ → List Stock → ℕ → Bool
is_low warehouse threshold stock item =
    list_any (λ row. is_stock warehouse item row && nat_lt row.quantity threshold) stock

-- the items of the lines of a district's last orders
abbrev pub recent_items : StockLevel → Tables → List ℕ
recent_items level tables =
    let row : District = first_or (district_of []) (is_district level.warehouse level.district) tables.districts in
    map (λ line. line.item)
    (filter (is_recent row.next_order) (lines_of_district level.warehouse level.district tables.order_lines))

-- how many different ones are low
abbrev pub low_items : StockLevel → Tables → ℕ
low_items level tables =
    distinct_count (λ one other. one == other)
    (filter (is_low level.warehouse level.threshold tables.stock) (recent_items level tables))
