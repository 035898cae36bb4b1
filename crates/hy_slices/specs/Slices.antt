-- A transaction in slices: what each of them does to the rows of its warehouse. Between two slices other work may be
-- done, as a fork; all slices of a command together do what an accepted command does (`hy_commands`, `Transactions`).
use Rattle.std.specs.Prelude.{ℕ, zero, suc, ◌+◌, ◌-◌, ◌==◌, ◌&&◌, Bool, true, if◌then◌else◌, Option, None, Some, List, [], ◌∷◌, ◌++◌, slice_get}
use Rattle.hy_rows.specs.declared.item.Item.{Item}
use Rattle.hy_rows.specs.Finding.{is_district, with_changed}
use Rattle.hy_rows.specs.Tables.{Tables}
use Rattle.hy_commands.specs.declared.command.Command.{Command}
use Rattle.hy_commands.specs.declared.command.Command.TheVariants as commands
use Rattle.hy_commands.specs.declared.command.Purchase.{Purchase}
use Rattle.hy_commands.specs.declared.command.PurchaseLine.{PurchaseLine}
use Rattle.hy_commands.specs.declared.edition.Edition.{Edition}
use Rattle.hy_commands.specs.Deliveries.{delivered_in}
use Rattle.hy_commands.specs.NewOrders.{has_item, line_row, new_order_row, order_number, order_row, sold_line, with_next_order}
use Rattle.hy_commands.specs.Payments.{paid_by, paid_in}
use Rattle.hy_commands.specs.Transactions.{payer}

-- ---- New-Order

-- the head of a purchase: the district's next number is taken, and the order is there without its lines
abbrev pub headed : Purchase → Tables → Tables
headed order tables =
    let number : ℕ = order_number order tables in
    record tables {
      districts = with_changed (is_district order.warehouse order.district) with_next_order tables.districts;
      orders = tables.orders ++ order_row order number ∷ [];
      new_orders = tables.new_orders ++ new_order_row order number ∷ [];
    }

-- one line of it, at a place counted from 1: its row is there, and its stock has fallen
abbrev pub lined : List Item → ℕ → Purchase → ℕ → ℕ → Tables → PurchaseLine → Tables
lined items warehouse order number place tables line = record tables {
  order_lines = tables.order_lines ++ line_row items order number place line ∷ [];
  stock =
      if line.supply_warehouse == warehouse then sold_line warehouse order tables.stock line else tables.stock;
}

-- the number of a purchase whose head is done
abbrev pub headed_number : Purchase → Tables → ℕ
headed_number order tables = order_number order tables - 1

-- the line behind so many, if there is one
abbrev pub line_behind : Purchase → ℕ → Option PurchaseLine
line_behind order lines = slice_get order.lines lines

abbrev pub with_line : List Item → ℕ → Purchase → ℕ → Tables → Option PurchaseLine → Tables
with_line items warehouse order place tables None = tables
with_line items warehouse order place tables (Some line) =
    lined items warehouse order (headed_number order tables) place tables line

-- ---- slices

-- what a command's next slice does at its warehouse, where so many are done
abbrev pub sliced : List Item → ℕ → Edition → Command → ℕ → Tables → Tables
sliced items warehouse edition (commands.NewOrder order) zero tables = headed order tables
sliced items warehouse edition (commands.NewOrder order) (suc done) tables =
    with_line items warehouse order (done + 1) tables (line_behind order done)
sliced items warehouse edition (commands.Payment payment) zero tables = paid_in payment (payer payment tables).id tables
sliced items warehouse edition (commands.Payment payment) (suc done) tables =
    paid_by edition payment (payer payment tables).id tables
sliced items warehouse edition (commands.OrderStatus status) done tables = tables
sliced items warehouse edition (commands.Delivery delivery) done tables = delivered_in delivery tables (done + 1)
sliced items warehouse edition (commands.StockLevel level) done tables = tables

-- the rows after the first slices
abbrev pub after_slices : List Item → ℕ → Edition → Command → ℕ → Tables → Tables
after_slices items warehouse edition command zero tables = tables
after_slices items warehouse edition command (suc done) tables =
    sliced items warehouse edition command done (after_slices items warehouse edition command done tables)

-- ---- items that aren't there

-- whether the item of a line is there, if there is a line
abbrev pub is_known : List Item → Option PurchaseLine → Bool
is_known items None = true
is_known items (Some line) = has_item items line

-- whether the item that the next slice asks for is there: the head of a purchase asks for none
abbrev pub has_item_at : List Item → Command → ℕ → Bool
has_item_at items (commands.NewOrder order) (suc done) = is_known items (line_behind order done)
has_item_at items command done = true

-- whether those that the first slices asked for are there
abbrev pub has_items_before : List Item → Command → ℕ → Bool
has_items_before items command zero = true
has_items_before items command (suc done) = has_items_before items command done && has_item_at items command done
