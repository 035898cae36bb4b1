-- What never changes of a warehouse: the load that it began from, and the places of the rows of CUSTOMER and STOCK, which
-- no transaction adds, takes away or moves.
use Rattle.std.specs.Prelude.{◌≡◌, ℕ, List, MatchOption, None, Option, map, Some, slice_get}
use Rattle.hy_rows.specs.declared.customer.Customer.{Customer}
use Rattle.hy_rows.specs.declared.stock.Stock.{Stock}
use Rattle.hy_rows.specs.Tables.{Lists, Tables, of_warehouse}
use Rattle.hy_schema.specs.Keys.{customer_key}
use Rattle.hy_commands.specs.declared.command.Who.{Who}
use Rattle.hy_commands.specs.Customers.{customer_meant, identity_of}
use Rattle.hy_commands.specs.Invariant.{stock_key}

-- a warehouse of a load
pub record LayoutState : Type 0 where
  pub load : Lists
  pub warehouse : ℕ

-- the rows that it began from
abbrev pub own_rows : LayoutState → Tables
own_rows layout = of_warehouse layout.warehouse layout.load.tables

-- each customer and each row of STOCK stands where it stood
pub record KeepsPlaces (loaded tables : Tables) : Type 0 where
  pub customers : map identity_of tables.customers ≡ map identity_of loaded.customers
  pub stock : map stock_key tables.stock ≡ map stock_key loaded.stock

-- the customer of a district who is meant stands at a place
pub record IsMeantAt (warehouse district : ℕ) (who : Who) (customers : List Customer) (place : ℕ) : Type 0 where
  pub row : Customer
  pub here : slice_get customers place ≡ Some row
  pub meant : customer_meant warehouse district who customers ≡ Some row
  pub key : customer_key row ≡ (warehouse, district, row.id)

-- in rows that keep the places of a layout, the customer of a district who is meant stands at this place; with none,
-- there is no such customer
abbrev pub IsPlaceOf : LayoutState → ℕ → Who → Option ℕ → Type 0
IsPlaceOf layout district who place = (tables : Tables) → KeepsPlaces (own_rows layout) tables
    → MatchOption place (customer_meant layout.warehouse district who tables.customers ≡ None)
    (IsMeantAt layout.warehouse district who tables.customers)

-- the stock of an item stands at a place
pub record IsStockAt (warehouse item : ℕ) (stock : List Stock) (place : ℕ) : Type 0 where
  pub row : Stock
  pub here : slice_get stock place ≡ Some row
  pub key : stock_key row ≡ (warehouse, item)
