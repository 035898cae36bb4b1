-- What holds of each table of the catalogue.
use Rattle.std.proofs.Common.{◌≤◌, ◌<◌, length, lit≤, lit<}
use Rattle.hy_rows.specs.Catalogue.{columns_of, max_columns, place_of}
use Rattle.hy_rows.specs.Columns.{row_width}
use Rattle.hy_rows.specs.declared.catalogue.TheConstants.{TABLES}
use Rattle.hy_rows.specs.declared.catalogue.Table.{Table}
use Rattle.hy_rows.specs.declared.catalogue.Table.TheVariants as tables

-- a table has few columns
pub columns-few : (table : Table) → length (columns_of table) ≤ max_columns
columns-few table = elim table as (λ table. length (columns_of table) ≤ max_columns) [ tables.Warehouse ↦ lit≤ tt | _ ↦ lit≤ tt ]

-- and one of as many places as there are tables
pub place-few : (table : Table) → place_of table < TABLES
place-few table = elim table as (λ table. place_of table < TABLES) [ tables.Warehouse ↦ lit< tt | _ ↦ lit< tt ]

-- a row has few bytes
pub row-few : (table : Table) → row_width (columns_of table) < 1_000
row-few table = elim table as (λ table. row_width (columns_of table) < 1_000) [ tables.Warehouse ↦ lit< tt | _ ↦ lit< tt ]
