-- What holds of the columns of each table.
use Rattle.std.proofs.Common.{◌≡◌, ◌^◌, ◌*◌, ◌-◌, ◌<◌, Bool, true, ◌&&◌, nat_lt, nat_le, length, refl, lit<}
use Rattle.std.specs.List.{list_all}
use Rattle.hy_rows.specs.Catalogue.{columns_of, names_of}
use Rattle.hy_rows.specs.Columns.{Domain, OneOf, Signed, Text, Unsigned, is_printable}
use Rattle.hy_rows.specs.declared.catalogue.Table.{Table}
use Rattle.hy_rows.specs.declared.catalogue.Table.TheVariants as tables
use Rattle.hy_csv.specs.Fields.{is_signed}
use Rattle.hy_csv.specs.inside.Names.{BeginsPlain}

-- whether a column's values have no more than 64 bits
abbrev pub is_narrow : Domain → Bool
is_narrow (Unsigned width low high) = nat_le width 8
is_narrow (Signed low high) = true
is_narrow (Text width) = true
is_narrow (OneOf width words) = true

pub columns-narrow : (table : Table) → list_all (λ column. is_narrow column.domain) (columns_of table) ≡ true
columns-narrow table =
    elim table as (λ table. list_all (λ column. is_narrow column.domain) (columns_of table) ≡ true)
    [ tables.Warehouse ↦ refl | _ ↦ refl ]

-- whether the values that a load may have fit a field
abbrev pub is_bounded : Domain → Bool
is_bounded (Unsigned width low high) = nat_lt high (2 ^ (8 * width))
is_bounded (Signed low high) = is_signed low && is_signed high
is_bounded (Text width) = true
is_bounded (OneOf width words) = list_all (λ word. nat_le (length word) width && is_printable word) words

pub columns-bounded : (table : Table) → list_all (λ column. is_bounded column.domain) (columns_of table) ≡ true
columns-bounded table =
    elim table as (λ table. list_all (λ column. is_bounded column.domain) (columns_of table) ≡ true)
    [ tables.Warehouse ↦ refl | _ ↦ refl ]

-- a table has more than one column
pub columns-many : (table : Table) → 1 < length (columns_of table)
columns-many table =
    elim table as (λ table. 1 < length (columns_of table)) [ tables.Warehouse ↦ lit< tt | _ ↦ lit< tt ]

pub names-many : (table : Table) → 1 < length (names_of table)
names-many table = elim table as (λ table. 1 < length (names_of table)) [ tables.Warehouse ↦ lit< tt | _ ↦ lit< tt ]

pub names-few : (table : Table) → length (names_of table) < 2 ^ 64 - 1
names-few table =
    elim table as (λ table. length (names_of table) < 2 ^ 64 - 1) [ tables.Warehouse ↦ lit< tt | _ ↦ lit< tt ]

-- and the names of its columns begin as no byte order mark does
pub names-begin : (table : Table) → BeginsPlain (names_of table)
names-begin table = elim table as (λ table. BeginsPlain (names_of table)) [ tables.Warehouse ↦ lit< tt | _ ↦ lit< tt ]
