-- What an outline says of a query that is being read.
use Rattle.std.specs.Prelude.{◌≡◌, ◌-◌, ◌^◌, ◌==◌, not, min, List, length, IsSome}
use Rattle.std.specs.List.{list_any}
use Rattle.hy_rows.specs.declared.catalogue.Table.{Table}
use Rattle.hy_query.specs.declared.column.Column.{Column}
use Rattle.hy_query.specs.declared.outline.Outline.{Outline}
use Rattle.hy_query.specs.declared.query.SelectItem.{SelectItem}
use Rattle.hy_query.specs.Columns.{kind_of}
use Rattle.hy_query.specs.Language.{is_column, is_plain}
use Rattle.hy_query.specs.Queries.{QueryState}
use Rattle.hy_query.specs.inside.ColumnSets.{has_column}

-- an outline says this of the tables, the groups and the items that were read
pub record Outlines (outline : Outline) (its_tables : List Table) (its_groups : List Column)
    (its_items : List SelectItem) : Type 0 where
  pub tables : outline.tables ≡ its_tables
  pub groups : (column : Column) → IsSome (kind_of column)
      → has_column outline.groups column ≡ list_any (is_column column) its_groups
  pub has_groups : outline.has_groups ≡ not (length its_groups == 0)
  pub item_count : outline.item_count ≡ min (length its_items) (2 ^ 64 - 1)
  pub has_plain : outline.has_plain ≡ list_any is_plain its_items
  pub has_aggregates : outline.has_aggregates ≡ list_any (λ item. not (is_plain item)) its_items

-- an outline is that of a query
abbrev pub IsOutline : Outline → QueryState → Type 0
IsOutline outline query = Outlines outline query.tables query.groups query.items
