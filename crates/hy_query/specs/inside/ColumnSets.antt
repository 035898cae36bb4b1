-- Sets of columns as flags: those of each table, by the places of its columns.
use Rattle.std.specs.Prelude.{Bool, false, List, slice_index_or}
use Rattle.hy_rows.specs.Catalogue.{place_of}
use Rattle.hy_rows.specs.Spelling.{list_at}
use Rattle.hy_query.specs.declared.column.Column.{Column}

-- whether a set has a column
abbrev pub has_column : List (List Bool) → Column → Bool
has_column set column = slice_index_or (list_at set (place_of column.table)) column.place false
