-- The rows of the tables, each as the list of its values, in the order of its table's columns.
use Rattle.std.specs.Prelude.{List}
use Rattle.hy_rows.specs.Tables.{Lists, values_of}
use Rattle.hy_rows.specs.declared.catalogue.Table.{Table}
use Rattle.hy_rows.specs.declared.value.Value.{Value}

-- a row of any table
abbrev pub Row : Type 0
Row = List Value

-- the rows of a table, in the order of its list
abbrev pub rows_of : Lists → Table → List Row
rows_of lists table = values_of lists table
