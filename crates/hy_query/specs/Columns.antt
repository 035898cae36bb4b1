-- The columns of the tables, by the names that queries have for them: those of the catalogue, in small letters.
use Rattle.std.specs.Prelude.{ℕ, List, [], ◌∷◌, map, slice_get, Option, None, Some, option_map, bytes_eq, find, position}
use Rattle.std.specs.Char.{to_ascii_lowercase}
use Rattle.hy_rows.specs.Catalogue.{all_tables, columns_of, definition_of}
use Rattle.hy_rows.specs.Columns.{Column as ColumnDefinition, Domain, OneOf, Signed, Text, Unsigned}
use Rattle.hy_rows.specs.declared.catalogue.Table.{Table}
use Rattle.hy_query.specs.declared.column.Column.{Column}
use Rattle.hy_query.specs.declared.column.Kind.{Kind}
use Rattle.hy_query.specs.declared.column.Kind.TheVariants as kinds

-- what the values of a column are
abbrev pub kind_in : Domain → Kind
kind_in (Unsigned width low high) = kinds.Whole
kind_in (Signed low high) = kinds.Whole
kind_in (Text width) = kinds.Text
kind_in (OneOf width words) = kinds.Text

-- those of a column, where its table has one at this place
abbrev pub kind_of : Column → Option Kind
kind_of column =
    option_map (λ definition. kind_in definition.domain) (slice_get (columns_of column.table) column.place)

-- the table that a word stands for
abbrev pub table_named : List ℕ → Option Table
table_named word = find (λ table. bytes_eq word (definition_of table).word) all_tables

-- a name in small letters
abbrev pub lowered : List ℕ → List ℕ
lowered name = map to_ascii_lowercase name

-- the place of the first column with a name
abbrev pub place_named : List ℕ → List ColumnDefinition → Option ℕ
place_named word columns = position (λ column. bytes_eq word (lowered column.name)) columns

-- the column with a name, where one of these tables has it
abbrev pub first_of : {A : Type 0} → Option A → Option A → Option A
first_of None other = other
first_of (Some value) other = Some value

abbrev pub column_among : List Table → List ℕ → Option Column
column_among [] word = None
column_among (table ∷ later) word =
    first_of (option_map (λ place. record { table = table; place = place }) (place_named word (columns_of table)))
    (column_among later word)
