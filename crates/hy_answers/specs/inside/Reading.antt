-- What a query names of its tables, and what was read of them.
use Rattle.std.specs.Prelude.{◌≡◌, ⊤, false, if◌then◌else◌, List, [], ◌∷◌, ◌++◌, length, map, true}
use Rattle.std.specs.List.{AllByRecursion, flat_map}
use Rattle.hy_columns.specs.Columns.{column_at, values_of}
use Rattle.hy_columns.specs.declared.values.ColumnValues.{ColumnValues}
use Rattle.hy_query.specs.declared.column.Column.{Column}
use Rattle.hy_query.specs.declared.query.Condition.{Condition}
use Rattle.hy_query.specs.declared.query.Operand.{Operand}
use Rattle.hy_query.specs.declared.query.Operand.TheVariants as operands
use Rattle.hy_query.specs.declared.query.SelectItem.{SelectItem}
use Rattle.hy_query.specs.declared.query.SelectItem.TheVariants as items
use Rattle.hy_query.specs.Language.{is_table}
use Rattle.hy_query.specs.Queries.{QueryState}
use Rattle.hy_query.specs.Rows.{Row}
use Rattle.hy_rows.specs.declared.catalogue.Table.{Table}
use Rattle.hy_rows.specs.declared.value.Value.{Value}
use Rattle.hy_answers.specs.declared.sources.Sources.{Sources}
use Rattle.hy_answers.specs.inside.Pieces.{AllRows}
use Rattle.hy_answers.specs.inside.Sources.{values_for}

-- the columns that are named by what a column is compared with, by a condition, and by an item
abbrev pub names_in_operand : Operand → List Column
names_in_operand (operands.Column column) = column ∷ []
names_in_operand (operands.Value value) = []

abbrev pub names_in_condition : Condition → List Column
names_in_condition condition = condition.left ∷ names_in_operand condition.right

abbrev pub names_in_item : SelectItem → List Column
names_in_item (items.Column column) = column ∷ []
names_in_item items.Count = []
names_in_item (items.Sum column) = column ∷ []
names_in_item (items.Min column) = column ∷ []
names_in_item (items.Max column) = column ∷ []

-- those that a query names
abbrev pub names_of : QueryState → List Column
names_of query =
    flat_map names_in_condition query.conditions ++ (query.groups ++ flat_map names_in_item query.items)

-- each column that isn't of the first table has the values that the lists have
abbrev pub AreLater : AllRows → Table → List Column → List ColumnValues → Type 0
AreLater lists first [] [] = ⊤
AreLater lists first (name ∷ names) (values ∷ later) =
    (is_table first name.table ≡ false → values_of values ≡ column_at name.place (lists name.table))
    × AreLater lists first names later
AreLater lists first names later = ⊥

-- and each that is has those of some rows
abbrev pub AreHere : List Row → Table → List Column → List ColumnValues → Type 0
AreHere rows first [] [] = ⊤
AreHere rows first (name ∷ names) (values ∷ here) =
    (is_table first name.table ≡ true → values_of values ≡ column_at name.place rows) × AreHere rows first names here
AreHere rows first names here = ⊥

-- the values of each column: of the first table those that were read here, and else those that were read before
abbrev pub chosen : Table → List Column → List ColumnValues → List ColumnValues → List (List Value)
chosen first (name ∷ names) (old ∷ later) (new ∷ here) =
    (if is_table first name.table then values_of new else values_of old) ∷ chosen first names later here
chosen first names later here = []

-- what was read of a query's tables is what the lists have
abbrev pub IsReadFrom : AllRows → QueryState → Sources → Type 0
IsReadFrom lists query sources =
    (sources.counts.items ≡ map (λ table. length (lists table)) query.tables)
    × AllByRecursion
    (λ column. values_for sources.columns.items column ≡ column_at column.place (lists column.table))
    (names_of query)
