-- Queries.
use Rattle.std.specs.Prelude.{◌≡◌, ◌≤◌, ◌==◌, false, List, [], ◌∷◌, length, Some, IsSome, All, ⊤}
use Rattle.std.specs.List.{IsAmong, list_any}
use Rattle.hy_rows.specs.Catalogue.{place_of}
use Rattle.hy_rows.specs.declared.catalogue.Table.{Table}
use Rattle.hy_query.specs.declared.column.Column.{Column}
use Rattle.hy_query.specs.declared.column.Kind.{Kind}
use Rattle.hy_query.specs.declared.column.Kind.TheVariants.{Text, Whole}
use Rattle.hy_query.specs.declared.query.Condition.{Condition}
use Rattle.hy_query.specs.declared.query.Operand.{Operand}
use Rattle.hy_query.specs.declared.query.Operand.TheVariants as operands
use Rattle.hy_query.specs.declared.query.SelectItem.{SelectItem}
use Rattle.hy_query.specs.declared.query.SelectItem.TheVariants as items
use Rattle.hy_query.specs.declared.query.SortKey.{SortKey}
use Rattle.hy_rows.specs.declared.value.Value.TheVariants as values
use Rattle.hy_query.specs.Columns.{kind_of}

-- `from` the tables, `where` the conditions hold, `group` by the columns, if there are any, `select` the items, `order` by
-- the keys
pub record QueryState : Type 0 where
  pub tables : List Table
  pub conditions : List Condition
  pub groups : List Column
  pub items : List SelectItem
  pub keys : List SortKey

abbrev pub no_query : QueryState
no_query = record { tables = []; conditions = []; groups = []; items = []; keys = [] }

-- a column with values of some kind, of one of the tables
abbrev pub IsColumn : List Table → Kind → Column → Type 0
IsColumn tables kind column = IsAmong tables column.table × (kind_of column ≡ Some kind)

-- a column of one of the tables
abbrev pub IsOneOf : List Table → Column → Type 0
IsOneOf tables column = IsAmong tables column.table × IsSome (kind_of column)

-- what a column may be compared with has the column's kind
abbrev pub IsOperand : List Table → Kind → Operand → Type 0
IsOperand tables kind (operands.Column column) = IsColumn tables kind column
IsOperand tables kind (operands.Value (values.Whole number)) = kind ≡ Whole
IsOperand tables kind (operands.Value (values.Text text)) = kind ≡ Text

abbrev pub IsCondition : List Table → Condition → Type 0
IsCondition tables condition =
    (kind : Kind) × IsColumn tables kind condition.left × IsOperand tables kind condition.right

-- sums are those of whole numbers
abbrev pub IsItem : List Table → SelectItem → Type 0
IsItem tables (items.Column column) = IsOneOf tables column
IsItem tables items.Count = ⊤
IsItem tables (items.Sum column) = IsColumn tables Whole column
IsItem tables (items.Min column) = IsOneOf tables column
IsItem tables (items.Max column) = IsOneOf tables column

-- no table stands twice among some
abbrev pub AreDifferent : List Table → Type 0
AreDifferent [] = ⊤
AreDifferent (table ∷ later) = (list_any (λ other. place_of table == place_of other) later ≡ false) × AreDifferent later

-- what holds of each query that a text says
pub record IsQuery (query : QueryState) : Type 0 where
  pub some_tables : 1 ≤ length query.tables
  pub few_tables : length query.tables ≤ 4
  pub different : AreDifferent query.tables
  pub conditions : All (IsCondition query.tables) query.conditions
  pub groups : All (IsOneOf query.tables) query.groups
  pub some_items : 1 ≤ length query.items
  pub items : All (IsItem query.tables) query.items
  pub keys : All (λ key. (1 ≤ key.place) × (key.place ≤ length query.items)) query.keys
