-- The values of a column, one for each row of its table.
use Rattle.std.specs.Prelude.{ℕ, pos, List, map}
use Rattle.hy_columns.specs.declared.values.ColumnValues.{ColumnValues}
use Rattle.hy_columns.specs.declared.values.ColumnValues.TheVariants as columns
use Rattle.hy_rows.specs.Rows.{value_at}
use Rattle.hy_rows.specs.declared.value.Value.{Value}
use Rattle.hy_rows.specs.declared.value.Value.TheVariants.{Text, Whole}
use Rattle.hy_query.specs.Rows.{Row}

-- the values that a column has
abbrev pub values_of : ColumnValues → List Value
values_of (columns.Numbers numbers) = map (λ number. Whole (pos number)) numbers.items
values_of (columns.Signed numbers) = map Whole numbers.items
values_of (columns.Texts texts) = map (λ text. Text text.now) texts.items
values_of (columns.CopiedTexts texts) = map Text texts

-- those at a place of some rows
abbrev pub column_at : ℕ → List Row → List Value
column_at place rows = map (λ row. value_at row place) rows
