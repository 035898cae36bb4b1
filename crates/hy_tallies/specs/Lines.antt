-- Lines: what each row that was joined gives to an answer.
use Rattle.std.specs.Prelude.{ℕ, pos, List, map, replicate}
use Rattle.hy_columns.specs.Columns.{values_of}
use Rattle.hy_query.specs.Rows.{Row}
use Rattle.hy_rows.specs.Rows.{value_at}
use Rattle.hy_rows.specs.declared.value.Value.{Value}
use Rattle.hy_rows.specs.declared.value.Value.TheVariants.{Whole}
use Rattle.hy_tallies.specs.declared.line.LineColumn.{LineColumn}
use Rattle.hy_tallies.specs.declared.line.LineColumn.TheVariants as columns
use Rattle.hy_tallies.specs.Numbers.{upto}

-- the values by which it is grouped, and those of which something is answered
pub record Line : Type 0 where
  pub key : Row
  pub values : Row

-- the values that a column of some lines has
abbrev pub column_in : LineColumn → List Value
column_in (columns.Picked values places) = map (λ place. value_at (values_of values.now) place) places.now
column_in (columns.Ones count) = replicate count (Whole (pos 1))
column_in (columns.Kept values) = values.now

-- the values of some columns at a place
abbrev pub row_at : List Row → ℕ → Row
row_at columns place = map (λ values. value_at values place) columns

-- the line at a place, by columns of keys and columns of values, and so many lines
abbrev pub line_at : List Row → List Row → ℕ → Line
line_at keys values place = record { key = row_at keys place; values = row_at values place }

abbrev pub lines_of : List Row → List Row → ℕ → List Line
lines_of keys values count = map (line_at keys values) (upto count)
