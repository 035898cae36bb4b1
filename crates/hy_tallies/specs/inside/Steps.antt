-- What one line more changes.
use Rattle.std.specs.Prelude.{ℕ, zero, suc, ◌+ℤ◌, Bool, List, [], ◌∷◌, ◌++◌, slice_index}
use Rattle.hy_query.specs.Meaning.{greater, lesser, number_in, wrapped}
use Rattle.hy_query.specs.Rows.{Row}
use Rattle.hy_rows.specs.Rows.{value_at}
use Rattle.hy_rows.specs.declared.value.Value.{Value}
use Rattle.hy_rows.specs.declared.value.Value.TheVariants.{Whole}
use Rattle.hy_tallies.specs.declared.aggregate.Aggregate.{Aggregate}
use Rattle.hy_tallies.specs.declared.aggregate.Aggregate.TheVariants as aggregates
use Rattle.hy_tallies.specs.Lines.{Line}
use Rattle.hy_tallies.specs.Tallies.{TalliesState, aggregated}
use Rattle.hy_tallies.specs.declared.groups.Groups.{Groups}
use Rattle.hy_tallies.specs.declared.noting.Extreme.{Extreme}
use Rattle.hy_tallies.specs.declared.noting.Extreme.TheVariants as extremes

-- what is answered of a group with a value more
abbrev pub more_of : Aggregate → Value → Value → Value
more_of aggregates.First one value = one
more_of aggregates.Sum one value = Whole (wrapped (number_in one +ℤ number_in value))
more_of aggregates.Least one value = lesser one value
more_of aggregates.Greatest one value = greater one value

-- the aggregate that asks for the best of some values
abbrev pub aggregate_of : Extreme → Aggregate
aggregate_of extremes.Least = aggregates.Least
aggregate_of extremes.Greatest = aggregates.Greatest

-- what is answered of each group, where the one with a number has a value more, or is a new one
abbrev pub noted : Aggregate → Row → ℕ → Value → Row
noted aggregate [] number value = aggregated aggregate (value ∷ []) ∷ []
noted aggregate (one ∷ later) zero value = more_of aggregate one value ∷ later
noted aggregate (one ∷ later) (suc number) value = one ∷ noted aggregate later number value

-- the same with the values of the first lines, whose groups have these numbers
abbrev pub noted_upto : Aggregate → Row → List ℕ → Row → ℕ → Row
noted_upto aggregate column numbers values zero = column
noted_upto aggregate column numbers values (suc line) =
    noted aggregate (noted_upto aggregate column numbers values line) (slice_index numbers line) (value_at values line)

-- the same for each column
abbrev pub noted_all : List Aggregate → List Row → List ℕ → List Row → ℕ → List Row
noted_all [] columns numbers values count = columns
noted_all (aggregate ∷ aggregates) [] numbers values count = []
noted_all (aggregate ∷ aggregates) (column ∷ columns) numbers [] count = column ∷ columns
noted_all (aggregate ∷ aggregates) (column ∷ columns) numbers (one ∷ values) count =
    noted_upto aggregate column numbers one count ∷ noted_all aggregates columns numbers values count

-- groups with a line more in the one with a number, or in a new one
abbrev pub with_line : List (List Line) → ℕ → Line → List (List Line)
with_line [] number line = (line ∷ []) ∷ []
with_line (group ∷ groups) zero line = (group ++ line ∷ []) ∷ groups
with_line (group ∷ groups) (suc number) line = group ∷ with_line groups number line

-- with the first lines
abbrev pub with_lines : List (List Line) → List ℕ → (ℕ → Line) → ℕ → List (List Line)
with_lines groups numbers line_of zero = groups
with_lines groups numbers line_of (suc count) =
    with_line (with_lines groups numbers line_of count) (slice_index numbers count) (line_of count)

-- ---- all that is kept

abbrev pub state_of : Bool → List Aggregate → List Row → Groups → TalliesState
state_of alone aggregates columns groups = record {
  alone = alone;
  aggregates = aggregates;
  keys = groups.keys.items;
  columns = columns;
  count = groups.count;
  room = groups.room;
  buckets = groups.buckets;
}
