-- What is answered of lines in groups.
use Rattle.std.specs.Prelude.{◌≡◌, ℕ, suc, Bool, false, if◌then◌else◌, List, [], ◌∷◌, filter, length, map}
use Rattle.std.specs.List.{AllByRecursion}
use Rattle.hy_buckets.specs.Buckets.{BucketsState}
use Rattle.hy_query.specs.Meaning.{are_equal, best_of, firsts, greater, lesser, sum_of, wrapped}
use Rattle.hy_query.specs.Rows.{Row}
use Rattle.hy_rows.specs.Rows.{value_at}
use Rattle.hy_rows.specs.declared.value.Value.{Value}
use Rattle.hy_rows.specs.declared.value.Value.TheVariants.{Whole}
use Rattle.hy_tallies.specs.declared.aggregate.Aggregate.{Aggregate}
use Rattle.hy_tallies.specs.declared.aggregate.Aggregate.TheVariants as aggregates
use Rattle.hy_tallies.specs.Lines.{Line, row_at}
use Rattle.hy_tallies.specs.Numbers.{upto}
use Rattle.hy_tallies.specs.inside.Keys.{AreFound}

-- what is answered of the values that the lines of a group have at one place
abbrev pub aggregated : Aggregate → List Value → Value
aggregated aggregates.First values = best_of (λ one other. one) values
aggregated aggregates.Sum values = Whole (wrapped (sum_of values))
aggregated aggregates.Least values = best_of lesser values
aggregated aggregates.Greatest values = best_of greater values

-- lines with equal keys, in the order of the groups' first ones; or each for itself
abbrev pub groups_in : Bool → List Line → List (List Line)
groups_in alone lines =
    if alone then map (λ line. line ∷ []) lines
    else map (λ key. filter (λ line. are_equal key line.key) lines) (firsts (map (λ line. line.key) lines))

-- what is answered at a place of each group, and at the places from one on
abbrev pub answered_at : List (List Line) → Aggregate → ℕ → Row
answered_at groups aggregate place =
    map (λ group. aggregated aggregate (map (λ line. value_at line.values place) group)) groups

abbrev pub answered_from : List (List Line) → ℕ → List Aggregate → List Row
answered_from groups place [] = []
answered_from groups place (aggregate ∷ later) =
    answered_at groups aggregate place ∷ answered_from groups (suc place) later

-- what was gathered: the keys of the groups, column by column, and what is answered of them at each place; and, where lines
-- aren't alone, buckets in which groups are found by their keys, with room for so many
pub record TalliesState : Type 0 where
  pub alone : Bool
  pub aggregates : List Aggregate
  pub keys : List Row
  pub columns : List Row
  pub count : ℕ
  pub room : ℕ
  pub buckets : BucketsState

-- the keys are those of the groups of some lines, each as long as there are columns of keys
pub record IsKeyed (alone : Bool) (lines : List Line) (keys : List Row) (count : ℕ) : Type 0 where
  pub rows : alone ≡ false → map (row_at keys) (upto count) ≡ firsts (map (λ line. line.key) lines)
  pub long : alone ≡ false → AllByRecursion (λ values. length values ≡ count) keys
  pub wide : alone ≡ false → AllByRecursion (λ line. length line.key ≡ length keys) lines

-- it is that of some lines
pub record IsTally (lines : List Line) (tallies : TalliesState) : Type 0 where
  pub count : tallies.count ≡ length (groups_in tallies.alone lines)
  pub keys : IsKeyed tallies.alone lines tallies.keys tallies.count
  pub columns : tallies.columns ≡ answered_from (groups_in tallies.alone lines) 0 tallies.aggregates
  pub found : tallies.alone ≡ false → AreFound tallies.buckets.buckets tallies.room tallies.keys tallies.count
