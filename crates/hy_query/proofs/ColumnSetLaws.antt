-- Flags of columns.
use Rattle.std.specs.Prelude.{◌≡◌, ◌≢◌, ℕ, ◌==◌, ◌<◌, ◌||◌, ◌&&◌, Bool, true, false, List, [], length, slice_get, slice_set, slice_index_or, Option, None, Some, IsSome, option_map, refl}
use Rattle.std.proofs.Common.{arith, ap, inl, inr, sym, ◌∙◌, get_or-set_other, get_or-set_same}
use Rattle.std.proofs.lemmas.Bool.{false≢true, cases_Bool, eqb-true, eq-eqb, or_right}
use Rattle.std.proofs.lemmas.Option.{slice_get_within}
use Rattle.hy_rows.specs.Catalogue.{columns_of, max_columns, place_of}
use Rattle.hy_rows.specs.Columns.{Column as ColumnDefinition}
use Rattle.hy_rows.specs.declared.catalogue.TheConstants.{TABLES}
use Rattle.hy_rows.specs.Spelling.{list_at}
use Rattle.hy_rows.proofs.CatalogueLaws.{columns-few, place-few}
use Rattle.hy_query.specs.declared.column.Column.{Column}
use Rattle.hy_query.specs.Columns.{kind_in, kind_of}
use Rattle.hy_query.specs.Language.{is_column}
use Rattle.hy_query.specs.inside.ColumnSets.{has_column}

-- a column has one of a few places
column-few : (column : Column) → IsSome (kind_of column) → column.place < max_columns
column-few column known =
    let within = by_entry (slice_get (columns_of column.table) column.place) refl known in
    omega (arith, columns-few column.table, within)
  where
    by_entry : (entry : Option ColumnDefinition) → slice_get (columns_of column.table) column.place ≡ entry
        → IsSome (option_map (λ definition. kind_in definition.domain) entry)
        → column.place < length (columns_of column.table)
    by_entry None is known = absurd (false≢true known)
    by_entry (Some entry) is known = slice_get_within (columns_of column.table) column.place entry is

-- `or` with false changes nothing
or_false : (flag : Bool) → flag ≡ (flag || false)
or_false true = refl
or_false false = refl

-- a set with one column more
pub has_column-insert : (set : List (List Bool)) (column other : Column) (at : ℕ) (new : List Bool) → length set ≡ TABLES
    → length (list_at set at) ≡ max_columns → IsSome (kind_of column) → at ≡ place_of column.table
    → new ≡ slice_set (list_at set at) column.place true
    → has_column (slice_set set at new) other ≡ (has_column set other || is_column other column)
has_column-insert set column other at new many long known is_at is_new =
    let flags = list_at set at in
    let row_there : at < length set = omega (arith, many, is_at, place-few column.table) in
    let flag_there : column.place < length flags = omega (arith, long, column-few column known) in
    elim (cases_Bool (place_of other.table == place_of column.table)) [
      | inl same_table ↦
          let here : place_of other.table ≡ at = eqb-true _ _ same_table ∙ sym is_at in
          let row : list_at (slice_set set at new) (place_of other.table) ≡ slice_set flags column.place true =
          ap (λ place. list_at (slice_set set at new) place) here ∙ get_or-set_same set at new [] row_there ∙ is_new in
          let read = ap (λ flags. slice_index_or flags other.place false) row in
          let was = ap (λ place. slice_index_or (list_at set place) other.place false) here in
          elim (cases_Bool (other.place == column.place)) [
            | inl same_place ↦
                let set_here = ap (λ place. slice_index_or (slice_set flags column.place true) place false)
                (eqb-true _ _ same_place) ∙ get_or-set_same flags column.place true false flag_there in
                read ∙ set_here ∙ sym (or_right (has_column set other) _ (and_true _ _ same_table same_place))
            | inr elsewhere ↦
                read ∙ get_or-set_other flags column.place other.place true false (differ elsewhere) ∙ sym was
                ∙ rw (same_table, elsewhere) (or_false (has_column set other))
          ]
      | inr elsewhere ↦
          ap (λ flags. slice_index_or flags other.place false)
          (get_or-set_other set at (place_of other.table) new [] (λ here. differ elsewhere (here ∙ is_at)))
          ∙ rw elsewhere (or_false (has_column set other))
    ]
  where
    differ : {one other : ℕ} → (one == other) ≡ false → one ≢ other
    differ {one} {other} elsewhere same = false≢true (sym elsewhere ∙ eq-eqb one other same)

    and_true : (one other : Bool) → one ≡ true → other ≡ true → (one && other) ≡ true
    and_true true other here there = there
    and_true false other here there = here
