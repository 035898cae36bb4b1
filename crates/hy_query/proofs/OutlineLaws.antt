-- Outlines of queries that get longer.
use Rattle.std.specs.Prelude.{◌≡◌, ◌++◌, ◌||◌, Bool, true, false, List, [], ◌∷◌, IsSome, refl}
use Rattle.std.specs.List.{list_any}
use Rattle.std.proofs.Common.{arith, ap, sym, ◌∙◌, length-append}
use Rattle.std.proofs.lemmas.List.Folds.{list_any-append}
use Rattle.std.proofs.lemmas.Bool.{ne_eqb, not_from_false}
use Rattle.hy_query.specs.declared.column.Column.{Column}
use Rattle.hy_query.specs.declared.outline.Outline.{Outline}
use Rattle.hy_query.specs.Columns.{kind_of}
use Rattle.hy_query.specs.Language.{is_column, with_group}
use Rattle.hy_query.specs.Queries.{QueryState}
use Rattle.hy_query.specs.inside.ColumnSets.{has_column}
use Rattle.hy_query.specs.inside.Outlines.{IsOutline}

-- a column among some and one more
list_any-more : (column new : Column) (groups : List Column)
    → list_any (is_column column) (groups ++ new ∷ []) ≡ (list_any (is_column column) groups || is_column column new)
list_any-more column new groups =
    list_any-append (is_column column) groups (new ∷ [])
    ∙ ap (λ last. list_any (is_column column) groups || last) (or_false (is_column column new))
  where
    or_false : (test : Bool) → (test || false) ≡ test
    or_false true = refl
    or_false false = refl

-- one group more
pub IsOutline-group : (outline : Outline) (query : QueryState) (new : Column) (set : List (List Bool))
    → ((column : Column) → IsSome (kind_of column)
    → has_column set column ≡ (has_column outline.groups column || is_column column new))
    → IsOutline outline query → IsOutline (record outline { groups = set; has_groups = true }) (with_group query new)
IsOutline-group outline query new set grown is = record {
  tables = is.tables;
  groups = λ column known. grown column known ∙ ap (λ has. has || is_column column new) (is.groups column known)
      ∙ sym (list_any-more column new query.groups);
  has_groups = sym (not_from_false _ (ne_eqb _ 0 (λ none. omega (arith, none, length-append query.groups (new ∷ [])))));
  item_count = is.item_count;
  has_plain = is.has_plain;
  has_aggregates = is.has_aggregates;
}
