-- The columns of ITEM.
use Rattle.std.proofs.Common.{◌≡◌, ℕ, List, map, refl, sym, ap, ap₂, ◌∙◌, [], ◌∷◌}
use Rattle.hy_rows.specs.declared.value.Value.{Value}
use Rattle.hy_rows.specs.Rows.{item_values, value_at}
use Rattle.hy_rows.specs.declared.item.Item.{Item}
use Rattle.hy_columns.specs.Columns.{column_at}

-- what is read of each item is what its row has at the column's place
values-of_items : (value_in : Item → Value) (items : List Item) (place : ℕ)
    → ((item : Item) → value_in item ≡ value_at (item_values item) place)
    → map value_in items ≡ column_at place (map item_values items)
values-of_items value_in [] place same = refl
values-of_items value_in (item ∷ items) place same =
    ap₂ (λ first others. first ∷ others) (same item) (values-of_items value_in items place same)

-- the same for the column at a place that a test has told
pub values-of_column : (value_in : Item → Value) (items : List Item) (place at : ℕ) → place ≡ at
    → ((item : Item) → value_in item ≡ value_at (item_values item) at)
    → map value_in items ≡ column_at place (map item_values items)
values-of_column value_in items place at is_place same =
    values-of_items value_in items at same ∙ ap (λ p. column_at p (map item_values items)) (sym is_place)
