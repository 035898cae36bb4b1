use Rattle.hy_columns.proofs.items.item_values.Goals as goal
use Rattle.std.proofs.Common.{◌≡◌, List, pos, refl, ap, ◌∙◌, arith}
use Rattle.hy_rows.specs.declared.item.Item.{Item}
use Rattle.hy_rows.specs.declared.value.Value.TheVariants.{Text, Whole}
use Rattle.hy_columns.specs.Columns.{values_of}
use Rattle.hy_columns.specs.inside.Items.{items_in}
use Rattle.hy_columns.proofs.ItemLaws.{values-of_column}
use Rattle.hy_columns.proofs.items.item_values.Goals.{in-0+in_ok-read_blocks-in-0, in-1+in_ok-read_blocks-in-1, in-2+in_ok-read_blocks-in-2, in_default+in_ok-read_blocks-in_default}

pub returns : goal.returns
returns c =
    let items : List Item = items_in c.args.items.now c.args.blocks.now in
    elim c.match-place.branch [
      | in-0+in_ok-read_blocks-in-0 w ↦
          ap values_of w.values-is ∙ w.in_ok-read_blocks-in-0.ensures
          ∙ values-of_column (λ item. Whole (pos item.id)) items c.args.place 0 w.in-0.is (λ item. refl)
      | in-1+in_ok-read_blocks-in-1 w ↦
          ap values_of w.values-is ∙ w.in_ok-read_blocks-in-1.ensures
          ∙ values-of_column (λ item. Whole (pos item.image)) items c.args.place 1 w.in-1.is (λ item. refl)
      | in-2+in_ok-read_blocks-in-2 w ↦
          ap values_of w.values-is ∙ w.in_ok-read_blocks-in-2.ensures
          ∙ values-of_column (λ item. Text item.name) items c.args.place 2 w.in-2.is (λ item. refl)
      | in_default+in_ok-read_blocks-in_default w ↦
          let last : c.args.place ≡ 3 = omega arith in
          ap values_of w.values-is ∙ w.in_ok-read_blocks-in_default.ensures
          ∙ values-of_column (λ item. Whole (pos item.price)) items c.args.place 3 last (λ item. refl)
    ]
