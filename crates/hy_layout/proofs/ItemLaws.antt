-- The items of a load have the numbers 1, 2, 3 and so on.
use Rattle.std.proofs.Common.{◌≡◌, ℕ, ◌&&◌, Bool, true, false, List, [], ◌∷◌, length, refl, sym, ap₂, ◌∙◌}
use Rattle.std.specs.List.{list_all, list_any}
use Rattle.std.proofs.lemmas.Bool.{false≢true}
use Rattle.hy_rows.specs.Ranges.{is_between}
use Rattle.hy_rows.specs.declared.item.Item.{Item}
use Rattle.hy_schema.specs.Loads.{HasSome, IsItemAt, IsRight}
use Rattle.hy_schema.specs.Related.{is_item}
use Rattle.hy_loads.proofs.ThereLaws.{HasItems-right}
use Rattle.hy_commands.specs.declared.command.Command.{Command}
use Rattle.hy_commands.specs.declared.command.PurchaseLine.{PurchaseLine}
use Rattle.hy_commands.specs.Commands.{are_items_up_to, lines_ordered}
use Rattle.hy_commands.specs.NewOrders.{has_item}
use Rattle.hy_commands.specs.Transactions.{has_items}

module _ (items : List Item) (right : IsRight IsItemAt (HasSome items) items) where
  item-there : (number : ℕ) → is_between 1 (length items) number ≡ list_any (is_item number) items
  item-there number = by (is_between 1 (length items) number) refl (list_any (is_item number) items) refl
    where
      by : (between : Bool) → is_between 1 (length items) number ≡ between → (found : Bool)
          → list_any (is_item number) items ≡ found → between ≡ found
      by true one true other = refl
      by false one false other = refl
      by true one false other =
          let has = HasItems-right items right number in absurd (false≢true (sym other ∙ has.1 one))
      by false one true other =
          let has = HasItems-right items right number in absurd (false≢true (sym one ∙ has.0 other))

  lines-there : (lines : List PurchaseLine)
      → list_all (λ (line : PurchaseLine). is_between 1 (length items) line.item) lines ≡ list_all (has_item items) lines
  lines-there [] = refl
  lines-there (line ∷ lines) = ap₂ (λ a b. a && b) (item-there line.item) (lines-there lines)

  -- so a load has those that a command names where their numbers are so small
  pub items-there : (command : Command) → are_items_up_to (length items) command ≡ has_items items command
  items-there command = lines-there (lines_ordered command)
